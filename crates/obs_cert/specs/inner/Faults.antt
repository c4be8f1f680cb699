-- What is said of a certificate that is not read.
use Rattle.std.specs.Prelude.{◌≡◌, Option, None, Some}
use Rattle.obs_text.specs.Faults.{Fault}
use Rattle.obs_text.specs.inner.Faults.{fault_of}
use Rattle.obs_text.specs.declared.faults.InputFault.{InputFault}
use Rattle.obs_cert.specs.declared.fault.CertEnd.{CertEnd}
use Rattle.obs_cert.specs.declared.fault.CertEnd.TheVariants as end
use Rattle.obs_cert.specs.declared.fault.CertFault.{CertFault}
use Rattle.obs_cert.specs.Faults.{cert_fault}

-- an input fault that says what a certificate's fault is
abbrev pub IsOfCert : CertFault → InputFault → Type 0
IsOfCert fault given = fault_of given ≡ cert_fault fault

-- what is said of a certificate that isn't read: its fault, or nothing where memory was wanting
abbrev pub cert_end_fault : CertEnd → Option Fault
cert_end_fault (end.Fault fault) = Some (cert_fault fault)
cert_end_fault end.NoMemory = None
