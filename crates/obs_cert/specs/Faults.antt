-- The numbers and names of faults, and what is said of each.
use Rattle.std.specs.Prelude.{ℕ, List, codes}
use Rattle.obs_text.specs.Faults.{Fault}
use Rattle.obs_cert.specs.declared.fault.CertCode.{CertCode}
use Rattle.obs_cert.specs.declared.fault.CertCode.TheVariants.{BadLine, OutOfPlace, NoEnd, AfterEnd}
use Rattle.obs_cert.specs.declared.fault.CertFault.{CertFault}

-- a fault's number
abbrev pub cert_code : CertCode → ℕ
cert_code BadLine = 1
cert_code OutOfPlace = 2
cert_code NoEnd = 3
cert_code AfterEnd = 4

-- a fault's name in bytes
abbrev pub cert_name : CertCode → List ℕ
cert_name BadLine = codes "BadLine"
cert_name OutOfPlace = codes "OutOfPlace"
cert_name NoEnd = codes "NoEnd"
cert_name AfterEnd = codes "AfterEnd"

-- what is said of a certificate's fault: the certificate, the line, and the fault's number and name
abbrev pub cert_fault : CertFault → Fault
cert_fault fault = record { part = codes "certificate"; place = fault.line; code = cert_code fault.code; name = cert_name fault.code }
