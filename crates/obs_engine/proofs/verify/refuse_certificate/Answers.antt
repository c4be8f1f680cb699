use Rattle.std.proofs.Common.{◌≡◌, ◌∙◌, List, Result, Some, ap, sym}
use Rattle.std.specs.Prelude.{option_map}
use Rattle.obs_case.specs.Tables.{Tables}
use Rattle.obs_cert.specs.Claims.{Claim}
use Rattle.obs_cert.specs.Faults.{cert_fault}
use Rattle.obs_cert.specs.inner.Faults.{cert_end_fault}
use Rattle.obs_cert.specs.inner.Read.{EndsCert}
use Rattle.obs_cert.specs.declared.fault.CertEnd.{CertEnd}
use Rattle.obs_cert.specs.declared.fault.CertEnd.TheVariants.{Fault as FaultEnd, NoMemory}
use Rattle.obs_cert.specs.declared.fault.CertFault.{CertFault}
use Rattle.obs_text.specs.Faults.{Fault}
use Rattle.obs_text.specs.inner.Faults.{fault_of}
use Rattle.obs_engine.specs.Replies.{fault_reply}
use Rattle.obs_engine.specs.Verify.{claims_reply}
use Rattle.obs_engine.proofs.Endings.{replied_as, replied_memory}
use Rattle.obs_engine.proofs.verify.refuse_certificate.Goals as goal

refused_is : (t : Tables) (stated : Result (List Claim) CertFault) (end : CertEnd) (fault : Fault) → Some fault ≡ cert_end_fault end → EndsCert stated end → fault_reply fault ≡ claims_reply t stated
refused_is t stated (FaultEnd f) fault e ends = let same : fault ≡ cert_fault f = cc in ap fault_reply same ∙ ap (λ (r : Result (List Claim) CertFault). claims_reply t r) (sym ends)
refused_is t stated NoMemory fault e ends = absurd cc

pub returns-in-Some : goal.returns-in-Some
returns-in-Some g c = record {
  replied = λ t stated ends. replied_as (refused_is t stated c.args.end (fault_of c.in-Some.fault) (sym (ap (option_map fault_of) c.in-Some.is) ∙ c.fault.ensures.fault) ends) c.refuse.ensures.replied;
}

pub returns-in-None : goal.returns-in-None
returns-in-None g c = record { replied = λ t stated ends. replied_memory (claims_reply t stated) }
