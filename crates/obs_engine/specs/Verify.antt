-- The reply to a certificate: whether each of its claims holds of a case.
use Rattle.std.specs.Prelude.{ℕ, List, length, Option, None, Some, Result, Ok, Err}
use Rattle.obs_case.specs.Tables.{Tables}
use Rattle.obs_matroid.specs.Lists.{In}
use Rattle.obs_cert.specs.declared.fault.CertFault.{CertFault}
use Rattle.obs_cert.specs.declared.flaw.Flaw.{Flaw}
use Rattle.obs_cert.specs.Claims.{Claim}
use Rattle.obs_cert.specs.Faults.{cert_fault}
use Rattle.obs_cert.specs.FlawNames.{flaw_code, flaw_name}
use Rattle.obs_cert.specs.Flaws.{Holds, first_flaw}
use Rattle.obs_cert.specs.Read.{claims_of}
use Rattle.obs_report.specs.Totals.{flaw_line, valid_line}
use Rattle.obs_files.specs.declared.status.Status.TheVariants.{Done, Short}
use Rattle.obs_engine.specs.Replies.{Reply, fault_reply}

-- the reply to claims that all hold: how many they are
abbrev pub valid_reply : ℕ → Reply
valid_reply claims = record { status = Done; text = valid_line claims }

-- the reply to claims of which one fails: the number of the first that does, and its flaw
abbrev pub flaw_reply : Flaw → Reply
flaw_reply flaw = record { status = Short; text = flaw_line flaw.claim (flaw_code flaw.code) (flaw_name flaw.code) }

-- the reply to so many claims, by the flaw of the first that fails, where one does
abbrev pub checked_reply : ℕ → Option Flaw → Reply
checked_reply claims None = valid_reply claims
checked_reply claims (Some flaw) = flaw_reply flaw

-- the reply to the claims that a certificate is, or to the fault for which it is none
abbrev pub claims_reply : Tables → Result (List Claim) CertFault → Reply
claims_reply t (Ok claims) = checked_reply (length claims) (first_flaw t 1 claims)
claims_reply t (Err fault) = fault_reply (cert_fault fault)

-- the reply to a case and the bytes of a certificate
abbrev pub verify_reply : Tables → List ℕ → Reply
verify_reply t certificate = claims_reply t (claims_of certificate)

-- each of these claims holds of a case
abbrev pub AllHold : Tables → List Claim → Type 0
AllHold t claims = (claim : Claim) → In claim claims → Holds t claim
