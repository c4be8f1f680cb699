-- The status of the reply to a certificate says whether its claims all hold.
use Rattle.std.proofs.Common.{ℕ, ◌≡◌, ap, refl, subst, sym, List, length, Option, None, Some, Result, Ok, Err}
use Rattle.std.specs.Prelude.{◌↔◌}
use Rattle.obs_case.specs.Tables.{Tables}
use Rattle.obs_cert.specs.declared.fault.CertFault.{CertFault}
use Rattle.obs_cert.specs.declared.flaw.Flaw.{Flaw}
use Rattle.obs_cert.specs.Claims.{Claim}
use Rattle.obs_cert.specs.Flaws.{first_flaw}
use Rattle.obs_cert.specs.Read.{claims_of}
use Rattle.obs_cert.proofs.TruthLemmas.{no_flaw}
use Rattle.obs_files.specs.declared.status.Status.TheVariants.{Done, Short}
use Rattle.obs_engine.specs.Verify.{AllHold, checked_reply, claims_reply, verify_reply}

checked-done : (count : ℕ) (o : Option Flaw) → (checked_reply count o).status ≡ Done → o ≡ None
checked-done count None e = refl
checked-done count (Some flaw) e = absurd cc

checked-short : (count : ℕ) (o : Option Flaw) → (checked_reply count o).status ≡ Short → o ≡ None → ⊥
checked-short count None e none = absurd cc
checked-short count (Some flaw) e none = absurd cc

checked-some : (count : ℕ) (o : Option Flaw) → (o ≡ None → ⊥) → (checked_reply count o).status ≡ Short
checked-some count None some = absurd (some refl)
checked-some count (Some flaw) some = refl

-- what is read has a reply to claims, where its status is one of the two
claims-done : (t : Tables) (read : Result (List Claim) CertFault) → (claims_reply t read).status ≡ Done → (claims : List Claim) × (read ≡ Ok claims) × (first_flaw t 1 claims ≡ None)
claims-done t (Ok claims) e = (claims, refl, checked-done (length claims) (first_flaw t 1 claims) e)
claims-done t (Err fault) e = absurd cc

claims-short : (t : Tables) (read : Result (List Claim) CertFault) → (claims_reply t read).status ≡ Short → (claims : List Claim) × (read ≡ Ok claims) × (first_flaw t 1 claims ≡ None → ⊥)
claims-short t (Ok claims) e = (claims, refl, checked-short (length claims) (first_flaw t 1 claims) e)
claims-short t (Err fault) e = absurd cc

pub done_holds : (t : Tables) (bytes : List ℕ) → ((verify_reply t bytes).status ≡ Done) ↔ ((claims : List Claim) × (claims_of bytes ≡ Ok claims) × AllHold t claims)
done_holds t bytes = (
  (λ e. let read = claims-done t (claims_of bytes) e in (read.0, read.1, (no_flaw t 1 read.0).0 read.2)),
  (λ held.
      let claims = held.0 in
      subst (λ (read : Result (List Claim) CertFault). (claims_reply t read).status ≡ Done) (sym held.1)
      (ap (λ (o : Option Flaw). (checked_reply (length claims) o).status) ((no_flaw t 1 claims).1 held.2))),
)

pub short_fails : (t : Tables) (bytes : List ℕ) → ((verify_reply t bytes).status ≡ Short) ↔ ((claims : List Claim) × (claims_of bytes ≡ Ok claims) × (AllHold t claims → ⊥))
short_fails t bytes = (
  (λ e. let read = claims-short t (claims_of bytes) e in (read.0, read.1, λ hold. read.2 ((no_flaw t 1 read.0).1 hold))),
  (λ failed.
      let claims = failed.0 in
      subst (λ (read : Result (List Claim) CertFault). (claims_reply t read).status ≡ Short) (sym failed.1)
      (checked-some (length claims) (first_flaw t 1 claims) (λ none. failed.2 ((no_flaw t 1 claims).0 none)))),
)
