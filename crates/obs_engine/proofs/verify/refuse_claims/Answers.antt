use Rattle.std.proofs.Common.{◌≡◌, ◌∙◌, List, ℕ, refl}
use Rattle.obs_cert.specs.FlawNames.{flaw_code, flaw_name}
use Rattle.obs_report.specs.Totals.{flaw_line}
use Rattle.obs_files.specs.declared.status.Status.TheVariants.{Short}
use Rattle.obs_engine.specs.Verify.{flaw_reply}
use Rattle.obs_engine.proofs.Asked.{appends_as}
use Rattle.obs_engine.proofs.Endings.{replied_so}
use Rattle.obs_engine.proofs.verify.refuse_claims.Goals as goal

flaw_as : (claim claim_now code code_now : ℕ) (name name_now : List ℕ) → claim ≡ claim_now → code ≡ code_now → name ≡ name_now → flaw_line claim code name ≡ flaw_line claim_now code_now name_now
flaw_as claim claim_now code code_now name name_now p q r = λ i. flaw_line (p i) (q i) (r i)

pub returns : goal.returns
returns g c =
    let f = c.args.flaw in
    let text = flaw_as c.from-claim.result f.claim c.from.result (flaw_code f.code) c.name.result.now (flaw_name f.code) c.from-claim.ensures (c.from.ensures ∙ c.code.ensures.code) c.name.ensures.name in
    record {
      replied = replied_so (flaw_reply f) c.print_flaw-outcome.result Short c.printed_status.result c.printed_status.ensures.status refl (λ e. absurd cc) (λ e. absurd cc)
          (appends_as text c.print_flaw-outcome.ensures.appends);
    }
