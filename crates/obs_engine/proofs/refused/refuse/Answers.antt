use Rattle.std.proofs.Common.{◌≡◌, List, ℕ, refl}
use Rattle.obs_report.specs.Lines.{fault_line}
use Rattle.obs_text.specs.inner.Faults.{fault_of}
use Rattle.obs_files.specs.declared.status.Status.TheVariants.{InputFault}
use Rattle.obs_engine.specs.Replies.{fault_reply}
use Rattle.obs_engine.proofs.Asked.{appends_as}
use Rattle.obs_engine.proofs.Endings.{replied_so}
use Rattle.obs_engine.proofs.refused.refuse.Goals as goal

fault_as : (part name : List ℕ) (place place_now code code_now : ℕ) → place ≡ place_now → code ≡ code_now → fault_line part place code name ≡ fault_line part place_now code_now name
fault_as part name place place_now code code_now p q = λ i. fault_line part (p i) (q i) name

pub returns : goal.returns
returns g c =
    let f = c.args.fault in
    let text = fault_as f.part.now f.name.now c.from-place.result f.place c.from.result f.code c.from-place.ensures c.from.ensures in
    record {
      replied = replied_so (fault_reply (fault_of f)) c.print_fault-outcome.result InputFault c.printed_status.result c.printed_status.ensures.status refl (λ e. absurd cc) (λ e. absurd cc)
          (appends_as text c.print_fault-outcome.ensures.appends);
    }
