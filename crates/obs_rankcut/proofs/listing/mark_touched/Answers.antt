use Rattle.std.proofs.Common.{List, ℕ, sym, subst}
use Rattle.std.specs.Prelude.{slice_index_or}
use Rattle.obs_meter.specs.declared.Touch.TheVariants.{Nothing}
use Rattle.obs_meter.proofs.Touched.{touched-hub}
use Rattle.obs_rankcut.specs.inner.Marks.{AreMarkedToo}
use Rattle.obs_rankcut.proofs.listing.mark_touched.Goals as goal

pub returns-in-Some-clause-marks : goal.returns-in-Some-clause-marks
returns-in-Some-clause-marks c =
    let is = touched-hub c.args.g.now.ends (slice_index_or c.args.ms.now.touches c.args.m Nothing) c.in-Some.hub (sym c.in-Some.ensures.hub) in
    subst (λ (L : List ℕ). AreMarkedToo c.args.flags.now L c.mark_hub.new.flags) (sym is) c.mark_hub.ensures.marks
