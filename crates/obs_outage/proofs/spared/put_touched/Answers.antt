use Rattle.std.proofs.Common.{List, ℕ, sym, subst}
use Rattle.std.specs.Prelude.{slice_index_or}
use Rattle.obs_meter.specs.declared.Touch.TheVariants.{Nothing}
use Rattle.obs_meter.proofs.Touched.{touched-hub}
use Rattle.obs_outage.specs.inner.Sparing.{ArePut, HasPut}
use Rattle.obs_outage.proofs.spared.put_touched.Goals as goal

pub returns-in-Some : goal.returns-in-Some
returns-in-Some c =
    let is = touched-hub c.args.g.now.ends (slice_index_or c.args.ms.now.touches c.args.m Nothing) c.in-Some.hub (sym c.in-Some.ensures.hub) in
    record {
      put = subst (λ (L : List ℕ). ArePut c.args.g.now.ends c.args.part.now L c.put_hub.new.part) (sym is) c.put_hub.ensures.put;
      whole = subst (λ (L : List ℕ). HasPut c.args.g.now.ends c.args.part.now L c.put_hub.new.part) (sym is) c.put_hub.ensures.whole;
      known = c.put_hub.ensures.known;
    }
