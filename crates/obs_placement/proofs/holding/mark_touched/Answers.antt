use Rattle.std.proofs.Common.{true, get_or, set, subst, ap, ◌∙◌}
use Rattle.obs_matroid.specs.Lists.{In}
use Rattle.obs_matroid.proofs.Contained.{In-get_or}
use Rattle.obs_placement.specs.inner.Holding.{Known}
use Rattle.obs_placement.specs.inner.Taking.{is_known}
use Rattle.obs_placement.proofs.Flagged.{AreTouchedByKnown-set}
use Rattle.obs_placement.proofs.holding.mark_touched.Goals as goal

pub loop-e-preserved : goal.loop-e-preserved
loop-e-preserved c =
    let o = c.args.offer.now in
    let l = c.loop-e in
    let was = l.invariant in
    let L = c.touch-e-items.result.now in
    let e = get_or L l.e-index 0 in
    rw c.touch.ensures.touched (
      record {
        touched = AreTouchedByKnown-set o.graph.now o.items.now.touches l.known.since c.args.m (ap (λ (k : Known). is_known k.since c.args.m) was.1 ∙ c.requires.is_known) l.known.touched e
            (subst (λ xs. In e xs) c.touch-e-items.ensures.touched (In-get_or L l.e-index 0 c.loop-e-test.true)) was.0.touched;
        fronts = was.0.fronts;
      },
      ap (λ (k : Known). record k { touched = set l.known.touched e true }) was.1,
    )
