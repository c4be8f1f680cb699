use Rattle.std.proofs.Common.{ℕ, sym, subst}
use Rattle.obs_graph.specs.Positions.{AreBranches}
use Rattle.obs_assign.specs.inner.Assignment.{has_flag}
use Rattle.obs_outage.proofs.Putting.{AreTouchedBy-branches}
use Rattle.obs_outage.proofs.spared.refill_touched.Goals as goal

pub refill-requires-clause-branches : goal.refill-requires-clause-branches
refill-requires-clause-branches c =
    let g = c.args.g.now in
    subst (λ (n : ℕ). AreBranches n c.put_marked.new.part) (sym c.vertices.ensures.value)
    (AreTouchedBy-branches g.ends c.args.ms.now.touches (has_flag c.args.marks.now) g.vertices c.put_marked.new.part c.vertices.ensures.branches c.put_marked.ensures.touched)
