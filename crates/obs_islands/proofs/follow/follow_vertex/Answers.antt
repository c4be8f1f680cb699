use Rattle.obs_islands.specs.inner.Rounds.{noted}
use Rattle.obs_islands.proofs.Following.{StillGivesUp-refl, StillGivesUp-then, entry_low}
use Rattle.obs_islands.proofs.follow.follow_vertex.Goals as goal

pub loop-e-init : goal.loop-e-init
loop-e-init c = record {
  gives_up = StillGivesUp-refl c.args.over.now.graph.now.ends c.args.ms.now.touches c.args.over.now.pairs.now (noted c.args.lowest.now);
  noted_there = c.requires.noted;
  queue = c.requires.queue;
}

pub follow_branch-requires-clause-e : goal.follow_branch-requires-clause-e
follow_branch-requires-clause-e c = entry_low c.args.over.now.graph.now.ends c.args.v c.loop-e.e-index c.branches_at-e-items.result.now c.branches_at-e-items.ensures.branches c.loop-e-test.true

pub loop-e-preserved : goal.loop-e-preserved
loop-e-preserved c = record {
  gives_up = StillGivesUp-then c.args.over.now.graph.now.ends c.args.ms.now.touches c.args.over.now.pairs.now (noted c.args.lowest.now) (noted c.loop-e.lowest) (noted c.follow_branch.new.lowest)
      c.loop-e.invariant.gives_up c.follow_branch.ensures.gives_up;
  noted_there = c.follow_branch.ensures.noted;
  queue = c.follow_branch.ensures.queue;
}
