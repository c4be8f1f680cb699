use Rattle.std.proofs.Common.{arith}
use Rattle.obs_islands.proofs.Remaining.{left_more}
use Rattle.obs_islands.proofs.left.hold_left.Goals as goal

pub loop-e-preserved : goal.loop-e-preserved
loop-e-preserved c = record {
  done = left_more c.args.over.now.graph.now.ends c.args.used.now.touches c.args.over.now.pairs.now c.loop-e.held c.loop-e.e c.left_branch.result (omega (arith, c.loop-e-test.true, c.loop-e.auto.held)) c.loop-e.invariant.done c.left_branch.ensures.left;
}
