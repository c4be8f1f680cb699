use Rattle.std.proofs.Common.{arith}
use Rattle.obs_graph.proofs.Marked.{present-marked, part-marked}
use Rattle.obs_graph.proofs.rank.hold_marked.Goals as goal

pub returns-clause-present : goal.returns-clause-present
returns-clause-present c = present-marked c.args.g.now.ends c.args.marked.now c.loop-p.held (omega arith) (omega arith) (λ k l. c.loop-p.invariant k (omega (arith, c.positions-p-end.ensures.count)))

pub returns-clause-part : goal.returns-clause-part
returns-clause-part c = part-marked c.args.g.now.ends c.args.marked.now c.loop-p.held (omega arith) (λ k l. c.loop-p.invariant k (omega (arith, c.positions-p-end.ensures.count)))
