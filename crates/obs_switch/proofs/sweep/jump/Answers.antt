use Rattle.std.proofs.Common.{arith}
use Rattle.obs_switch.proofs.Jumping.{jumped_more, jumped_still}
use Rattle.obs_switch.proofs.sweep.jump.Goals.{then-label-labels, else-label-labels}
use Rattle.obs_switch.proofs.sweep.jump.Goals as goal

pub loop-node-preserved : goal.loop-node-preserved
loop-node-preserved c = elim c.if-label-labels.branch [
  | then-label-labels w ↦
      rw (w.labels-is, w.changed-is) (jumped_more c.args.links.now c.args.labels.now c.loop-node.labels c.loop-node.node c.loop-node.changed c.loop-node.invariant (omega arith) w.if-label-labels.true)
  | else-label-labels w ↦
      rw (w.labels-is, w.changed-is) (jumped_still c.args.links.now c.args.labels.now c.loop-node.labels c.loop-node.node c.loop-node.changed c.loop-node.invariant (omega arith) w.if-label-labels.false)
]
