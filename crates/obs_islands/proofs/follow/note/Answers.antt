use Rattle.std.proofs.Common.{◌≤◌, arith}
use Rattle.obs_islands.specs.inner.Rounds.{noted}
use Rattle.obs_islands.proofs.Following.{IsQueue-kept, IsQueue-push, queue_room}
use Rattle.obs_islands.proofs.Noting.{noted_is}
use Rattle.obs_islands.proofs.follow.note.Goals as goal
use Rattle.obs_islands.proofs.follow.note.Goals.{then-lowest-v, else-lowest-v}

pub push-requires : goal.push-requires
push-requires c =
    let read = noted_is c.args.lowest.now c.args.v 0 c.requires.v in
    record { room = queue_room c.args.positions c.args.lowest.now c.args.queue.now c.args.tail.now c.requires.queue c.args.v c.requires.v (omega (arith, read, c.if-lowest-v.true)) }

pub returns-clause-queue : goal.returns-clause-queue
returns-clause-queue c =
    let read = noted_is c.args.lowest.now c.args.v 0 c.requires.v in
    elim c.if-lowest-v.branch [
      | then-lowest-v w ↦
          let bare : c.args.positions ≤ noted c.args.lowest.now c.args.v = omega (arith, read, w.if-lowest-v.true) in
          rw (w.queue-is, w.tail-is, w.push.ensures.queue, w.push.ensures.tail)
          (IsQueue-push c.args.positions c.args.lowest.now c.args.queue.now c.args.tail.now c.requires.queue c.args.v c.args.e c.lower.new.lowest c.lower.auto.lowest c.requires.v c.requires.e c.lower.ensures.noted bare
          (queue_room c.args.positions c.args.lowest.now c.args.queue.now c.args.tail.now c.requires.queue c.args.v c.requires.v bare))
      | else-lowest-v w ↦ rw (w.queue-is, w.tail-is)
          (IsQueue-kept c.args.positions c.args.lowest.now c.args.queue.now c.args.tail.now c.requires.queue c.args.v c.args.e c.lower.new.lowest c.lower.auto.lowest c.requires.v c.requires.e c.lower.ensures.noted
          (omega (arith, read, w.if-lowest-v.false)))
    ]
