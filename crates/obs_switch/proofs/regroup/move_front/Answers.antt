use Rattle.std.proofs.Common.{◌+◌, ◌-◌, arith}
use Rattle.obs_switch.proofs.Moving.{rotated_front}
use Rattle.obs_switch.proofs.regroup.move_front.Goals as goal

pub returns : goal.returns
returns c = record {
  moved = λ front item between behind is at ends.
      rotated_front front item between behind c.args.members.now c.args.to (c.args.from + 1 - c.args.to) c.rotate_right.new.self is at (omega (arith, at, ends)) c.rotate_right.ensures.after;
}
