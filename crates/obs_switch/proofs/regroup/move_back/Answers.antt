use Rattle.std.proofs.Common.{◌+◌, ◌-◌, arith}
use Rattle.obs_switch.proofs.Moving.{rotated_back}
use Rattle.obs_switch.proofs.regroup.move_back.Goals as goal

pub returns : goal.returns
returns c = record {
  moved = λ front item between behind is at ends.
      rotated_back front item between behind c.args.members.now c.args.from (c.args.to + 1 - c.args.from) c.rotate_left.new.self is at (omega (arith, at, ends)) c.rotate_left.ensures.after;
}
