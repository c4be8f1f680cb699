use Rattle.std.proofs.Common.{◌<◌, length, None, get_or, sym, ◌∙◌, arith}
use Rattle.obs_assign.proofs.Choosing.{IfSome-by}
use Rattle.obs_assign.proofs.retain.keep_touched.Goals as goal

pub kept_slot-requires-clause-low : goal.kept_slot-requires-clause-low
kept_slot-requires-clause-low c = IfSome-by (λ e. e < length c.args.g.now.ends) (get_or c.loop-m.slots c.loop-m.m None)
    (λ e h. c.requires.low c.loop-m.m e (sym (c.loop-m.invariant.above c.loop-m.m (omega arith)) ∙ h))
