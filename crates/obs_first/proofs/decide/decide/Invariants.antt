use Rattle.std.proofs.Common.{take}
use Rattle.obs_meter.specs.Touches.{touch_at}
use Rattle.obs_first.proofs.Deciding.{IsTrying}
use Rattle.obs_first.proofs.decide.decide.Given as goal

abbrev pub invariant-loop-e : goal.invariant-loop-e
invariant-loop-e g l = IsTrying l.over.graph.now l.over.meters.now.touches l.fn.a l.a l.fn.work l.work l.m l.rank (take l.e-index (touch_at l.over.graph.now.ends l.over.meters.now.touches l.m))
