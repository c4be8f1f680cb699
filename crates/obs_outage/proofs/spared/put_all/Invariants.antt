use Rattle.std.proofs.Common.{take}
use Rattle.obs_outage.specs.inner.Sparing.{ArePut, HasPut}
use Rattle.obs_outage.proofs.spared.put_all.Given as goal

abbrev pub invariant-loop-e : goal.invariant-loop-e
invariant-loop-e l = ArePut l.g.ends l.fn.part (take l.e-index l.positions) l.part × HasPut l.g.ends l.fn.part (take l.e-index l.positions) l.part
