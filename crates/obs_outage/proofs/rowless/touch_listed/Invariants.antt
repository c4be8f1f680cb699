use Rattle.obs_outage.specs.inner.Without.{left_if}
use Rattle.obs_outage.proofs.Touching.{IsTouching}
use Rattle.obs_outage.proofs.rowless.touch_listed.Given as goal

abbrev pub invariant-loop-m : goal.invariant-loop-m
invariant-loop-m l = IsTouching (left_if l.g.ends l.fn.out l.fn.e) l.list l.ms.touches l.fn.less.touches l.m-index l.less.touches
