use Rattle.std.proofs.Common.{◌<◌, length, get_or, refl, ap, arith}
use Rattle.obs_meter.specs.Held.{Meters}
use Rattle.obs_outage.specs.inner.Without.{left_if}
use Rattle.obs_outage.proofs.Touching.{Touching-all, Touching-next}
use Rattle.obs_outage.proofs.rowless.touch_listed.Goals as goal

pub loop-m-preserved : goal.loop-m-preserved
loop-m-preserved c =
    let a = c.args in
    let l = c.loop-m in
    let test = c.loop-m-test.true in
    let one = c.requires.one_each in
    let m = get_or a.list.now l.m-index 0 in
    let low : m < length a.ms.now.touches = c.requires.low l.m-index 0 test in
    rw (ap (λ (x : Meters). x.touches) c.set.ensures.set)
    (Touching-next (left_if a.g.now.ends a.out a.e) a.list.now a.ms.now.touches a.less.now.touches l.m-index l.less.touches m c.left_if.result refl (omega (arith, low, one)) c.left_if.ensures.touch l.invariant)

pub returns : goal.returns
returns c =
    let a = c.args in
    record { touched = Touching-all (left_if a.g.now.ends a.out a.e) a.list.now a.ms.now.touches a.less.now.touches c.loop-m.m-index c.loop-m.less.touches (omega arith) c.loop-m.invariant }
