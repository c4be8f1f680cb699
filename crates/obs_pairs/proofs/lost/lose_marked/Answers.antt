use Rattle.std.proofs.Common.{arith}
use Rattle.obs_assign.specs.inner.Assignment.{has_flag}
use Rattle.obs_pairs.proofs.Losing.{Left-all, Left-more}
use Rattle.obs_pairs.proofs.lost.lose_marked.Goals as goal

pub loop-m-preserved : goal.loop-m-preserved
loop-m-preserved c =
    let e = c.count-m-end.ensures.count in
    let l = c.loop-m-test.true in
    Left-more (has_flag c.args.marks.now) c.args.ms.now.touches c.args.left.now c.loop-m.left c.set.new.self c.loop-m.m c.touch_left.result (omega (arith, e, l)) c.loop-m.invariant c.set.ensures.set c.touch_left.ensures.touch

pub returns : goal.returns
returns c =
    let e = c.count-m-end.ensures.count in
    let f = c.loop-m-test.false in
    record { left = Left-all (has_flag c.args.marks.now) c.args.ms.now.touches c.args.left.now c.loop-m.left c.loop-m.m (omega (arith, e, f)) c.loop-m.invariant }
