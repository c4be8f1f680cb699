use Rattle.std.proofs.Common.{◌<◌, length, arith}
use Rattle.obs_cert.proofs.JoinLemmas.{low_once, low_twice, shorter_none, shorter_next}
use Rattle.obs_cert.proofs.joins.first.Goals as goal

pub loop-ups-init : goal.loop-ups-init
loop-ups-init c = shorter_none c.args.ups.now c.args.v c.requires.low

pub bounds-ups-v : goal.bounds-ups-v
bounds-ups-v c = omega (arith, c.loop-ups.invariant.under, c.loop-ups.auto.ups, c.requires.v)

pub bounds-ups-v-in-loop-ups : goal.bounds-ups-v-in-loop-ups
bounds-ups-v-in-loop-ups c = omega (arith, c.loop-ups.invariant.under, c.loop-ups.auto.ups, c.requires.v)

pub bounds-ups-ups : goal.bounds-ups-ups
bounds-ups-ups c =
    let l = c.loop-ups in
    let in_v : l.v < length l.ups = omega (arith, l.invariant.under, l.auto.ups, c.requires.v) in
    omega (arith, in_v, low_once c.args.ups.now l.ups c.args.v l.v l.invariant in_v c.loop-ups-test.true)

pub bounds-ups-v-in-loop-ups-2 : goal.bounds-ups-v-in-loop-ups-2
bounds-ups-v-in-loop-ups-2 c = omega (arith, c.loop-ups.invariant.under, c.loop-ups.auto.ups, c.requires.v)

pub loop-ups-smaller : goal.loop-ups-smaller
loop-ups-smaller c =
    let l = c.loop-ups in
    let in_v : l.v < length l.ups = omega (arith, l.invariant.under, l.auto.ups, c.requires.v) in
    omega (arith, low_once c.args.ups.now l.ups c.args.v l.v l.invariant in_v c.loop-ups-test.true, low_twice c.args.ups.now l.ups c.args.v l.v l.invariant in_v c.loop-ups-test.true)

pub loop-ups-preserved : goal.loop-ups-preserved
loop-ups-preserved c =
    let l = c.loop-ups in
    shorter_next c.args.ups.now l.ups c.args.v l.v l.invariant (omega (arith, l.invariant.under, l.auto.ups, c.requires.v)) c.loop-ups-test.true

pub returns : goal.returns
returns c =
    let i = c.loop-ups.invariant in
    record { low = i.low; same_tops = λ u. (i.back u, i.on u); top = c.loop-ups-test.false; below = i.under; first = i.firsts; joined = i.joined }
