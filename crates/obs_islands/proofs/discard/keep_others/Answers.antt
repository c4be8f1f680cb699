use Rattle.std.proofs.Common.{◌∙◌, ◌<◌, ◌≤◌, List, length, sym, ap, arith}
use Rattle.obs_meter.specs.declared.Touch.{Touch}
use Rattle.obs_meter.specs.Held.{Meters}
use Rattle.obs_islands.specs.inner.Rounds.{noted, remaining}
use Rattle.obs_islands.proofs.Crossing.{Keeping-ended, Keeping-same}
use Rattle.obs_islands.proofs.discard.keep_others.Goals as goal

pub loop-m-preserved-then-not-is_straddling : goal.loop-m-preserved-then-not-is_straddling
loop-m-preserved-then-not-is_straddling c =
    let l = c.loop-m in
    let lowest = noted c.args.lowest.now in
    let before = c.args.used.now.touches in
    let low : l.m < length before = omega (arith, c.loop-m-test.true, l.auto.m-end, c.count-m-end.ensures.count) in
    let f = sym c.is_straddling.ensures.value ∙ c.if-not-is_straddling.true in
    record { keeping = Keeping-same c.args.g.now.ends lowest before l.used.touches l.m l.some l.invariant.keeping low f; most = l.invariant.most }

pub returns-clause-remaining : goal.returns-clause-remaining
returns-clause-remaining c =
    let l = c.loop-m in
    let lowest = noted c.args.lowest.now in
    let before = c.args.used.now.touches in
    let all : length before ≤ l.m = omega (arith, c.loop-m-test.false, l.auto.m-end, c.count-m-end.ensures.count) in
    let is = Keeping-ended c.args.g.now.ends lowest before l.used.touches l.m l.some l.invariant.keeping all in
    ap (λ (t : List Touch). let i : Meters = record { touches = t; most = l.used.most } in i) is
    ∙ ap (λ n. let i : Meters = record { touches = remaining c.args.g.now.ends lowest before; most = n } in i) l.invariant.most
