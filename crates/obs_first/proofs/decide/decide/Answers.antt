use Rattle.std.proofs.Common.{◌≡◌, ◌+◌, ◌<◌, ◌∙◌, Bool, true, List, get_or, length, set, sym, ap, subst, arith, take}
use Rattle.std.proofs.lemmas.List.{take_all}
use Rattle.obs_matroid.specs.Lists.{In}
use Rattle.obs_matroid.proofs.Contained.{In-get_or}
use Rattle.obs_meter.specs.Touches.{touch_at}
use Rattle.obs_first.specs.inner.Deciding.{HasRefused, IsUnderWay}
use Rattle.obs_first.proofs.Aside.{enough_at_last}
use Rattle.obs_first.proofs.Counting.{Decided-full, count_same, count_taken, next_thawed}
use Rattle.obs_first.proofs.Deciding.{AreRefused, Decided-none, Decided-taken, Trying-more, Trying-passed}
use Rattle.obs_first.proofs.Frozen.{frozen_same}
use Rattle.obs_first.proofs.Going.{GoesOn-none, GoesOn-on}
use Rattle.obs_first.proofs.Swapping.{refused_passed}
use Rattle.obs_first.proofs.decide.decide.Goals as goal

pub returns-then-taken-rank : goal.returns-then-taken-rank
returns-then-taken-rank g c =
    let graph = c.args.over.now.graph.now in
    let touches = c.args.over.now.meters.now.touches in
    let ready = c.requires.ready in
    let n = c.requires.taken in
    let more = c.if-taken-rank.true in
    record {
      decided = Decided-full graph touches c.args.a.now c.args.m c.args.rank c.requires.decided ready.whole ready.stands (omega (arith, n, more));
      taken = n;
      goes_on = GoesOn-none graph touches c.args.a.now c.args.work.now c.args.rank ready;
    }

pub take_branch-requires : goal.take_branch-requires
take_branch-requires g c =
    let graph = c.args.over.now.graph.now in
    let touches = c.args.over.now.meters.now.touches in
    let xs = c.touch-e-items.result.now in
    let k = c.loop-e.e-index in
    let h = c.loop-e.invariant in
    let in_list = c.loop-e-test.true in
    record {
      may = record {
        ready = h.moved.goes_on.ready;
        low = c.requires.m;
        thawed = frozen_same c.args.a.now c.loop-e.a h.moved.frozen c.args.m ∙ next_thawed graph touches c.args.a.now c.args.m c.args.rank c.requires.decided;
        under_way = h.under_way;
      };
      touched = subst (λ ys. In (get_or xs k 0) ys) c.touch-e-items.ensures.touched (In-get_or xs k 0 (omega (arith)));
    }

pub returns-then-take_branch : goal.returns-then-take_branch
returns-then-take_branch g c =
    let graph = c.args.over.now.graph.now in
    let touches = c.args.over.now.meters.now.touches in
    let a = c.args.a.now in
    let m = c.args.m in
    let rank = c.args.rank in
    let d = c.requires.decided in
    let ready = c.requires.ready in
    let is = c.touch-e-items.ensures.touched in
    let l = c.loop-e in
    let k = l.e-index in
    let e = get_or c.touch-e-items.result.now k 0 in
    let h = l.invariant.moved in
    let b = c.take_branch.new.a in
    let on = GoesOn-on graph touches a l.a b c.args.work.now l.work c.take_branch.new.work rank h c.take_branch.ensures.goes_on in
    let taken = c.if-take_branch.ensures.taken in
    let frozen = taken.frozen ∙ ap (λ (f : List Bool). set f m true) h.frozen in
    let same = ap length is in
    let flags = ready.whole.paired.flags in
    let meters = ready.stands.meters in
    let low = c.requires.m in
    let more = count_taken a b m e (omega (arith, flags, meters, low)) (next_thawed graph touches a m rank d) taken.has frozen on.keeps in
    record {
      decided = Decided-taken graph touches a m rank d ready.whole ready.stands b on.ready.whole on.ready.stands on.keeps taken.long_enough e taken.has
          k 0 (omega (arith)) (ap (λ ys. get_or ys k 0) is) l.invariant.refused (omega (arith, meters, low)) frozen;
      taken = ap (λ n. n + 1) c.requires.taken ∙ sym more;
      goes_on = on;
    }

pub loop-e-preserved : goal.loop-e-preserved
loop-e-preserved g c =
    let graph = c.args.over.now.graph.now in
    let touches = c.args.over.now.meters.now.touches in
    let l = c.loop-e in
    let b = c.take_branch.new.a in
    let m = c.args.m in
    let rank = c.args.rank in
    let is = c.touch-e-items.ensures.touched in
    let same = ap length is in
    Trying-more graph touches c.args.a.now l.a b c.args.work.now l.work c.take_branch.new.work m rank (touch_at graph.ends touches m) l.e-index 0 l.invariant (omega (arith, same))
    (subst (λ e. HasRefused graph.ends touches l.a b m e rank × IsUnderWay graph.ends touches b m rank) (ap (λ ys. get_or ys l.e-index 0) is) c.if-take_branch.ensures.taken)
    c.take_branch.ensures.goes_on

pub loop-e-preserved-then-e-low : goal.loop-e-preserved-then-e-low
loop-e-preserved-then-e-low g c =
    let graph = c.args.over.now.graph.now in
    let touches = c.args.over.now.meters.now.touches in
    let a = c.args.a.now in
    let m = c.args.m in
    let rank = c.args.rank in
    let l = c.loop-e in
    let xs = touch_at graph.ends touches m in
    let k = l.e-index in
    let is = c.touch-e-items.ensures.touched in
    let same = ap length is in
    let passed = c.lowest_for-low.ensures.passed (get_or xs k 0) (subst (λ ys. get_or ys k 0 < c.lowest_for-low.result) is c.if-e-low.true) in
    Trying-passed graph touches a l.a c.args.work.now l.work m rank xs k 0 l.invariant (omega (arith, same)) (refused_passed graph touches a m rank (get_or xs k 0) c.requires.decided c.requires.m passed)

pub returns : goal.returns
returns g c =
    let graph = c.args.over.now.graph.now in
    let touches = c.args.over.now.meters.now.touches in
    let a = c.args.a.now in
    let m = c.args.m in
    let rank = c.args.rank in
    let l = c.loop-e in
    let t = l.invariant in
    let h = t.moved in
    let k = h.goes_on in
    let w = c.requires.ready.whole in
    let s = c.requires.ready.stands in
    let d = c.requires.decided in
    let xs = touch_at graph.ends touches m in
    let same = ap length c.touch-e-items.ensures.touched in
    let all : take l.e-index xs ≡ xs = take_all l.e-index xs (omega (arith, same)) in
    let refused = subst (λ ys. AreRefused graph touches a m rank ys) all t.refused in
    record {
      decided = Decided-none graph touches a m rank d w s l.a k.ready.whole k.ready.stands k.keeps
          (enough_at_last graph touches l.a m rank c.requires.m c.requires.ready.branches k.ready.whole k.ready.stands a w s d.length_is h.frozen k.keeps refused t.under_way) refused h.frozen;
      taken = c.requires.taken ∙ sym (count_same a l.a h.frozen k.keeps);
      goes_on = k;
    }
