use Rattle.std.proofs.Common.{sym, subst, arith}
use Rattle.std.specs.Prelude.{MatchBool}
use Rattle.obs_assign.specs.Assignment.{Assignment}
use Rattle.obs_exchange.proofs.Walking.{touched_there}
use Rattle.obs_first.specs.inner.Deciding.{AreEnoughFor, HasRefused, IsMoved, IsUnderWay, MayTake}
use Rattle.obs_first.proofs.Aside.{way_or_refused}
use Rattle.obs_first.proofs.Going.{IsMoved-none, IsMoved-on}
use Rattle.obs_first.proofs.Taking.{HasRefused-joined}
use Rattle.obs_first.proofs.trying.makes_way.Goals as goal

pub may_pin-requires : goal.may_pin-requires
may_pin-requires g c =
    let s = c.requires.may.ready.stands in
    let meters = s.meters in
    let low = c.requires.may.low in
    record {
      stands = s.forest;
      m = omega (arith, meters, low);
      present = touched_there c.args.over.now.graph.now.ends c.args.over.now.meters.now.touches c.args.m c.args.e c.requires.touched;
    }

pub returns-then-not-may_pin : goal.returns-then-not-may_pin
returns-then-not-may_pin g c =
    let graph = c.args.over.now.graph.now in
    let touches = c.args.over.now.meters.now.touches in
    let a = c.args.a.now in
    let may = c.requires.may in
    let same = sym c.may_pin.ensures.same in
    let r = HasRefused-joined graph touches may.ready.branches a c.args.m c.args.e may.thawed c.args.rank (λ p. cc (c.may_pin.ensures.may.1 p)) in
    record {
      way = subst (λ (d : Assignment). HasRefused graph.ends touches a d c.args.m c.args.e c.args.rank × IsUnderWay graph.ends touches d c.args.m c.args.rank) same (r, may.under_way);
      moved = subst (λ (d : Assignment). IsMoved graph touches a d c.args.work.now c.args.work.now c.args.rank) same (IsMoved-none graph touches a c.args.work.now c.args.rank may.ready);
    }

pub set_aside-requires : goal.set_aside-requires
set_aside-requires g c = record { may = subst (λ (d : Assignment). MayTake c.args.over.now.graph.now c.args.over.now.meters.now.touches d c.args.work.now c.args.m c.args.rank) (sym c.may_pin.ensures.same) c.requires.may }

pub reaches-requires : goal.reaches-requires
reaches-requires g c = record {
  ready = (c.args.rank, c.set_aside.ensures.moved.goes_on.ready);
  without = record { low = c.requires.may.low; bare = c.if-set_aside.ensures.aside.bare };
  touched = c.requires.touched;
}

pub returns-then-set_aside-clause-moved : goal.returns-then-set_aside-clause-moved
returns-then-set_aside-clause-moved g c =
    subst (λ (d : Assignment). IsMoved c.args.over.now.graph.now c.args.over.now.meters.now.touches d c.set_aside.new.a c.args.work.now c.set_aside.new.work c.args.rank) c.may_pin.ensures.same c.set_aside.ensures.moved

pub returns-else-set_aside : goal.returns-else-set_aside
returns-else-set_aside g c =
    let graph = c.args.over.now.graph.now in
    let touches = c.args.over.now.meters.now.touches in
    let s = c.set_aside.ensures.moved in
    let ready = s.goes_on.ready in
    let r = c.reaches.ensures in
    let new = c.reaches.new.a in
    let v = c.args.work.now in
    let w = c.reaches.new.work in
    let rank = c.args.rank in
    let same = c.may_pin.ensures.same in
    let way = way_or_refused graph touches ready.branches c.may_pin.new.self c.set_aside.new.a new c.args.m c.args.e rank c.requires.may.low c.requires.touched ready.whole ready.stands c.if-set_aside.ensures.aside
    s.frozen s.goes_on.keeps c.reaches.result r.same r.reached in
    record {
      way = subst (λ (d : Assignment). MatchBool c.reaches.result (AreEnoughFor new c.args.m c.args.e rank) (HasRefused graph.ends touches d new c.args.m c.args.e rank × IsUnderWay graph.ends touches new c.args.m rank)) same way;
      moved = subst (λ (d : Assignment). IsMoved graph touches d new v w rank) same
          (IsMoved-on graph touches c.may_pin.new.self c.set_aside.new.a new v c.set_aside.new.work w rank s (r.moved rank ready));
    }
