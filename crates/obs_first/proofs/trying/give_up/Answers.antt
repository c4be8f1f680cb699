use Rattle.std.proofs.Common.{◌≡◌, ◌∙◌, length, set, sym, ap, arith}
use Rattle.obs_assign.specs.Assignment.{Assignment}
use Rattle.obs_assign.specs.inner.Assignment.{has_flag, pairs}
use Rattle.obs_exchange.proofs.Lengthening.{Closed-again}
use Rattle.obs_meter.specs.declared.Touch.TheVariants.{Nothing}
use Rattle.obs_first.proofs.Aside.{dropped_bare, length-dropped}
use Rattle.obs_first.proofs.Beside.{IsAside-critical, live_paired}
use Rattle.obs_first.proofs.Going.{IsMoved-narrowed, IsMoved-on}
use Rattle.obs_first.proofs.trying.give_up.Goals as goal

pub returns-then-not-is_loose-clause-given : goal.returns-then-not-is_loose-clause-given
returns-then-not-is_loose-clause-given g c =
    let graph = c.args.over.now.graph.now in
    let touches = c.args.over.now.meters.now.touches in
    let a = c.args.a.now in
    let b = c.release.new.a in
    let m = c.args.m in
    let may = c.requires.may in
    let slots = c.release.ensures.dropped in
    let p = c.release.ensures.moved.goes_on.ready in
    let near = length-dropped a b m slots in
    let enough = c.requires.enough in
    IsAside-critical graph touches b m c.args.rank may.low p.branches p.whole p.stands (dropped_bare a b m slots) (omega (arith, near, enough))
    (λ B assigns extends without. p.prepared.critical m (live_paired graph touches a m may.ready.stands c.requires.paired) (sym c.is_loose.ensures.loose ∙ c.if-not-is_loose.true) B
    (record { assigns = assigns; extends = extends }) without)

pub wins_near-requires : goal.wins_near-requires
wins_near-requires g c = record {
  ready = (c.args.rank, c.release.ensures.moved.goes_on.ready);
  without = record { low = c.requires.may.low; bare = dropped_bare c.args.a.now c.release.new.a c.args.m c.release.ensures.dropped };
}

pub returns-then-wins_near : goal.returns-then-wins_near
returns-then-wins_near g c =
    let h = c.release.ensures.moved in
    let near = length-dropped c.args.a.now c.release.new.a c.args.m c.release.ensures.dropped in
    let longer = c.if-wins_near.ensures.won in
    let enough = c.requires.enough in
    record {
      given = omega (arith, near, longer, enough);
      bare = c.wins_near.ensures.bare;
      moved = IsMoved-on _ _ _ _ _ _ _ _ c.args.rank h (c.wins_near.ensures.moved c.args.rank h.goes_on.ready);
    }

pub wins-requires : goal.wins-requires
wins-requires g c = record {
  ready = (c.args.rank, (c.wins_near.ensures.moved c.args.rank c.release.ensures.moved.goes_on.ready).goes_on.ready);
  without = record { low = c.requires.may.low; bare = c.wins_near.ensures.bare };
  begins = tt;
}

pub returns-then-wins : goal.returns-then-wins
returns-then-wins g c =
    let h = c.release.ensures.moved in
    let k = IsMoved-on _ _ _ _ _ _ _ _ c.args.rank h (c.wins_near.ensures.moved c.args.rank h.goes_on.ready) in
    let near = length-dropped c.args.a.now c.release.new.a c.args.m c.release.ensures.dropped in
    let longer = c.if-wins.ensures.won in
    let same = ap (λ (x : Assignment). length (pairs x)) c.if-wins_near.ensures.won in
    let enough = c.requires.enough in
    record {
      given = omega (arith, near, longer, same, enough);
      bare = c.wins.ensures.bare;
      moved = IsMoved-on _ _ _ _ _ _ _ _ c.args.rank k (c.wins.ensures.moved c.args.rank k.goes_on.ready);
    }

pub returns-then-length-rank-clause-moved : goal.returns-then-length-rank-clause-moved
returns-then-length-rank-clause-moved g c =
    let h = c.release.ensures.moved in
    let k = IsMoved-on _ _ _ _ _ _ _ _ c.args.rank h (c.wins_near.ensures.moved c.args.rank h.goes_on.ready) in
    IsMoved-on _ _ _ _ _ _ _ _ c.args.rank k (c.wins.ensures.moved c.args.rank k.goes_on.ready)

pub returns : goal.returns
returns g c =
    let graph = c.args.over.now.graph.now in
    let touches = c.args.over.now.meters.now.touches in
    let a = c.args.a.now in
    let b = c.release.new.a in
    let new = c.wins.new.a in
    let w = c.wins.new.work in
    let v = c.narrow.new.self in
    let rank = c.args.rank in
    let may = c.requires.may in
    let slots = c.release.ensures.dropped in
    let h = c.release.ensures.moved in
    let k = IsMoved-on _ _ _ _ _ _ _ _ rank h (c.wins_near.ensures.moved rank h.goes_on.ready) in
    let l = IsMoved-on _ _ _ _ _ _ _ _ rank k (c.wins.ensures.moved rank k.goes_on.ready) in
    let closed = c.if-wins.ensures.won in
    let all : new ≡ b = closed.same ∙ c.if-wins_near.ensures.won in
    let same : length (pairs new) ≡ length (pairs b) = ap (λ (x : Assignment). length (pairs x)) all in
    let near = length-dropped a b c.args.m slots in
    let enough = c.requires.enough in
    let short = c.if-length-rank.false in
    let is = c.length.ensures.length in
    let again = Closed-again graph (set touches c.args.m Nothing) c.wins_near.new.a new w.reached closed in
    record {
      given = record { bare = c.wins.ensures.bare; short = omega (arith, short, is); near = omega (arith, near, same, enough); closed = has_flag w.reached; least = again.least };
      bare = c.wins.ensures.bare;
      moved = IsMoved-narrowed graph touches a b new c.args.work.now w v c.args.m rank may c.requires.paired slots h.frozen (omega (arith, near, short, is, same)) all c.narrow.ensures.same again c.narrow.ensures.loose l;
    }
