use Rattle.std.proofs.Common.{length, refl, sym, ap, ◌∙◌, subst, ℕ, List}
use Rattle.obs_meter.specs.declared.Touch.{Touch}
use Rattle.obs_meter.specs.Held.{Meters}
use Rattle.obs_assign.specs.inner.Assignment.{Fits, StandsOver, has_flag}
use Rattle.obs_exchange.specs.inner.Longest.{IsMost}
use Rattle.obs_exchange.proofs.Lengthening.{room_again, rooms}
use Rattle.obs_exchange.proofs.Losing.{most-longest, stands-all}
use Rattle.obs_pairs.proofs.Losing.{fits_left, restored}
use Rattle.obs_pairs.proofs.Moving.{IsMoved-to, may_left}
use Rattle.obs_pairs.proofs.renew.renew.Goals as goal

pub lose_marked-requires : goal.lose_marked-requires
lose_marked-requires g c = record { count = ap (λ (t : List Touch). length t) c.requires.may.left; marks = c.requires.waiting }

pub fill-requires : goal.fill-requires
fill-requires g c =
    let graph = c.args.over.now.graph.now in
    let touches = c.args.over.now.meters.now.touches in
    let a = c.args.a.now in
    let lost = has_flag c.args.waiting.now in
    let may = c.requires.may.search in
    let is = c.lose_marked.ensures.left in
    let o = may_left lost graph touches c.lose_marked.new.left.touches a c.args.room.now.exchange c.length-most.result (ap (λ (m : Meters). m.touches) is) c.length-most.ensures.length may in
    record {
      fits = subst (λ (m : Meters). Fits a graph m.touches) (sym is) (fits_left lost graph touches a c.length-most.ensures.whole may.longest.stands);
      in_range = o.in_range;
      room = o.room;
      most = o.most;
    }

pub restore-requires : goal.restore-requires
restore-requires g c =
    let touches = c.args.over.now.meters.now.touches in
    let is = ap (λ (m : Meters). m.touches) c.lose_marked.ensures.left in
    record { count = (may_left (has_flag c.args.waiting.now) c.args.over.now.graph.now touches c.lose_marked.new.left.touches c.args.a.now c.args.room.now.exchange c.length-most.result is c.length-most.ensures.length c.requires.may.search).count }

pub regrow-requires : goal.regrow-requires
regrow-requires g c =
    let graph = c.args.over.now.graph.now in
    let touches = c.args.over.now.meters.now.touches in
    let may = c.requires.may.search in
    let longest = c.fill.ensures.longest in
    record {
      stands = stands-all (has_flag c.args.waiting.now) graph touches c.fill.new.a (subst (λ (m : Meters). StandsOver c.fill.new.a graph m.touches) c.lose_marked.ensures.left longest.stands);
      thawed = longest.thawed;
      in_range = may.in_range;
      room = room_again graph touches c.args.room.now.exchange.sizes c.fill.new.work.sizes c.fill.ensures.same_sizes may.room;
      most = subst (λ (most : ℕ). IsMost graph.ends touches most) (sym c.length-most.ensures.length) (most-longest graph touches c.args.a.now may.longest);
    }

pub returns : goal.returns
returns g c =
    let touches = c.args.over.now.meters.now.touches in
    let may = c.requires.may in
    let back = restored c.args.room.now.left c.lose_marked.new.left c.restore.new.left touches (ap (λ (m : Meters). m.most) c.lose_marked.ensures.left) c.restore.ensures.left may.left in
    record {
      moved = IsMoved-to c.regrow.ensures.longest back (rooms c.args.a.now c.fill.new.a c.regrow.new.a c.fill.ensures.same_room c.regrow.ensures.same_room)
          (c.regrow.ensures.same_sizes ∙ c.fill.ensures.same_sizes) refl may;
    }
