use Rattle.std.proofs.Common.{[], ◌∷◌, refl, sym, ◌∙◌, subst, List}
use Rattle.std.specs.Prelude.{All as AllOf, ◌<◌, length}
use Rattle.obs_meter.specs.declared.Touch.{Touch}
use Rattle.obs_meter.specs.Lost.{is_listed, losing}
use Rattle.obs_assign.specs.Assignment.{Assignment}
use Rattle.obs_assign.specs.inner.Assignment.{HasRoomOf, StandsOver}
use Rattle.obs_exchange.specs.declared.Sources.TheVariants.{All}
use Rattle.obs_exchange.specs.inner.Found.{HasClosed}
use Rattle.obs_exchange.specs.inner.Longest.{IsLongest}
use Rattle.obs_exchange.proofs.Lengthening.{room_again, rooms}
use Rattle.obs_pairs.proofs.Moving.{IsMoved-to, may_left, redundant_low}
use Rattle.obs_pairs.proofs.Unreached.{lacks_class, left_again, left_is, longest-without}
use Rattle.obs_pairs.proofs.lacking.search_without.Goals as goal

pub lose-requires : goal.lose-requires
lose-requires g c =
    let graph = c.args.over.now.graph.now in
    let touches = c.args.over.now.meters.now.touches in
    let longest = c.requires.may.search.longest in
    let back = sym c.requires.may.left in
    record {
      stands = subst (λ (t : List Touch). StandsOver c.args.a.now graph t) back longest.stands;
      thawed = longest.thawed;
      low = subst (λ (t : List Touch). AllOf (λ k. k < length t) (c.args.m ∷ [])) back (redundant_low graph touches c.args.m c.requires.redundant);
    }

pub regrow-requires : goal.regrow-requires
regrow-requires g c =
    let graph = c.args.over.now.graph.now in
    let touches = c.args.over.now.meters.now.touches in
    let ready = c.requires.may in
    let is = left_is c.args.room.now.left c.lose.new.left touches c.args.m ready.left c.lose.ensures.left in
    let o = may_left (is_listed (c.args.m ∷ [])) graph touches c.lose.new.left.touches c.args.a.now c.args.room.now.exchange c.length-most.result is c.length-most.ensures.length ready.search in
    record { stands = c.lose.ensures.stands; thawed = c.lose.ensures.thawed; in_range = o.in_range; room = o.room; most = o.most }

pub close-requires : goal.close-requires
close-requires g c =
    let graph = c.args.over.now.graph.now in
    let touches = c.args.over.now.meters.now.touches in
    let ready = c.requires.may in
    let left = c.lose.new.left in
    let is = left_is c.args.room.now.left left touches c.args.m ready.left c.lose.ensures.left in
    let o = may_left (is_listed (c.args.m ∷ [])) graph touches left.touches c.args.a.now c.args.room.now.exchange c.length-most.result is c.length-most.ensures.length ready.search in
    record { longest = c.regrow.ensures.longest; in_range = o.in_range; room = room_again graph left.touches c.args.room.now.exchange.sizes c.regrow.new.work.sizes c.regrow.ensures.same_sizes o.room }

pub regain-requires : goal.regain-requires
regain-requires g c =
    let graph = c.args.over.now.graph.now in
    let touches = c.args.over.now.meters.now.touches in
    let ready = c.requires.may in
    let is = left_is c.args.room.now.left c.lose.new.left touches c.args.m ready.left c.lose.ensures.left in
    let o = may_left (is_listed (c.args.m ∷ [])) graph touches c.lose.new.left.touches c.args.a.now c.args.room.now.exchange c.length-most.result is c.length-most.ensures.length ready.search in
    record { count = o.count; low = redundant_low graph touches c.args.m c.requires.redundant }

pub returns : goal.returns
returns g c =
    let graph = c.args.over.now.graph.now in
    let touches = c.args.over.now.meters.now.touches in
    let m = c.args.m in
    let ready = c.requires.may in
    let may = ready.search in
    let redundant = c.requires.redundant in
    let a = c.args.a.now in
    let b = c.regrow.new.a in
    let new = c.close.new.a in
    let old = c.args.room.now.left in
    let left = c.lose.new.left in
    let v = c.args.room.now.exchange in
    let w = c.close.new.work in
    let is = left_is old left touches m ready.left c.lose.ensures.left in
    let o = may_left (is_listed (m ∷ [])) graph touches left.touches a v c.length-most.result is c.length-most.ensures.length may in
    let back = sym c.close.ensures.same in
    let over = losing (is_listed (m ∷ [])) touches in
    let h : IsLongest graph over b = subst (λ (t : List Touch). IsLongest graph t b) is c.regrow.ensures.longest in
    let closed : HasClosed graph.ends over All new new w.reached = subst (λ (t : List Touch). HasClosed graph.ends t All new new w.reached) is c.close.ensures.closed in
    let room = subst (λ (x : Assignment). HasRoomOf a x) back (rooms a c.lose.new.a b c.lose.ensures.same_room c.regrow.ensures.same_room) in
    record {
      flags = c.close.ensures.closed.flags ∙ o.count;
      lacks = lacks_class graph touches may.branches m redundant new w.reached (subst (λ (x : Assignment). IsLongest graph over x) back h) closed;
      moved = IsMoved-to (subst (λ (x : Assignment). IsLongest graph touches x) back (longest-without graph touches may.branches m redundant a b may.longest h))
          (left_again old left c.regain.new.left touches m ready.left c.lose.ensures.left (c.regain.ensures.left (is_listed (m ∷ [])) is)) room (c.close.ensures.same_sizes ∙ c.regrow.ensures.same_sizes) refl ready;
    }
