-- From one loss to the next.
use Rattle.std.proofs.Common.{◌≡◌, ℕ, ◌+◌, ◌≤◌, refl, ap, ◌∙◌, arith}
use Rattle.obs_meter.specs.Held.{Meters}
use Rattle.obs_assign.specs.Assignment.{Assignment}
use Rattle.obs_exchange.proofs.Lengthening.{room_again, rooms}
use Rattle.obs_station.specs.declared.grouping.Grouping.{Grouping}
use Rattle.obs_station.specs.declared.room.Room.{Room}
use Rattle.obs_station.specs.inner.Going.{AreKnown, GoesOn, MayLoseStation, HasSettled}
use Rattle.obs_station.specs.inner.Rounds.{Rounds}

-- where the pairs are as they were
pub goes_nowhere : {y : Grouping} {a : Assignment} {r q : Room} {s t : ℕ} → MayLoseStation y a r → q.left ≡ r.left → q.exchange.sizes ≡ r.exchange.sizes → s ≤ t → GoesOn y a a r q s t
goes_nowhere {y = y} {r = r} {q = q} h left sizes rise = record {
  ready = record {
    paired = h.paired;
    room = room_again y.graph.now y.meters.now.touches r.exchange.sizes q.exchange.sizes sizes h.room;
    left = ap (λ (m : Meters). m.touches) left ∙ h.left;
  };
  left = left;
  turns_rise = omega arith;
  ticks_rise = rise;
  turns_most = omega (arith, rise);
  same_room = record { meters = refl; vertices = refl; branches = refl };
  same_sizes = sizes;
}

-- two of them, one after the other
pub goes_further : {y : Grouping} {a b c : Assignment} {r q x : Room} {s t u : ℕ} → GoesOn y a b r q s t → GoesOn y b c q x t u → GoesOn y a c r x s u
goes_further {a = a} {b = b} {c = c} h k =
    let h0 = h.turns_rise in
    let h1 = h.turns_most in
    let h2 = h.ticks_rise in
    let k0 = k.turns_rise in
    let k1 = k.turns_most in
    let k2 = k.ticks_rise in
    record {
      ready = k.ready;
      left = k.left ∙ h.left;
      turns_rise = omega (arith, h0, k0);
      ticks_rise = omega (arith, h2, k2);
      turns_most = omega (arith, h1, k1);
      same_room = rooms a b c h.same_room k.same_room;
      same_sizes = k.same_sizes ∙ h.same_sizes;
    }

-- nothing is done
pub settled_nowhere : {y : Grouping} {a : Assignment} {r : Room} {p : Rounds} {t n : ℕ} → MayLoseStation y a r → AreKnown y p → HasSettled y a a r r p p t t n n
settled_nowhere h k = record {
  goes_on = goes_nowhere h refl refl (omega arith);
  known = k;
  searched = omega arith;
  as_large = record { meters = refl; nodes = refl };
}

-- two steps that settle stations, one after the other; what the first one left and was given beside goes to the second
pub settled_further : {y : Grouping} {a b c : Assignment} {r q x : Room} {p w z : Rounds} {t u v given left also still from to : ℕ} → HasSettled y a b r q p w t u given left
    → HasSettled y b c q x w z u v also still → given + also + to ≤ from + left + still → HasSettled y a c r x p z t v from to
settled_further h k enough =
    let h0 = h.searched in
    let k0 = k.searched in
    record {
      goes_on = goes_further h.goes_on k.goes_on;
      known = k.known;
      searched = omega (arith, h0, k0, enough);
      as_large = record { meters = k.as_large.meters ∙ h.as_large.meters; nodes = k.as_large.nodes ∙ h.as_large.nodes };
    }
