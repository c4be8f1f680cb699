-- One step of a search for classes after the other.
use Rattle.std.proofs.Common.{◌≡◌, ℕ, ◌<◌, Bool, true, List, [], ◌∷◌, length, refl, sym, ap, ◌∙◌, subst, inl, inr, arith}
use Rattle.std.specs.Prelude.{All as AllOf, not}
use Rattle.std.proofs.lemmas.Bool.{and_parts}
use Rattle.obs_graph.specs.Graph.{Graph}
use Rattle.obs_matroid.proofs.Contained.{All-from_In}
use Rattle.obs_meter.specs.declared.Touch.{Touch}
use Rattle.obs_meter.specs.Held.{Meters}
use Rattle.obs_meter.specs.Lost.{losing}
use Rattle.obs_meter.specs.inner.Sizes.{HasRoomFor}
use Rattle.obs_meter.specs.Touches.{is_live}
use Rattle.obs_meter.specs.inner.Touches.{AreInRange}
use Rattle.obs_meter.proofs.Live.{live_low}
use Rattle.obs_meter.proofs.Lost.{in_range-losing, length-losing, room-losing}
use Rattle.obs_assign.specs.Assignment.{Assignment}
use Rattle.obs_assign.specs.inner.Assignment.{HasRoomOf, pairs}
use Rattle.obs_exchange.specs.Critical.{critical_at}
use Rattle.obs_exchange.specs.declared.over.Over.{Over}
use Rattle.obs_exchange.specs.inner.Found.{Work}
use Rattle.obs_exchange.specs.inner.Longest.{IsLongest, IsMost}
use Rattle.obs_exchange.proofs.Lengthening.{room_again, rooms}
use Rattle.obs_exchange.proofs.Losing.{most-left, most-longest}
use Rattle.obs_pairs.specs.inner.Moved.{IsMoved, MayLose, MaySearch}
use Rattle.obs_pairs.specs.declared.room.Room.{Room}
use Rattle.obs_pairs.specs.inner.Settled.{redundant_at}

-- other pairs, as many as before
pub IsMoved-to : {o : Over} {a b : Assignment} {r q : Room} → IsLongest o.graph.now o.meters.now.touches b → q.left ≡ r.left → HasRoomOf a b → q.exchange.sizes ≡ r.exchange.sizes
    → length q.reach.items ≡ length r.reach.items → MayLose o a r → IsMoved o a b r q
IsMoved-to {o = o} {r = r} {q = q} longest back room sizes places h =
    let long = h.reach in
    record {
      may = record {
        search = record {
          branches = h.search.branches;
          in_range = h.search.in_range;
          few = h.search.few;
          longest = longest;
          room = room_again o.graph.now o.meters.now.touches r.exchange.sizes q.exchange.sizes sizes h.search.room;
        };
        left = ap (λ (m : Meters). m.touches) back ∙ h.left;
        reach = omega (arith, places, long);
      };
      left = back;
      same_room = room;
      same_sizes = sizes;
      same_reach = places;
    }

-- the same pairs
pub IsMoved-same : {o : Over} {a b : Assignment} {r q : Room} → b ≡ a → q.left ≡ r.left → q.exchange.sizes ≡ r.exchange.sizes → length q.reach.items ≡ length r.reach.items → MayLose o a r → IsMoved o a b r q
IsMoved-same {o = o} {a = a} same back sizes places h =
    IsMoved-to (subst (λ (x : Assignment). IsLongest o.graph.now o.meters.now.touches x) (sym same) h.search.longest) back
    (subst (λ (x : Assignment). HasRoomOf a x) (sym same) (record { meters = refl; vertices = refl; branches = refl })) sizes places h

pub MaySearch-same : (g : Graph) (touches : List Touch) (a b : Assignment) (v w : Work) → b ≡ a → w.sizes ≡ v.sizes → MaySearch g touches a v → MaySearch g touches b w
MaySearch-same g touches a b v w same sizes h = record {
  branches = h.branches;
  in_range = h.in_range;
  few = h.few;
  longest = subst (λ (x : Assignment). IsLongest g touches x) (sym same) h.longest;
  room = room_again g touches v.sizes w.sizes sizes h.room;
}

-- two steps
pub IsMoved-on : {o : Over} {a b c : Assignment} {r q s : Room} → IsMoved o a b r q → IsMoved o b c q s → IsMoved o a c r s
IsMoved-on {a = a} {b = b} {c = c} h k = record {
  may = k.may;
  left = k.left ∙ h.left;
  same_room = rooms a b c h.same_room k.same_room;
  same_sizes = k.same_sizes ∙ h.same_sizes;
  same_reach = k.same_reach ∙ h.same_reach;
}

-- what a search over what is left asks, where some are lost
pub record MaySearchLeft (g : Graph) (touches left : List Touch) (work : Work) (long : ℕ) : Type 0 where
  pub in_range : AreInRange g left
  pub room : HasRoomFor work.sizes g left
  pub count : length left ≡ length touches
  pub most : IsMost g.ends left long

pub may_left : (lost : ℕ → Bool) (g : Graph) (touches left : List Touch) (a : Assignment) (work : Work) (most : ℕ) → left ≡ losing lost touches → most ≡ length (pairs a) → MaySearch g touches a work
    → MaySearchLeft g touches left work most
may_left lost g touches left a work most is many h = subst (λ (t : List Touch). MaySearchLeft g touches t work most) (sym is) (record {
  in_range = in_range-losing lost touches g h.in_range;
  room = room-losing lost touches work.sizes g h.room;
  count = length-losing lost touches;
  most = most-left lost g.ends touches most (subst (λ (n : ℕ). IsMost g.ends touches n) (sym many) (most-longest g touches a h.longest));
})

-- a redundant meter is one of the meters
pub redundant_low : (g : Graph) (touches : List Touch) (m : ℕ) → redundant_at g.vertices g.ends touches m ≡ true → AllOf (λ k. k < length touches) (m ∷ [])
redundant_low g touches m redundant =
    let live = (and_parts (is_live g.ends touches m) (not (critical_at g.vertices g.ends touches m)) redundant).0 in
    let low = live_low g.ends touches m live in
    All-from_In (λ k. k < length touches) (m ∷ []) (λ k i. elim i [ inl same ↦ subst (λ (x : ℕ). x < length touches) (sym same) low | inr f ↦ absurd f ])
