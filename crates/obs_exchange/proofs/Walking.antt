-- A branch that was walked, and a head that moves on.
use Rattle.std.proofs.Common.{◌≡◌, ℕ, ◌<◌, Bool, true, false, not, ◌==◌, Option, Some, None, List, length, get_or, sym, ap, ◌∙◌, ◌⊎◌, inl, inr, eq-eqb}
use Rattle.std.specs.Prelude.{IsSome, is_some, slice_index_or}
use Rattle.std.specs.List.{Contains}
use Rattle.std.proofs.lemmas.Bool.{cases_eq, cases_Bool}
use Rattle.obs_graph.specs.declared.Ends.{Ends}
use Rattle.obs_graph.specs.Joined.{first_joined, is_joined}
use Rattle.obs_graph.specs.Positions.{ends_of, present}
use Rattle.obs_graph.specs.inner.Search.{IsPart}
use Rattle.obs_graph.specs.Graph.{Graph}
use Rattle.obs_graph.proofs.AtPositions.{contains-ends_of, ends_of-contains, some_of}
use Rattle.obs_graph.proofs.Forests.{same_first-among}
use Rattle.obs_graph.proofs.IsJoined.{same-from_true, apart-from_false, false-from_apart}
use Rattle.obs_graph.proofs.Present.{present_contains, present_low}
use Rattle.obs_matroid.specs.Lists.{In, other_than}
use Rattle.obs_matroid.specs.Assignments.{branches, items}
use Rattle.obs_matroid.specs.inner.Assignments.{others, part}
use Rattle.obs_matroid.proofs.Lists.{clash, other_true, other_ne}
use Rattle.obs_matroid.proofs.Pairs.{In-branches, In-branches_from, In-part, In-part_from}
use Rattle.obs_matroid.proofs.Contained.{Contains-from_In, In-from_Contains}
use Rattle.obs_matroid.proofs.Slots.{slot_from, slot_at}
use Rattle.obs_meter.specs.declared.Touch.{Touch}
use Rattle.obs_meter.specs.declared.Touch.TheVariants.{Nothing}
use Rattle.obs_meter.specs.Spanned.{ends_at, joined_at}
use Rattle.obs_meter.specs.Touches.{touch_at}
use Rattle.obs_meter.proofs.Touched.{touched-present}
use Rattle.obs_forest.specs.inner.Cycle.{without}
use Rattle.obs_forest.proofs.Attaching.{without-some}
use Rattle.obs_forest.proofs.Without.{other_present}
use Rattle.obs_assign.specs.Assignment.{Assignment}
use Rattle.obs_assign.specs.inner.Assignment.{IsWhole, StandsOver, branch_at, has_flag, is_frozen, pairs}
use Rattle.obs_assign.specs.inner.Pins.{joins}
use Rattle.obs_assign.proofs.Paths.{apart-pairs, apart_ends, ends_are, held_at, joined-pairs, joins-from}
use Rattle.obs_assign.proofs.Slotted.{branch_slot, item_slot, slot_branch, slots_apart, some_same}
use Rattle.obs_exchange.proofs.Queued.{eqb_false}

module _ (a : Assignment) (g : Graph) (touches : List Touch) (whole : IsWhole a) (stands : StandsOver a g touches) where
  in_others : (x y e : ℕ) → branch_at a y ≡ Some e → (y ≡ x → ⊥) → In e (others (pairs a) x)
  in_others x y e h n = In-branches (part (other_than x) (pairs a)) (y, e) (In-part (other_than x) (pairs a) (y, e) (slot_at a.slots y e h) (other_true x y n))

  apart_slots : (x y e : ℕ) → branch_at a x ≡ Some e → branch_at a y ≡ Some e → x ≡ y
  apart_slots x y e = slots_apart a.forest.held a.slots whole.paired.holds.forest x y e

  other_held : (x p : ℕ) → branch_at a x ≡ Some p → (d : Ends) → Contains (ends_of g.ends (others (pairs a) x)) d → Contains (present (without a.forest.held p)) d
  other_held x p h d c =
      let r = ends_of-contains g.ends (others (pairs a) x) d c in
      let q = In-branches_from (part (other_than x) (pairs a)) r.0 (In-from_Contains r.0 (others (pairs a) x) r.1) in
      let k = In-part_from (other_than x) (pairs a) q.0 q.1 in
      let y : branch_at a q.0.0 ≡ Some r.0 = slot_from a.slots q.0 k.0 ∙ ap Some (sym q.2) in
      let s = held_at g.ends a.slots a.forest.held stands.forest.held whole.paired.holds r.0 (slot_branch a.slots q.0.0 r.0 y) in
      other_present a.forest.held p r.0 d (λ t. other_ne x q.0.0 k.1 (apart_slots q.0.0 x p (y ∙ ap Some t) h)) (s.1 ∙ (sym s.2 ∙ r.2))

  held_other : (x p : ℕ) → branch_at a x ≡ Some p → (d : Ends) → Contains (present (without a.forest.held p)) d → Contains (ends_of g.ends (others (pairs a) x)) d
  held_other x p h d c =
      let r = present_contains (without a.forest.held p) d c in
      let w = without-some a.forest.held p r.0 d r.1 in
      let b = branch_slot a.slots r.0 ((whole.paired.holds.exactly r.0).0 (ap is_some w.1)) in
      contains-ends_of g.ends (others (pairs a) x) r.0 d
      (Contains-from_In r.0 (others (pairs a) x) (in_others x b.0 r.0 b.1 (λ t. w.0 (some_same r.0 p (sym b.1 ∙ (ap (branch_at a) t ∙ h))))))
      (stands.forest.held r.0 d w.1)

  module _ (e : ℕ) (u : Ends) (is : get_or g.ends e None ≡ Some u) (joined : joins g.ends (branches (pairs a)) e ≡ true) where
    -- the held branches join the ends of a branch that isn't free
    pub ends_joined : first_joined (present a.forest.held) u.a ≡ first_joined (present a.forest.held) u.b
    ends_joined = elim (cases_Bool (is_joined (present a.forest.held) u.a u.b)) [
      | inl y ↦ same-from_true (present a.forest.held) u.a u.b y
      | inr f ↦ clash joined (apart_ends g.ends (branches (pairs a)) e u is
          (apart-pairs g.ends a.slots a.forest.held stands.forest.held whole.paired.holds u.a u.b (apart-from_false (present a.forest.held) u.a u.b f)))
    ]

    -- a meter is needed for e where the held branches without its own don't join the ends of e
    pub apart_needed : (x p : ℕ) → branch_at a x ≡ Some p → (first_joined (present (without a.forest.held p)) u.a ≡ first_joined (present (without a.forest.held p)) u.b → ⊥)
        → joins g.ends (others (pairs a) x) e ≡ false
    apart_needed x p h apart = apart_ends g.ends (others (pairs a) x) e u is (false-from_apart (ends_of g.ends (others (pairs a) x)) u.a u.b (λ same.
        apart (same_first-among (ends_of g.ends (others (pairs a) x)) (present (without a.forest.held p)) (other_held x p h) u.a u.b same)))

    apart_at : (L : List ℕ) → joins g.ends L e ≡ false → is_joined (ends_of g.ends L) u.a u.b ≡ false
    apart_at L n = let m : joined_at g.ends L (ends_at g.ends e).0 (ends_at g.ends e).1 ≡ false = n in rw (ends_are g.ends e u is) at m

    -- where each meter is marked or frozen, or the held branches without its own join the ends of e, e is walked
    pub all_walked : (marks : List Bool)
        → ((x p : ℕ) → branch_at a x ≡ Some p → is_frozen a x ≡ false
        → (has_flag marks x ≡ true) ⊎ (first_joined (present (without a.forest.held p)) u.a ≡ first_joined (present (without a.forest.held p)) u.b))
        → (x : ℕ) → In x (items (pairs a)) → joins g.ends (others (pairs a) x) e ≡ false → is_frozen a x ≡ false → has_flag marks x ≡ true
    all_walked marks all x i n f =
        let b = item_slot a.slots x i in
        elim (all x b.0 b.1 f) [
          | inl t ↦ t
          | inr same ↦ absurd (apart-from_false (ends_of g.ends (others (pairs a) x)) u.a u.b (apart_at (others (pairs a) x) n)
              (same_first-among (present (without a.forest.held b.0)) (ends_of g.ends (others (pairs a) x)) (held_other x b.0 b.1) u.a u.b same))
        ]

-- whether a branch is free, by the pieces of its ends
pub free_is : (a : Assignment) (ends : List (Option Ends)) (e : ℕ) (u : Ends) (p q : ℕ) → IsWhole a → IsPart a.forest.held ends → get_or ends e None ≡ Some u
    → p ≡ first_joined (present a.forest.held) u.a → q ≡ first_joined (present a.forest.held) u.b → joins ends (branches (pairs a)) e ≡ not (not (p == q))
free_is a ends e u p q whole part is ps qs = elim (cases_eq (first_joined (present a.forest.held) u.a) (first_joined (present a.forest.held) u.b)) [
  | inl s ↦ joins-from ends (branches (pairs a)) e u is (joined-pairs ends a.slots a.forest.held part whole.paired.holds u.a u.b s)
      ∙ sym (ap (λ b. not (not b)) (eq-eqb p q (ps ∙ (s ∙ sym qs))))
  | inr n ↦ apart_ends ends (branches (pairs a)) e u is (apart-pairs ends a.slots a.forest.held part whole.paired.holds u.a u.b n)
      ∙ sym (ap (λ b. not (not b)) (eqb_false p q (λ s. n (sym ps ∙ (sym s ∙ qs)))))
]

-- a touched branch has ends
pub touched_there : (ends : List (Option Ends)) (touches : List Touch) (m e : ℕ) → In e (touch_at ends touches m) → IsSome (get_or ends e None)
touched_there ends touches m e i = touched-present ends (slice_index_or touches m Nothing) e i

pub touched_ends : (ends : List (Option Ends)) (touches : List Touch) (m e : ℕ) → In e (touch_at ends touches m) → (u : Ends) × (get_or ends e None ≡ Some u)
touched_ends ends touches m e i = some_of (get_or ends e None) (touched_there ends touches m e i)

pub touched_low : (ends : List (Option Ends)) (touches : List Touch) (m e : ℕ) → In e (touch_at ends touches m) → e < length ends
touched_low ends touches m e i = present_low ends e (touched_there ends touches m e i)
