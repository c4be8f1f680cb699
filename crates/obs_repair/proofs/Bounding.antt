-- Parts that bound the pairs: no assignment has more.
use Rattle.std.proofs.Common.{◌≡◌, ℕ, ◌≤◌, Bool, true, false, not, Option, None, List, [], ◌∷◌, length, get_or, refl, sym, ap, ◌∙◌, inl, inr, subst, arith}
use Rattle.std.specs.Prelude.{Contains, filter}
use Rattle.std.specs.List.{list_any}
use Rattle.std.proofs.lemmas.Bool.{not_from_false, or_cases, or_left, or_right}
use Rattle.std.proofs.lemmas.List.{length-map}
use Rattle.obs_graph.specs.declared.Ends.{Ends}
use Rattle.obs_graph.specs.Joined.{first_joined, is_joined, rank}
use Rattle.obs_graph.specs.Positions.{AreBranches, ends_of}
use Rattle.obs_graph.proofs.AtPositions.{ends_of-contains, rank-from_IsForestAt}
use Rattle.obs_graph.proofs.IsJoined.{same-from_true}
use Rattle.obs_graph.proofs.Ranks.{rank-le}
use Rattle.obs_matroid.specs.Lists.{In}
use Rattle.obs_matroid.specs.Assignments.{Pair, branches, items}
use Rattle.obs_matroid.proofs.Contained.{In-from_Contains}
use Rattle.obs_matroid.proofs.Lists.{In-filter, In-filter_from, length-split, length-within}
use Rattle.obs_matroid.proofs.Pairs.{In-branches_from, In-items_from, IsDistinct-filter_items}
use Rattle.obs_meter.specs.declared.Touch.{Touch}
use Rattle.obs_meter.specs.Assignments.{IsAssignmentAt}
use Rattle.obs_meter.specs.Spanned.{both_ends, ends_at}
use Rattle.obs_meter.specs.Touches.{every_item, touch_at}
use Rattle.obs_exchange.specs.inner.Longest.{IsMost}
use Rattle.obs_network.specs.Network.{Network}
use Rattle.obs_network.proofs.KeptForests.{InRange-ends_of}
use Rattle.obs_repair.specs.inner.Parts.{AreBounding, BoundsNetwork, is_between}
use Rattle.obs_repair.proofs.Retained.{assigns-within}

-- they bound by more
pub bounding-more : (n : ℕ) (ends : List (Option Ends)) (touches : List Touch) (first : List ℕ) (most k : ℕ) → AreBounding n ends touches first most → most ≤ k → AreBounding n ends touches first k
bounding-more n ends touches first most k b le = record { joins = b.joins; parts = b.parts; bound = let few = b.bound in omega (arith, few, le) }

pub bounds-more : (n : Network) (first : List ℕ) (most k : ℕ) → BoundsNetwork n first most → most ≤ k → BoundsNetwork n first k
bounds-more n first most k b le = bounding-more n.graph.vertices n.graph.ends n.meters.touches first most k b le

-- a test of some element, and the element
pub In-list_any : {X : Type 0} (p : X → Bool) (xs : List X) → list_any p xs ≡ true → (x : X) × In x xs × (p x ≡ true)
In-list_any p [] t = absurd (cc t)
In-list_any p (x ∷ xs) t = elim (or_cases (p x) (list_any p xs) t) [
  | inl y ↦ (x, inl refl, y)
  | inr y ↦ let r = In-list_any p xs y in (r.0, inr r.1, r.2)
]

pub list_any-In : {X : Type 0} (p : X → Bool) (x : X) (xs : List X) → In x xs → p x ≡ true → list_any p xs ≡ true
list_any-In p x [] i t = absurd i
list_any-In p x (y ∷ ys) (inl e) t = or_left (p y) (list_any p ys) (ap p (sym e) ∙ t)
list_any-In p x (y ∷ ys) (inr i) t = or_right (p y) (list_any p ys) (list_any-In p x ys i t)

-- whether the branches J join the ends of a branch
abbrev pub is_joined_at : List Ends → List (Option Ends) → ℕ → Bool
is_joined_at J ends e = is_joined J (ends_at ends e).0 (ends_at ends e).1

-- an item is between parts by a branch of which J doesn't join the ends
pub between-by : (J : List Ends) (ends : List (Option Ends)) (touches : List Touch) (m e : ℕ) → In e (touch_at ends touches m) → is_joined_at J ends e ≡ false → is_between J ends touches m ≡ true
between-by J ends touches m e i apart = list_any-In (λ x. not (is_joined_at J ends x)) e (touch_at ends touches m) i (not_from_false (is_joined_at J ends e) apart)

pub between-from : (J : List Ends) (ends : List (Option Ends)) (touches : List Touch) (m : ℕ) → is_between J ends touches m ≡ true → (e : ℕ) × In e (touch_at ends touches m) × (is_joined_at J ends e ≡ false)
between-from J ends touches m t =
    let r = In-list_any (λ x. not (is_joined_at J ends x)) (touch_at ends touches m) t in
    (r.0, r.1, from_not (is_joined_at J ends r.0) r.2)
  where
    from_not : (b : Bool) → not b ≡ true → b ≡ false
    from_not true t = absurd (cc t)
    from_not false t = refl

-- an assignment's pairs of which J joins the ends are as many as J's rank at the most
module _ (n : ℕ) (ends : List (Option Ends)) (touches : List Touch) (ok : AreBranches n ends) (J : List Ends) (B : List Pair) (x : IsAssignmentAt ends touches (every_item touches) B) where
  abbrev inner : Pair → Bool
  inner p = is_joined_at J ends p.1

  few_inner : length (filter inner B) ≤ rank n J
  few_inner =
      let A = filter inner B in
      let some = assigns-within n ends touches ok (every_item touches) B x A (IsDistinct-filter_items inner B x.different) (λ p i. (In-filter_from inner p B i).0) in
      let full = rank-from_IsForestAt n ends (branches A) (InRange-ends_of n ends ok (branches A)) some.forest in
      let le = rank-le n (ends_of ends (branches A)) J joined in
      omega (arith, full, le, length-map A (λ (p : Pair). p.1))
    where
      joined : (e : Ends) → Contains (ends_of ends (branches (filter inner B))) e → first_joined J e.a ≡ first_joined J e.b
      joined e c =
          let at = ends_of-contains ends (branches (filter inner B)) e c in
          let q = In-branches_from (filter inner B) at.0 (In-from_Contains at.0 (branches (filter inner B)) at.1) in
          let t = (In-filter_from inner q.0 B q.1).1 in
          same-from_true J e.a e.b (subst (λ (o : Option Ends). is_joined J (both_ends o).0 (both_ends o).1 ≡ true) (ap (λ k. get_or ends k None) (sym q.2) ∙ at.2) t)

  -- the others are of items between parts
  few_outer : length (filter (λ (p : Pair). not (inner p)) B) ≤ length (filter (is_between J ends touches) (every_item touches))
  few_outer =
      let C = filter (λ (p : Pair). not (inner p)) B in
      let l = length-within (items C) (filter (is_between J ends touches) (every_item touches)) (IsDistinct-filter_items (λ (p : Pair). not (inner p)) B x.different) there in
      omega (arith, l, length-map C (λ (p : Pair). p.0))
    where
      there : (m : ℕ) → In m (items (filter (λ (p : Pair). not (inner p)) B)) → In m (filter (is_between J ends touches) (every_item touches))
      there m i =
          let q = In-items_from (filter (λ (p : Pair). not (inner p)) B) m i in
          let f = In-filter_from (λ (p : Pair). not (inner p)) q.0 B q.1 in
          subst (λ k. In k (filter (is_between J ends touches) (every_item touches))) (sym q.2)
          (In-filter (is_between J ends touches) q.0.0 (every_item touches) (x.of_items q.0 f.0)
          (list_any-In (λ e. not (is_joined_at J ends e)) q.0.1 (touch_at ends touches q.0.0) (x.touched q.0 f.0) f.1))

-- no assignment has more pairs
pub most-bounded : (n : ℕ) (ends : List (Option Ends)) (touches : List Touch) (first : List ℕ) (most : ℕ) → AreBranches n ends → AreBounding n ends touches first most → IsMost ends touches most
most-bounded n ends touches first most ok b B x =
    let in_parts = few_inner n ends touches ok b.joins B x in
    let between = few_outer n ends touches ok b.joins B x in
    let split = length-split (inner n ends touches ok b.joins B x) B in
    let bound = b.bound in
    omega (arith, in_parts, between, split, bound)
