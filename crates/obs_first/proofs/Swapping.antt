-- Two meters that touch the same: what would be lower at the first of them, the second can't have, since the two could
-- swap.
use Rattle.std.proofs.Common.{◌≡◌, ℕ, suc, ◌<◌, ◌≤◌, ◌+◌, ◌-◌, cond, ◌==◌, Option, Some, None, List, [], ◌∷◌, ◌++◌, length, map, get_or, refl, sym, ap, ◌∙◌, subst, inl, inr, arith, eq-eqb}
use Rattle.std.specs.List.{range_with_len}
use Rattle.std.proofs.lemmas.Bool.{cases_eq, ne_eqb}
use Rattle.obs_graph.specs.declared.Ends.{Ends}
use Rattle.obs_graph.specs.Positions.{IsForestAt}
use Rattle.obs_graph.specs.Graph.{Graph}
use Rattle.obs_matroid.specs.Lists.{In, IsDistinct}
use Rattle.obs_matroid.specs.Assignments.{Pair, branches, items}
use Rattle.obs_matroid.specs.First.{IsBefore, IsNotAfter, branch_at}
use Rattle.obs_matroid.proofs.Lists.{In_same, In-map, In-map_from}
use Rattle.obs_matroid.proofs.Comparing.{IsNotAfter-front, branch_at_from, branch_at_in, cases_Option}
use Rattle.obs_matroid.proofs.Pairs.{In-items}
use Rattle.obs_matroid.proofs.Slots.{slot_from}
use Rattle.obs_matroid.proofs.Ranges.{below_from, below_in, range_append, range_more}
use Rattle.obs_meter.specs.declared.Touch.{Touch}
use Rattle.obs_meter.specs.Assignments.{IsAssignmentAt}
use Rattle.obs_meter.specs.Touches.{every_item, touch_at, touched}
use Rattle.obs_assign.specs.Assignment.{Assignment}
use Rattle.obs_assign.specs.inner.Assignment.{pairs}
use Rattle.obs_first.specs.inner.Deciding.{HasFrozenOf, IsDecided, IsPassed}

-- where A does not come after B by P and k, and B has at P what A has: B has nothing lower than A at k
not_lower : (P : List ℕ) (k y : ℕ) (A B : List Pair) → IsNotAfter (P ++ k ∷ []) A B → ((x e : ℕ) → In x P → branch_at A x ≡ Some e → branch_at B x ≡ Some e)
    → branch_at B k ≡ Some y → IsBefore (Some y) (branch_at A k) → ⊥
not_lower [] k y A B n h at b = elim (cases_Option (branch_at A k)) [
  | inl none ↦ elim n [
    | inl l ↦ (rw none at l)
    | inr c ↦ let z : None ≡ Some y = sym none ∙ (c.0 ∙ at) in cc z
  ]
  | inr s ↦
      let low : y < s.0 = rw s.1 at b in
      elim n [
        | inl l ↦ let high : s.0 < y = rw (s.1, at) at l in omega (arith, low, high)
        | inr c ↦ let z : Some s.0 ≡ Some y = sym s.1 ∙ (c.0 ∙ at) in let w : s.0 ≡ y = cc z in omega (arith, low, w)
      ]
]
not_lower (x ∷ P) k y A B (inl l) h at b = elim (cases_Option (branch_at A x)) [
  | inl none ↦ (rw none at l)
  | inr s ↦ let t = h x s.0 (inl refl) s.1 in let w : s.0 < s.0 = rw (s.1, t) at l in omega (arith, w)
]
not_lower (x ∷ P) k y A B (inr c) h at b = not_lower P k y A B c.1 (λ z e i s. h z e (inr i) s) at b

-- what comes first by a list, comes first by the front of it
IsNotAfter-range : (i n : ℕ) (A B : List Pair) → i ≤ n → IsNotAfter (range_with_len 0 n) A B → IsNotAfter (range_with_len 0 i) A B
IsNotAfter-range i n A B l h =
    let parts : n ≡ i + (n - i) = omega (arith, l) in
    IsNotAfter-front (range_with_len 0 i) (range_with_len (0 + i) (n - i)) A B (subst (λ P. IsNotAfter P A B) (ap (range_with_len 0) parts ∙ range_append 0 i (n - i)) h)

module _ (k m : ℕ) where
  -- k and m swapped
  swap : ℕ → ℕ
  swap x = cond (x == k) m (cond (x == m) k x)

  swap_k : swap k ≡ m
  unfolding swap
  swap_k = rw (eq-eqb k k refl) refl

  swap_m : (k ≡ m → ⊥) → swap m ≡ k
  unfolding swap
  swap_m n = rw (ne_eqb m k (λ s. n (sym s)), eq-eqb m m refl) refl

  swap_other : (x : ℕ) → (x ≡ k → ⊥) → (x ≡ m → ⊥) → swap x ≡ x
  unfolding swap
  swap_other x a b = rw (ne_eqb x k a, ne_eqb x m b) refl

  swap_twice : (k ≡ m → ⊥) → (x : ℕ) → swap (swap x) ≡ x
  swap_twice n x = elim (cases_eq x k) [
    | inl s ↦ ap (λ y. swap (swap y)) s ∙ (ap swap swap_k ∙ (swap_m n ∙ sym s))
    | inr a ↦ elim (cases_eq x m) [
      | inl s ↦ ap (λ y. swap (swap y)) s ∙ (ap swap (swap_m n) ∙ (swap_k ∙ sym s))
      | inr b ↦ ap swap (swap_other x a b) ∙ swap_other x a b
    ]
  ]

  swap_pair : Pair → Pair
  swap_pair p = (swap p.0, p.1)

  swapped : List Pair → List Pair
  swapped B = map swap_pair B

  swapped_branches : (B : List Pair) → branches (swapped B) ≡ branches B
  unfolding swapped swap_pair
  swapped_branches [] = refl
  swapped_branches (p ∷ B) = ap (λ xs. p.1 ∷ xs) (swapped_branches B)

  swapped_length : (B : List Pair) → length (swapped B) ≡ length B
  unfolding swapped
  swapped_length [] = refl
  swapped_length (p ∷ B) = ap suc (swapped_length B)

  swapped_items : (B : List Pair) (x : ℕ) → In x (items (swapped B)) → (y : ℕ) × In y (items B) × (x ≡ swap y)
  unfolding swapped swap_pair
  swapped_items [] x i = absurd i
  swapped_items (p ∷ B) x (inl e) = (p.0, inl refl, e)
  swapped_items (p ∷ B) x (inr i) = let r = swapped_items B x i in (r.0, inr r.1, r.2)

  swapped_distinct : (k ≡ m → ⊥) → (B : List Pair) → IsDistinct (items B) → IsDistinct (items (swapped B))
  unfolding swapped swap_pair
  swapped_distinct n [] d = tt
  swapped_distinct n (p ∷ B) d = (
    (λ i. let r = swapped_items B (swap p.0) i in
        let e : p.0 ≡ r.0 = sym (swap_twice n p.0) ∙ (ap swap r.2 ∙ swap_twice n r.0) in
        d.0 (In_same p.0 r.0 (items B) e r.1)),
    swapped_distinct n B d.1,
  )

  module _ (ends : List (Option Ends)) (touches : List Touch) (apart : k ≡ m → ⊥) (same : touch_at ends touches k ≡ touch_at ends touches m)
      (kin : In k (every_item touches)) (min : In m (every_item touches)) where
    swap_touch : (x e : ℕ) → In e (touch_at ends touches x) → In e (touch_at ends touches (swap x))
    swap_touch x e i = elim (cases_eq x k) [
      | inl s ↦
          let a : touch_at ends touches x ≡ touch_at ends touches (swap x) = ap (touch_at ends touches) s ∙ (same ∙ ap (touch_at ends touches) (sym swap_k ∙ ap swap (sym s))) in
          subst (λ ys. In e ys) a i
      | inr n ↦ elim (cases_eq x m) [
        | inl s ↦
            let a : touch_at ends touches x ≡ touch_at ends touches (swap x) = ap (touch_at ends touches) s ∙ (sym same ∙ ap (touch_at ends touches) (sym (swap_m apart) ∙ ap swap (sym s))) in
            subst (λ ys. In e ys) a i
        | inr o ↦ subst (λ y. In e (touch_at ends touches y)) (sym (swap_other x n o)) i
      ]
    ]

    swap_item : (x : ℕ) → In x (every_item touches) → In (swap x) (every_item touches)
    swap_item x i = elim (cases_eq x k) [
      | inl s ↦ In_same (swap x) m (every_item touches) (ap swap s ∙ swap_k) min
      | inr n ↦ elim (cases_eq x m) [
        | inl s ↦ In_same (swap x) k (every_item touches) (ap swap s ∙ swap_m apart) kin
        | inr o ↦ In_same (swap x) x (every_item touches) (swap_other x n o) i
      ]
    ]

    swapped_assigns : (B : List Pair) → IsAssignmentAt ends touches (every_item touches) B → IsAssignmentAt ends touches (every_item touches) (swapped B)
    unfolding swapped swap_pair
    swapped_assigns B b = record {
      of_items = λ p i. let r = In-map_from swap_pair p B i in
          In_same p.0 (swap r.0.0) (every_item touches) (item r.0 p r.2) (swap_item r.0.0 (b.of_items r.0 r.1));
      touched = λ p i. let r = In-map_from swap_pair p B i in
          let t = swap_touch r.0.0 r.0.1 (b.touched r.0 r.1) in
          subst (λ x. In p.1 (touch_at ends touches x)) (sym (item r.0 p r.2)) (In_same p.1 r.0.1 (touch_at ends touches (swap r.0.0)) (branch r.0 p r.2) t);
      different = swapped_distinct apart B b.different;
      forest = subst (IsForestAt ends) (sym (swapped_branches B)) b.forest;
    }
      where
        item : (q p : Pair) → p ≡ swap_pair q → p.0 ≡ swap q.0
        item q p e = ap (λ (x : Pair). x.0) e

        branch : (q p : Pair) → p ≡ swap_pair q → p.1 ≡ q.1
        branch q p e = ap (λ (x : Pair). x.1) e

  swapped_at : (B : List Pair) (x e : ℕ) → In (x, e) B → In (swap x, e) (swapped B)
  unfolding swapped swap_pair
  swapped_at B x e i = In-map swap_pair (x, e) B i

-- a branch that would be lower at a meter before is refused
pub refused_passed : (g : Graph) (touches : List Touch) (a : Assignment) (m long y : ℕ) → IsDecided g.ends touches a m long → m < length touches → IsPassed touches a m y
    → (B : List Pair) → HasFrozenOf g.ends touches a B → In (m, y) B → length B < long
refused_passed g touches a m long y d low p B h i =
    let k = p.before in
    let before = p.lower in
    let apart : k ≡ m → ⊥ = λ e. omega (arith, e, before) in
    let same : touch_at g.ends touches k ≡ touch_at g.ends touches m = ap (touched g.ends) p.same in
    let C : List Pair = swapped k m B in
    let c = swapped_assigns k m g.ends touches apart same (below_in (length touches) k (omega (arith, low, before))) (below_in (length touches) m low) B h.assigns in
    let top = d.longest B h.assigns in
    elim (cases_eq (length B) long) [
      | inr n ↦ omega (arith, top, n)
      | inl e ↦
          let least : IsNotAfter (range_with_len 0 k ++ k ∷ []) (pairs a) C =
          subst (λ P. IsNotAfter P (pairs a) C) (range_more k) (IsNotAfter-range (k + 1) m (pairs a) C (omega (arith, before)) (d.least C c (swapped_length k m B ∙ e))) in
          let at : branch_at C k ≡ Some y =
          branch_at_in C k y c.different (subst (λ x. In (x, y) C) (swap_m k m apart) (swapped_at k m B m y i)) in
          let has : (x f : ℕ) → In x (range_with_len 0 k) → branch_at (pairs a) x ≡ Some f → branch_at C x ≡ Some f = λ x f j s.
          let l = below_from k x j in
          let v = branch_at_from (pairs a) x f s in
          let t = h.extends (x, f) v ((d.frozen x).1 (omega (arith, l, before), In-items (pairs a) (x, f) v)) in
          branch_at_in C x f c.different (subst (λ z. In (z, f) C) (swap_other k m x (λ w. omega (arith, w, l)) (λ w. omega (arith, w, l, before))) (swapped_at k m B x f t)) in
          absurd (not_lower (range_with_len 0 k) k y (pairs a) C least has at (higher p))
    ]
  where
    higher : (p : IsPassed touches a m y) → IsBefore (Some y) (branch_at (pairs a) p.before)
    higher p = elim (cases_Option (branch_at (pairs a) p.before)) [
      | inl none ↦ rw none tt
      | inr s ↦
          let slot : get_or a.slots p.before None ≡ Some s.0 = slot_from a.slots (p.before, s.0) (branch_at_from (pairs a) p.before s.0 s.1) in
          let b : IsBefore (Some y) (Some s.0) = subst (λ o. IsBefore (Some y) o) slot p.higher in
          rw s.1 b
    ]
