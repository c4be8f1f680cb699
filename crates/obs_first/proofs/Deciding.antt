-- A meter is decided: what is known of the meters before it, of the branches that it was refused, and of the one that it took.
use Rattle.std.proofs.Common.{◌≡◌, ℕ, ◌+◌, ◌<◌, ◌≤◌, Bool, true, false, Some, None, List, [], ◌∷◌, ◌++◌, length, take, get_or, set, sym, ap, ◌∙◌, subst, inl, inr, ◌↔◌, arith, get_or-set_same, get_or-set_other}
use Rattle.std.specs.List.{range_with_len}
use Rattle.std.proofs.lemmas.Bool.{cases_eq}
use Rattle.obs_graph.specs.Graph.{Graph}
use Rattle.obs_matroid.specs.Lists.{In}
use Rattle.obs_matroid.specs.Matroid.{Matroid}
use Rattle.obs_matroid.specs.Assignments.{Pair, items, IsAssignment}
use Rattle.obs_matroid.specs.inner.Closed.{Extends}
use Rattle.obs_matroid.specs.First.{branch_at, IsNotAfter}
use Rattle.obs_matroid.proofs.Lists.{In_same}
use Rattle.obs_matroid.proofs.Pairs.{In-items, In-items_from}
use Rattle.obs_matroid.proofs.Comparing.{Agree, Agree-from, branch_at_from, branch_at_in}
use Rattle.obs_matroid.proofs.First.{Impossible, IsLeastBy, decided, decided_at, decided_from, next_chosen, next_none}
use Rattle.obs_matroid.proofs.Slots.{slot_at}
use Rattle.obs_matroid.proofs.Ranges.{below_from, below_in, range_more}
use Rattle.obs_meter.specs.declared.Touch.{Touch}
use Rattle.obs_meter.specs.Spanned.{graph_matroid}
use Rattle.obs_meter.specs.Touches.{every_item, touch_at}
use Rattle.obs_meter.proofs.Assigned.{from_matroid, to_matroid}
use Rattle.obs_meter.proofs.Touched.{touch-rising}
use Rattle.obs_assign.specs.Assignment.{Assignment}
use Rattle.obs_assign.specs.inner.Assignment.{IsWhole, StandsOver, has_flag, is_frozen, pairs}
use Rattle.obs_assign.proofs.Slotted.{item_slot, slot_item}
use Rattle.obs_assign.proofs.Standing.{IsAssignmentAt-standing}
use Rattle.obs_exchange.specs.inner.Found.{Work}
use Rattle.obs_first.specs.inner.Deciding.{GoesOn, HasFrozenOf, HasRefused, IsDecided, IsMoved, IsUnderWay, KeepsFrozen}
use Rattle.obs_first.proofs.Frozen.{Extends-kept, HasFrozenOf-kept, HasFrozenOf-pairs, frozen_same}
use Rattle.obs_first.proofs.Fronts.{In-take_lower, In-take_more}
use Rattle.obs_first.proofs.Going.{GoesOn-on}

-- no assignment so long that has the frozen pairs of a gives one of the branches to m
abbrev pub AreRefused : Graph → List Touch → Assignment → ℕ → ℕ → List ℕ → Type 0
AreRefused g touches a m long tried = (e : ℕ) → In e tried → (B : List Pair) → HasFrozenOf g.ends touches a B → In (m, e) B → length B < long

-- while the meter m of a is decided, and b and w are what a and v have become
pub record IsTrying (g : Graph) (touches : List Touch) (a b : Assignment) (v w : Work) (m long : ℕ) (tried : List ℕ) : Type 0 where
  pub moved : IsMoved g touches a b v w long
  pub under_way : IsUnderWay g.ends touches b m long
  pub refused : AreRefused g touches a m long tried

-- one more branch is refused
pub Trying-more : (g : Graph) (touches : List Touch) (a b c : Assignment) (u v w : Work) (m long : ℕ) (xs : List ℕ) (k d : ℕ) → IsTrying g touches a b u v m long (take k xs) → k < length xs
    → HasRefused g.ends touches b c m (get_or xs k d) long × IsUnderWay g.ends touches c m long → GoesOn g touches b c v w long → IsTrying g touches a c u w m long (take (k + 1) xs)
Trying-more g touches a b c u v w m long xs k d h low r on = record {
  moved = record { goes_on = GoesOn-on g touches a b c u v w long h.moved on; frozen = r.0.frozen ∙ h.moved.frozen };
  under_way = r.1;
  refused = λ e i B x j. elim (In-take_more xs k d e low i) [
    | inl before ↦ h.refused e before B x j
    | inr same ↦ r.0.none B (HasFrozenOf-kept g.ends touches a b B h.moved.frozen h.moved.goes_on.keeps x) (subst (λ y. In (m, y) B) same j)
  ];
}

-- or is known to be refused
pub Trying-passed : (g : Graph) (touches : List Touch) (a b : Assignment) (v w : Work) (m long : ℕ) (xs : List ℕ) (k d : ℕ) → IsTrying g touches a b v w m long (take k xs) → k < length xs
    → ((B : List Pair) → HasFrozenOf g.ends touches a B → In (m, get_or xs k d) B → length B < long) → IsTrying g touches a b v w m long (take (k + 1) xs)
Trying-passed g touches a b v w m long xs k d h low r = record {
  moved = h.moved;
  under_way = h.under_way;
  refused = λ e i B x j. elim (In-take_more xs k d e low i) [
    | inl before ↦ h.refused e before B x j
    | inr same ↦ r B x (subst (λ y. In (m, y) B) same j)
  ];
}

module _ (g : Graph) (touches : List Touch) (a : Assignment) (m long : ℕ) (d : IsDecided g.ends touches a m long)
    (whole : IsWhole a) (stands : StandsOver a g touches) where
  mat : Matroid
  mat = graph_matroid g.vertices g.ends

  before : List ℕ
  before = range_with_len 0 m

  least_by : IsLeastBy mat (touch_at g.ends touches) (every_item touches) before (pairs a)
  unfolding mat before
  least_by = record {
    assigns = to_matroid g.vertices g.ends touches (every_item touches) (pairs a) (IsAssignmentAt-standing a g touches whole stands);
    longest = λ B b. let l = d.longest B (from_matroid g.vertices g.ends touches (every_item touches) B b) in let e = d.length_is in omega (arith, l, e);
    least = λ B b l. d.least B (from_matroid g.vertices g.ends touches (every_item touches) B b) (l ∙ d.length_is);
  }

  frozen_from : (x : ℕ) → decided before (pairs a) x ≡ true → is_frozen a x ≡ true
  unfolding before
  frozen_from x t = let u = decided_from (range_with_len 0 m) (pairs a) x t in (d.frozen x).1 (below_from m x u.0, u.1)

  frozen_at : (x : ℕ) → is_frozen a x ≡ true → decided before (pairs a) x ≡ true
  unfolding before
  frozen_at x t = let u = (d.frozen x).0 t in decided_at (range_with_len 0 m) (pairs a) x (below_in m x u.0) u.1

  impossible : (e : ℕ) → ((B : List Pair) → HasFrozenOf g.ends touches a B → In (m, e) B → length B < long)
      → Impossible mat (touch_at g.ends touches) (every_item touches) before m (pairs a) e
  unfolding mat
  impossible e h B b l x j =
      let n = h B (record { assigns = from_matroid g.vertices g.ends touches (every_item touches) B b; extends = λ p i t. x p i (frozen_at p.0 t) }) j in
      let k = d.length_is in
      omega (arith, n, l, k)

  module _ (c : Assignment) (whole_c : IsWhole c) (stands_c : StandsOver c g touches) (keeps : KeepsFrozen a c) (longer : long ≤ length (pairs c)) where
    assigns_c : IsAssignment mat (touch_at g.ends touches) (every_item touches) (pairs c)
    unfolding mat
    assigns_c = to_matroid g.vertices g.ends touches (every_item touches) (pairs c) (IsAssignmentAt-standing c g touches whole_c stands_c)

    length_c : length (pairs c) ≡ long
    length_c = let l = d.longest (pairs c) (IsAssignmentAt-standing c g touches whole_c stands_c) in omega (arith, l, longer)

    same_length : length (pairs c) ≡ length (pairs a)
    same_length = length_c ∙ sym d.length_is

    extends_c : Extends (decided before (pairs a)) (pairs a) (pairs c)
    extends_c p i t = Extends-kept a c keeps p i (frozen_from p.0 t)

    -- a decided meter that has a pair now had one
    had_one : (x : ℕ) → x < m → In x (items (pairs c)) → is_frozen a x ≡ true
    unfolding before
    had_one x l i =
        let agree : Agree (range_with_len 0 m) (pairs a) (pairs c) = Agree-from (range_with_len 0 m) (pairs a) (pairs c) (least_by.least (pairs c) assigns_c same_length)
        (λ y e j s. let v = branch_at_from (pairs a) y e s in
        branch_at_in (pairs c) y e assigns_c.different (extends_c (y, e) v (decided_at (range_with_len 0 m) (pairs a) y j (In-items (pairs a) (y, e) v)))) in
        let v = In-items_from (pairs c) x i in
        let s : branch_at (pairs c) v.0.0 ≡ Some v.0.1 = branch_at_in (pairs c) v.0.0 v.0.1 assigns_c.different v.1 in
        let t : branch_at (pairs a) x ≡ Some v.0.1 = agree x (below_in m x l) ∙ (ap (branch_at (pairs c)) v.2 ∙ s) in
        (d.frozen x).1 (l, In-items (pairs a) (x, v.0.1) (branch_at_from (pairs a) x v.0.1 t))

    has_still : (x : ℕ) → is_frozen a x ≡ true → (x < m) × In x (items (pairs c))
    has_still x t =
        let u = (d.frozen x).0 t in
        let s = item_slot a.slots x u.1 in
        (u.0, slot_item c.slots x s.0 (keeps x t ∙ s.1))

    decided_from_least : IsLeastBy mat (touch_at g.ends touches) (every_item touches) (before ++ m ∷ []) (pairs c)
        → ((x : ℕ) → (is_frozen c x ≡ true) ↔ ((x < m + 1) × In x (items (pairs c)))) → IsDecided g.ends touches c (m + 1) long
    unfolding mat before
    decided_from_least l f = record {
      length_is = length_c;
      longest = d.longest;
      least = λ B b n. subst (λ P. IsNotAfter P (pairs c) B) (sym (range_more m)) (l.least B (to_matroid g.vertices g.ends touches (every_item touches) B b) (n ∙ sym length_c));
      frozen = f;
    }

    -- the meter took a branch
    module _ (e : ℕ) (has : get_or c.slots m None ≡ Some e) where
      frozen_taken : m < length a.slots → c.frozen ≡ set a.frozen m true → (x : ℕ) → (is_frozen c x ≡ true) ↔ ((x < m + 1) × In x (items (pairs c)))
      frozen_taken low frozen x =
          let flags = whole.paired.flags in
          let at : is_frozen c x ≡ has_flag (set a.frozen m true) x = ap (λ (f : List Bool). has_flag f x) frozen in
          elim (cases_eq x m) [
            | inl s ↦ (
              (λ t. (omega (arith, s), In_same x m (items (pairs c)) s (slot_item c.slots m e has))),
              (λ u. at ∙ (ap (has_flag (set a.frozen m true)) s ∙ get_or-set_same a.frozen m true false (omega (arith, low, flags)))),
            )
            | inr n ↦
                let same : is_frozen c x ≡ is_frozen a x = at ∙ get_or-set_other a.frozen m x true false n in (
                  (λ t. let u = has_still x (sym same ∙ t) in let l = u.0 in (omega (arith, l), u.1)),
                  (λ u. let l = u.0 in same ∙ had_one x (omega (arith, l, n)) u.1),
                )
          ]

      -- the lowest one that it was not refused
      pub Decided-taken : (k d : ℕ) → k < length (touch_at g.ends touches m) → e ≡ get_or (touch_at g.ends touches m) k d → AreRefused g touches a m long (take k (touch_at g.ends touches m))
          → m < length a.slots → c.frozen ≡ set a.frozen m true → IsDecided g.ends touches c (m + 1) long
      unfolding mat before
      Decided-taken k d low at refused l frozen =
          decided_from_least
          (next_chosen (graph_matroid g.vertices g.ends) (touch_at g.ends touches) (every_item touches) (range_with_len 0 m) m (pairs a) least_by
          (pairs c) e assigns_c same_length extends_c (slot_at c.slots m e has)
          (λ y i lower. impossible y (refused y (In-take_lower (touch_at g.ends touches m) k d y (touch-rising g.ends touches m) low i (subst (λ z. y < z) at lower)))))
          (frozen_taken l frozen)

    -- it was refused each of its branches
    module _ (refused : AreRefused g touches a m long (touch_at g.ends touches m)) where
      frozen_none : c.frozen ≡ a.frozen → (x : ℕ) → (is_frozen c x ≡ true) ↔ ((x < m + 1) × In x (items (pairs c)))
      frozen_none frozen x =
          let same : is_frozen c x ≡ is_frozen a x = frozen_same a c frozen x in (
            (λ t. let u = has_still x (sym same ∙ t) in let l = u.0 in (omega (arith, l), u.1)),
            (λ u. elim (cases_eq x m) [
              | inl s ↦
                  let b = item_slot c.slots x u.1 in
                  let at : get_or c.slots m None ≡ Some b.0 = ap (λ k. get_or c.slots k None) (sym s) ∙ b.1 in
                  let n = refused b.0 (stands_c.touched m b.0 at) (pairs c) (HasFrozenOf-pairs a c g touches whole_c stands_c keeps) (slot_at c.slots m b.0 at) in
                  absurd (omega (arith, n, longer))
              | inr n ↦ let l = u.0 in same ∙ had_one x (omega (arith, l, n)) u.1
            ]),
          )

      pub Decided-none : c.frozen ≡ a.frozen → IsDecided g.ends touches c (m + 1) long
      unfolding mat before
      Decided-none frozen =
          decided_from_least
          (next_none (graph_matroid g.vertices g.ends) (touch_at g.ends touches) (every_item touches) (range_with_len 0 m) m (pairs a) least_by
          (pairs c) assigns_c same_length extends_c (λ e i. impossible e (refused e i)))
          (frozen_none frozen)
