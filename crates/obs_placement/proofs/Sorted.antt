-- The items of the next layer stand together in the order, and sorted they are what the layer adds.
use Rattle.std.proofs.Common.{◌≡◌, ℕ, suc, ◌+◌, ◌-◌, ◌<◌, ◌≤◌, ◌||◌, ◌&&◌, true, false, not, List, [], ◌∷◌, length, get_or, drop, refl, sym, ap, ◌∙◌, arith, inl, inr, subst, IsPermutation, IsSorted, nat_cmp, eqb, ltb, length-drop}
use borrow.Rule.Slice.PartMut.{mid_of}
use Rattle.std.specs.Prelude.{filter}
use Rattle.std.specs.List.{range_with_len}
use Rattle.std.specs.List.Sorted.{IsNonDecreasing}
use Rattle.std.proofs.lemmas.Bool.{and_parts, cases_lt, cases_eq, le-ltb, lt-ltb, ltb-true, ne_eqb, not-true}
use Rattle.std.proofs.lemmas.Bool.Decides.{nat_tests}
use Rattle.std.proofs.lemmas.List.{get_or_default, get_or-take, get_or-drop, length-take-le}
use Rattle.std.proofs.lemmas.List.Sorted.{IsPermutation-sym, IsNonDecreasingBy-from_sort, Contains-permutation}
use Rattle.std.proofs.lemmas.Map.Keys.{IsDistinct-IsPermutation, IsDistinct-from_apart, apart_from_distinct}
use Rattle.obs_matroid.specs.Lists.{In, IsRising}
use Rattle.obs_matroid.proofs.Contained.{Contains-from_In, In-from_Contains, In-get_or}
use Rattle.obs_matroid.proofs.Lists.{In-filter, In-filter_from, clash}
use Rattle.obs_matroid.proofs.Ranges.{below_from, below_in, range_rising, rising_filter}
use Rattle.obs_rankcut.proofs.Marked.{number_flips}
use Rattle.obs_placement.specs.inner.Choosing.{AreFirstBelow}
use Rattle.obs_placement.specs.inner.Layers.{is_added}
use Rattle.obs_placement.specs.Order.{is_earlier}
use Rattle.obs_placement.specs.inner.Order.{IsOrder, item_at}
use Rattle.obs_placement.specs.inner.Taking.{since_at}
use Rattle.obs_placement.proofs.Going.{earlier_cheap}

rising_from : (xs : List ℕ) → ((i j d : ℕ) → i < j → j < length xs → get_or xs i d < get_or xs j d) → IsRising xs
rising_from [] h = tt
rising_from (x ∷ xs) h = (
  (λ y i. let c = Contains-from_In y xs i in let l = c.1 in let e = c.2 in let k = h 0 (suc c.0) y (omega arith) (omega (arith, l)) in rw e at k),
  rising_from xs (λ i j d l m. h (suc i) (suc j) d (omega (arith, l)) (omega (arith, m))),
)

same_first : (x y : ℕ) (xs ys : List ℕ) → IsRising (x ∷ xs) → IsRising (y ∷ ys) → In x (y ∷ ys) → In y (x ∷ xs) → x ≡ y
same_first x y xs ys a b (inl e) j = e
same_first x y xs ys a b (inr i) (inl e) = sym e
same_first x y xs ys a b (inr i) (inr j) = let k = b.0 x i in let l = a.0 y j in absurd (omega (arith, k, l))

in_rest : (x y z : ℕ) (xs ys : List ℕ) → IsRising (x ∷ xs) → x ≡ y → In z xs → In z (y ∷ ys) → In z ys
in_rest x y z xs ys a e i (inl s) = let k = a.0 z i in absurd (omega (arith, k, s, e))
in_rest x y z xs ys a e i (inr j) = j

-- two rising lists of the same numbers are one
rising_same : (xs ys : List ℕ) → IsRising xs → IsRising ys → ((z : ℕ) → In z xs → In z ys) → ((z : ℕ) → In z ys → In z xs) → xs ≡ ys
rising_same [] [] a b f g = refl
rising_same [] (y ∷ ys) a b f g = absurd (g y (inl refl))
rising_same (x ∷ xs) [] a b f g = absurd (f x (inl refl))
rising_same (x ∷ xs) (y ∷ ys) a b f g =
    let e : x ≡ y = same_first x y xs ys a b (f x (inl refl)) (g y (inl refl)) in
    let rest : xs ≡ ys = rising_same xs ys a.1 b.1 (λ z i. in_rest x y z xs ys a e i (f z (inr i))) (λ z i. in_rest y x z ys xs b (sym e) i (g z (inr i))) in
    ap (λ k. k ∷ xs) e ∙ ap (λ zs. y ∷ zs) rest

less : (x y : ℕ) → x ≤ y → eqb x y ≡ false → x < y
less x y l n = grind (arith, nat_tests)

sorted_rising : (xs ys : List ℕ) → IsPermutation xs ys → IsSorted nat_cmp ys → ((i j d : ℕ) → i < j → j < length xs → eqb (get_or xs i d) (get_or xs j d) ≡ false) → IsRising ys
sorted_rising xs ys moved sorted differ =
    let up : IsNonDecreasing ys = IsNonDecreasingBy-from_sort (λ x. x) ys sorted in
    let apart = IsDistinct-IsPermutation eqb number_flips xs ys moved (IsDistinct-from_apart eqb xs differ) in
    rising_from ys (λ i j d l m. less (get_or ys i d) (get_or ys j d) (up i j d (omega (arith, l)) m) (apart_from_distinct eqb ys i j d apart l m))

never_earlier : (p x : ℕ) → (ltb p p || (eqb p p && ltb x x)) ≡ true → ⊥
never_earlier p x t = grind (arith, nat_tests)

module _ (since : List ℕ) (keys : List (ℕ × ℕ)) (order : IsOrder (since_at since) (length since) keys) (listed upto from to : ℕ)
    (first : AreFirstBelow since keys listed from) (rise : from ≤ to) (low : listed ≤ upto) (high : upto ≤ length keys)
    (below : (k : ℕ) → listed ≤ k → k < upto → (get_or keys k (0, 0)).0 < to) (next : upto < length keys → to ≤ (get_or keys upto (0, 0)).0) where
  abbrev n : ℕ
  n = length since

  abbrev at : ℕ → ℕ
  at k = since_at since (item_at keys k)

  here_below : (k : ℕ) → listed ≤ k → k < upto → at k < to
  here_below k l u = let c = order.count in let b = below k l u in let p = order.priced k (omega (arith, u, high, c)) in omega (arith, b, p)

  later_above : (k : ℕ) → upto ≤ k → k < n → to ≤ at k
  later_above k l u =
      let c = order.count in
      let head : to ≤ at upto = let p = order.priced upto (omega (arith, l, u)) in let t = next (omega (arith, l, u, c)) in omega (arith, t, p) in
      elim (cases_eq k upto) [
        | inl e ↦ rw e head
        | inr d ↦ let s = earlier_cheap (at upto) (at k) (item_at keys upto) (item_at keys k) (order.rising upto k (omega (arith, l, d)) u) in omega (arith, s, head)
      ]

  pub AreFirstBelow-next : AreFirstBelow since keys upto to
  AreFirstBelow-next = record {
    few = let c = order.count in omega (arith, high, c);
    below = λ k l. elim (cases_lt k listed) [
      | inl a ↦ let f = first.below k a in omega (arith, f, rise)
      | inr a ↦ here_below k a l
    ];
    behind = later_above;
  }

  module _ (inside : List ℕ) (room : length keys ≤ length inside) (copied : (k : ℕ) → listed ≤ k → k < upto → get_or inside k 0 ≡ item_at keys k) where
    abbrev part : List ℕ
    part = mid_of listed (upto - listed) inside

    pub part_long : length part ≡ upto - listed
    part_long = let d = length-drop listed inside in length-take-le (upto - listed) (drop listed inside) (omega (arith, d, high, room))

    part_at : (i d : ℕ) → i < upto - listed → get_or part i d ≡ item_at keys (listed + i)
    part_at i d l =
        get_or-take (upto - listed) (drop listed inside) i d l
        ∙ (get_or-drop listed inside i d
        ∙ (get_or_default inside (listed + i) d 0 (omega (arith, l, high, room))
        ∙ copied (listed + i) (omega arith) (omega (arith, l))))

    differ : (i j d : ℕ) → i < j → j < length part → eqb (get_or part i d) (get_or part j d) ≡ false
    differ i j d l m =
        let c = order.count in
        let k = part_long in
        rw (part_at i d (omega (arith, l, m, k)), part_at j d (omega (arith, m, k)))
        (ne_eqb (item_at keys (listed + i)) (item_at keys (listed + j))
        (λ e. never_earlier (at (listed + i)) (item_at keys (listed + i))
        (subst (λ (x : ℕ). is_earlier (since_at since) x (item_at keys (listed + i)) ≡ true) (sym e)
        (order.rising (listed + i) (listed + j) (omega (arith, l)) (omega (arith, m, k, high, c))))))

    part_in : (x : ℕ) → In x part → In x (filter (is_added since from to) (range_with_len 0 n))
    part_in x i =
        let c = Contains-from_In x part i in
        let l = c.1 in
        let k = part_long in
        let size = order.count in
        let j = listed + c.0 in
        let up : j < upto = omega (arith, l, k) in
        let e : item_at keys j ≡ x = sym (part_at c.0 x (omega (arith, l, k))) ∙ c.2 in
        let small : x < n = subst (λ (y : ℕ). y < n) e (order.low j (omega (arith, up, high, size))) in
        let above : from ≤ since_at since x = subst (λ (y : ℕ). from ≤ since_at since y) e (first.behind j (omega arith) (omega (arith, up, high, size))) in
        let under : since_at since x < to = subst (λ (y : ℕ). since_at since y < to) e (here_below j (omega arith) up) in
        In-filter (is_added since from to) x (range_with_len 0 n) (below_in n x small)
        (rw (le-ltb (since_at since x) from above, lt-ltb (since_at since x) to under) refl)

    part_from : (x : ℕ) → In x (filter (is_added since from to) (range_with_len 0 n)) → In x part
    part_from x i =
        let u = In-filter_from (is_added since from to) x (range_with_len 0 n) i in
        let w = order.found x (below_from n x u.0) in
        let wl = w.1 in
        let we = w.2 in
        let added = and_parts (not (ltb (since_at since x) from)) (ltb (since_at since x) to) u.1 in
        let under : since_at since x < to = ltb-true (since_at since x) to added.1 in
        let l : listed ≤ w.0 = elim (cases_lt w.0 listed) [
          | inl a ↦
              let f : since_at since x < from = subst (λ (y : ℕ). since_at since y < from) we (first.below w.0 a) in
              absurd (clash (lt-ltb (since_at since x) from f) (not-true (ltb (since_at since x) from) added.0))
          | inr a ↦ a
        ] in
        let m : w.0 < upto = elim (cases_lt w.0 upto) [
          | inl a ↦ a
          | inr a ↦ let f : to ≤ since_at since x = subst (λ (y : ℕ). to ≤ since_at since y) we (later_above w.0 a wl) in absurd (omega (arith, f, under))
        ] in
        let k = part_long in
        let e : listed + (w.0 - listed) ≡ w.0 = omega (arith, l) in
        subst (λ (y : ℕ). In y part) (part_at (w.0 - listed) 0 (omega (arith, l, m)) ∙ (ap (item_at keys) e ∙ we))
        (In-get_or part (w.0 - listed) 0 (omega (arith, l, m, k)))

    pub part_sorted : (new : List ℕ) → IsPermutation part new → IsSorted nat_cmp new → new ≡ filter (is_added since from to) (range_with_len 0 n)
    part_sorted new moved sorted =
        rising_same new (filter (is_added since from to) (range_with_len 0 n)) (sorted_rising part new moved sorted differ)
        (rising_filter (is_added since from to) (range_with_len 0 n) (range_rising 0 n))
        (λ z i. part_in z (In-from_Contains z part (Contains-permutation new part z (IsPermutation-sym part new moved) (Contains-from_In z new i))))
        (λ z i. In-from_Contains z new (Contains-permutation part new z moved (Contains-from_In z part (part_from z i))))
