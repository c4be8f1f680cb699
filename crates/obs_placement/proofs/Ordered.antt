-- Items in the order of their prices and numbers.
use Rattle.std.proofs.Common.{◌≡◌, ℕ, ◌<◌, true, false, ◌||◌, ◌&&◌, List, length, get_or, sym, ap, ◌∙◌, arith, IsPermutation, IsSorted, Ordering, nat_cmp, is_lt, eqb, ltb, subst}
use Rattle.std.specs.Ordering.{ordering_then}
use Rattle.std.specs.Cmp.{IsTotalOrder}
use Rattle.std.proofs.lemmas.List.{get_or_default}
use Rattle.std.proofs.lemmas.List.Elements.{Contains-get_or}
use Rattle.std.proofs.lemmas.Bool.{ne_eqb}
use Rattle.std.proofs.lemmas.Bool.Decides.{nat_tests}
use Rattle.std.proofs.lemmas.Cmp.{nat_cmp_total, then_total, on_total}
use Rattle.std.proofs.lemmas.List.MinMax.{ranks_by}
use Rattle.std.proofs.lemmas.List.Sorted.{IsPermutation-sym, length_permutation, Contains-permutation, sorted_far}
use Rattle.std.proofs.lemmas.Map.Keys.{IsDistinct-IsPermutation, IsDistinct-from_apart, apart_from_distinct}
use Rattle.obs_rankcut.proofs.Marked.{number_flips}
use Rattle.obs_placement.specs.Order.{is_earlier}
use Rattle.obs_placement.specs.inner.Order.{AreNumbered, IsOrder, item_at}

abbrev pub Key : Type 0
Key = ℕ × ℕ

abbrev pub key_cmp : Key → Key → Ordering
key_cmp = λ x y. ordering_then (nat_cmp x.0 y.0) (nat_cmp x.1 y.1)

lt_is : (a b c d : ℕ) → is_lt (ordering_then (nat_cmp a b) (nat_cmp c d)) ≡ (ltb a b || (eqb a b && ltb c d))
lt_is a b c d = grind (arith, nat_tests)

earlier_core : (a b c d : ℕ) → (ltb a b || (eqb a b && ltb c d)) ≡ false → eqb d c ≡ false → (ltb b a || (eqb b a && ltb d c)) ≡ true
earlier_core a b c d f n = grind (arith, nat_tests)

key_total : IsTotalOrder key_cmp
key_total = then_total (on_total (λ (x : Key). x.0) nat_cmp_total) (on_total (λ (x : Key). x.1) nat_cmp_total)

module _ (price : ℕ → ℕ) (n : ℕ) (old new : List Key) (h : AreNumbered price n old) (moved : IsPermutation old new) (sorted : IsSorted key_cmp new) where
  same_count : length new ≡ n
  same_count = length_permutation old new moved ∙ h.count

  flips : (x y : Key) → eqb x.1 y.1 ≡ eqb y.1 x.1
  flips x y = number_flips x.1 y.1

  old_differ : (j k : ℕ) (d : Key) → j < k → k < length old → eqb (get_or old j d).1 (get_or old k d).1 ≡ false
  old_differ j k d l m =
      let c = h.count in
      let a : (get_or old j d).1 ≡ j = ap (λ (x : Key). x.1) (get_or_default old j d (0, 0) (omega (arith, l, m)) ∙ h.is j (omega (arith, l, m, c))) in
      let b : (get_or old k d).1 ≡ k = ap (λ (x : Key). x.1) (get_or_default old k d (0, 0) m ∙ h.is k (omega (arith, m, c))) in
      rw (a, b) (ne_eqb j k (λ e. absurd (omega (arith, e, l))))

  differ : (j k : ℕ) → j < k → k < n → eqb (item_at new j) (item_at new k) ≡ false
  differ j k l m = let c = same_count in
      apart_from_distinct (λ x y. eqb x.1 y.1) new j k (0, 0)
      (IsDistinct-IsPermutation (λ x y. eqb x.1 y.1) flips old new moved (IsDistinct-from_apart (λ x y. eqb x.1 y.1) old old_differ)) l (omega (arith, m, c))

  -- each place has the key of an item
  key_is : (k : ℕ) → k < n → (m : ℕ) × (m < n) × (get_or new k (0, 0) ≡ (price m, m))
  key_is k l =
      let c = same_count in
      let w = Contains-permutation new old (get_or new k (0, 0)) (IsPermutation-sym old new moved) (Contains-get_or new k (0, 0) (omega (arith, l, c))) in
      let o = h.count in
      let b : w.0 < n = let u = w.1 in omega (arith, u, o) in
      (w.0, b, sym w.2 ∙ (get_or_default old w.0 (get_or new k (0, 0)) (0, 0) w.1 ∙ h.is w.0 b))

  found : (m : ℕ) → m < n → (k : ℕ) × (k < n) × (item_at new k ≡ m)
  found m l =
      let o = h.count in
      let c = same_count in
      let low : m < length old = omega (arith, l, o) in
      let w = Contains-permutation old new (get_or old m (0, 0)) moved (Contains-get_or old m (0, 0) low) in
      let u = w.1 in
      (w.0, omega (arith, u, c), ap (λ (x : Key). x.1) (get_or_default new w.0 (0, 0) (get_or old m (0, 0)) u ∙ (w.2 ∙ h.is m l)))

  priced : (k : ℕ) → k < n → (get_or new k (0, 0)).0 ≡ price (item_at new k)
  priced k l = let w = key_is k l in ap (λ (x : Key). x.0) w.2 ∙ sym (ap (λ (x : Key). price x.1) w.2)

  rising : (j k : ℕ) → j < k → k < n → is_earlier price (item_at new k) (item_at new j) ≡ true
  rising j k l m =
      let c = same_count in
      let far : is_lt (key_cmp (get_or new k (0, 0)) (get_or new j (0, 0))) ≡ false =
      sorted_far (λ x y. is_lt (key_cmp x y)) (ranks_by key_total (λ (x : Key). x)) new sorted j k (0, 0) (omega (arith, l)) (omega (arith, m, c)) in
      let core = earlier_core (get_or new k (0, 0)).0 (get_or new j (0, 0)).0 (get_or new k (0, 0)).1 (get_or new j (0, 0)).1
      (sym (lt_is (get_or new k (0, 0)).0 (get_or new j (0, 0)).0 (get_or new k (0, 0)).1 (get_or new j (0, 0)).1) ∙ far) (differ j k l m) in
      subst (λ (p : ℕ). (ltb p (price (item_at new k)) || (eqb p (price (item_at new k)) && ltb (item_at new j) (item_at new k))) ≡ true) (priced j (omega (arith, l, m)))
      (subst (λ (p : ℕ). (ltb (get_or new j (0, 0)).0 p || (eqb (get_or new j (0, 0)).0 p && ltb (item_at new j) (item_at new k))) ≡ true) (priced k m) core)

  pub IsOrder-sorted : IsOrder price n new
  IsOrder-sorted = record {
    count = same_count;
    low = λ k l. let w = key_is k l in let a = w.1 in subst (λ (x : ℕ). x < n) (sym (ap (λ (x : Key). x.1) w.2)) a;
    priced = priced;
    found = found;
    rising = rising;
  }

module _ (price : ℕ → ℕ) where
  -- the first i places are written
  pub record AreWritten (n i : ℕ) (keys : List Key) : Type 0 where
    pub count : length keys ≡ n
    pub is : (m : ℕ) → m < i → get_or keys m (0, 0) ≡ (price m, m)
