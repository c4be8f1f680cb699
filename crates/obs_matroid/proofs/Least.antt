-- An assignment grows, or it has a least closed set.
use Rattle.std.proofs.Common.{◌≡◌, ℕ, zero, suc, ◌+◌, ◌≤◌, List, [], ◌∷◌, length, refl, inl, inr, Bool, true, false, not, ◌||◌, ◌&&◌, ◌⊎◌, arith}
use Rattle.std.specs.List.{filter}
use Rattle.std.proofs.lemmas.Bool.{cases_Bool, not-true, or_parts, and_parts, and_from}
use Rattle.obs_matroid.specs.Lists.{In, IsDistinct, other_than}
use Rattle.obs_matroid.specs.Matroid.{Matroid, IsIndependent}
use Rattle.obs_matroid.specs.inner.Matroid.{IsMatroid}
use Rattle.obs_matroid.specs.Assignments.{Pair, items, branches, IsAssignment}
use Rattle.obs_matroid.specs.inner.Assignments.{part, others}
use Rattle.obs_matroid.specs.inner.Closed.{HasFrozen, HoldsSources, IsLeastClosed, IsGrown}
use Rattle.obs_matroid.proofs.Lists.{clash, In_same, In-filter, In-filter_from, cases_In, length-within, IsDistinct-filter, other_ne, find_in, is_in, is_in_from, is_in_at}
use Rattle.obs_matroid.proofs.Pairs.{In-items, In-part, In-part_from, more_pairs, both}
use Rattle.obs_matroid.proofs.Search.{Reached, start, step, Reached-in, grown, Reached-least}

-- none of these
none_of : List ℕ → ℕ → Bool
none_of [] x = true
none_of (m ∷ ms) x = none_of ms x && other_than m x

none_of_ne : (ms : List ℕ) (x : ℕ) → none_of ms x ≡ true → In x ms → ⊥
unfolding none_of
none_of_ne [] x t i = i
none_of_ne (m ∷ ms) x t (inl e) = other_ne m x (and_parts (none_of ms x) (other_than m x) t).1 e
none_of_ne (m ∷ ms) x t (inr i) = none_of_ne ms x (and_parts (none_of ms x) (other_than m x) t).0 i

module _ (g : Matroid) (laws : IsMatroid g) (A : List Pair) (f : IsIndependent g (branches A)) (d : IsDistinct (items A)) (e : ℕ) (j : g.spans (branches A) e ≡ true) where
  spans_none_of : (ms : List ℕ) → ((m : ℕ) → In m ms → g.spans (others A m) e ≡ true) → g.spans (branches (part (none_of ms) A)) e ≡ true
  unfolding none_of
  spans_none_of [] h = more_pairs g laws A (part (none_of []) A) e (λ p i. In-part (none_of []) A p i refl) j
  spans_none_of (m ∷ ms) h = both g laws A (none_of ms) m e f d (spans_none_of ms (λ x i. h x (inr i))) (h m (inl refl))

  -- what all pairs span, and go on spanning without any one pair whose item does not pass, the pairs that pass span
  pub spans_cut : (S : ℕ → Bool) → ((m : ℕ) → In m (items A) → S m ≡ false → g.spans (others A m) e ≡ true) → g.spans (branches (part S A)) e ≡ true
  spans_cut S h =
      let ms : List ℕ = filter (λ x. not (S x)) (items A) in
      more_pairs g laws (part (none_of ms) A) (part S A) e
      (λ p i. let u = In-part_from (none_of ms) A p i in
      In-part S A p u.0 (elim (cases_Bool (S p.0)) [
        | inl y ↦ y
        | inr n ↦ absurd (none_of_ne ms p.0 u.1 (In-filter (λ x. not (S x)) p.0 (items A) (In-items A p u.0) (rw n refl)))
      ]))
      (spans_none_of ms (λ m i. let u = In-filter_from (λ x. not (S x)) m (items A) i in h m u.0 (not-true (S m) u.1)))

module _ (g : Matroid) (laws : IsMatroid g) (touch : ℕ → List ℕ) (M : List ℕ) (frozen from : ℕ → Bool) (A : List Pair)
    (a : IsAssignment g touch M A) (has : HasFrozen frozen A) where
  -- A set of reached items that holds the sources is the least closed set, where all branches that it touches are spanned,
  -- and it holds each item that is not frozen and has its pair on the circuit of such a branch
  pub least_closed : (S : ℕ → Bool) → ((x : ℕ) → S x ≡ true → Reached g touch M frozen from A x) → HoldsSources M from A S
      → ((m : ℕ) → S m ≡ true → (e : ℕ) → In e (touch m) → g.spans (branches A) e ≡ true)
      → ((m : ℕ) → S m ≡ true → (e : ℕ) → In e (touch m) → (x : ℕ) → In x (items A) → g.spans (others A x) e ≡ false → frozen x ≡ false → S x ≡ true)
      → IsLeastClosed g touch M frozen from A S
  least_closed S r h j s = record {
    closed = record {
      spanned = λ m e i t k.
          spans_cut g laws A a.independent a.different e (j m t e k) (λ x. S x || frozen x)
          (λ x y n. let u = or_parts (S x) (frozen x) n in
          elim (cases_Bool (g.spans (others A x) e)) [ inl b ↦ b | inr b ↦ clash (s m t e k x y b u.1) u.0 ]);
    };
    holds = h;
    least = λ T c o m t. Reached-least g touch M frozen from A laws a has T c o m (r m t);
  }

module _ (g : Matroid) (laws : IsMatroid g) (touch : ℕ → List ℕ) (M : List ℕ) (frozen from : ℕ → Bool) (A : List Pair)
    (apart : IsDistinct M) (a : IsAssignment g touch M A) (has : HasFrozen frozen A) where
  -- W holds each item that is one step away from one of W
  IsStable : List ℕ → Type 0
  IsStable W = (m : ℕ) → In m W → (e : ℕ) → In e (touch m) → (x : ℕ) → In x (items A)
      → g.spans (branches A) e ≡ true → g.spans (others A x) e ≡ false → frozen x ≡ false → In x W

  AllReached : List ℕ → Type 0
  AllReached W = (x : ℕ) → In x W → Reached g touch M frozen from A x

  -- one more item, or none
  one_more : (W : List ℕ) → AllReached W → ((x : ℕ) × (In x W → ⊥) × Reached g touch M frozen from A x) ⊎ IsStable W
  unfolding IsStable AllReached
  one_more W r =
      let New : Type 0 = (x : ℕ) × (In x W → ⊥) × Reached g touch M frozen from A x in
      let Q3 : ℕ → ℕ → Type 0 = λ e x. g.spans (branches A) e ≡ true → g.spans (others A x) e ≡ false → frozen x ≡ false → In x W in
      let Q2 : ℕ → Type 0 = λ e. (x : ℕ) → In x (items A) → Q3 e x in
      let Q1 : ℕ → Type 0 = λ m. (e : ℕ) → In e (touch m) → Q2 e in
      let at3 : (m : ℕ) → In m W → (e : ℕ) → In e (touch m) → (x : ℕ) → In x (items A) → New ⊎ Q3 e x =
      λ m i e t x k. elim (cases_In x W) [
        | inl y ↦ inr (λ _ _ _. y)
        | inr out ↦ elim (cases_Bool (g.spans (branches A) e)) [
          | inr no' ↦ inr (λ y _ _. clash y no')
          | inl j ↦ elim (cases_Bool (g.spans (others A x) e)) [
            | inl yes' ↦ inr (λ _ n _. clash yes' n)
            | inr n ↦ elim (cases_Bool (frozen x)) [
              | inl z ↦ inr (λ _ _ w. clash z w)
              | inr z ↦ inl (x, out, step m e (r m i) t j n z)
            ]
          ]
        ]
      ] in
      let at2 : (m : ℕ) → In m W → (e : ℕ) → In e (touch m) → New ⊎ Q2 e =
      λ m i e t. elim (find_in (λ x. New) (Q3 e) (items A) (at3 m i e t)) [ inl b ↦ inl b.2 | inr q ↦ inr q ] in
      let at1 : (m : ℕ) → In m W → New ⊎ Q1 m =
      λ m i. elim (find_in (λ x. New) Q2 (touch m) (at2 m i)) [ inl b ↦ inl b.2 | inr q ↦ inr q ] in
      elim (find_in (λ x. New) Q1 W at1) [ inl b ↦ inl b.2 | inr q ↦ inr q ]

  -- W made stable, with fuel
  stable_from : (n : ℕ) (W : List ℕ) → IsDistinct W → AllReached W → length M ≤ length W + n
      → (V : List ℕ) × ((x : ℕ) → In x W → In x V) × AllReached V × IsStable V
  unfolding IsStable AllReached
  stable_from zero W d r l =
      elim (one_more W r) [
        | inr s ↦ (W, (λ x i. i), r, s)
        | inl b ↦ absurd (let k : suc (length W) ≤ length M = length-within (b.0 ∷ W) M (b.1, d)
            (λ x i. elim i [ inl e ↦ In_same x b.0 M e (Reached-in g touch M frozen from A laws a has b.0 b.2).0 | inr j ↦ (Reached-in g touch M frozen from A laws a has x (r x j)).0 ]) in
            omega (arith, k, l))
      ]
  stable_from (suc n) W d r l =
      elim (one_more W r) [
        | inr s ↦ (W, (λ x i. i), r, s)
        | inl b ↦
            let v = stable_from n (b.0 ∷ W) (b.1, d)
            (λ x i. elim i [ inl e ↦ rw e b.2 | inr j ↦ r x j ])
            (let l2 : length M ≤ length W + suc n = l in omega (arith, l2)) in
            (v.0, (λ x i. v.1 x (inr i)), v.2, v.3)
      ]

  is_source : ℕ → Bool
  is_source m = from m && not (is_in (items A) m)

  source_from : (m : ℕ) → is_source m ≡ true → (from m ≡ true) × (In m (items A) → ⊥)
  unfolding is_source
  source_from m t =
      let u = and_parts (from m) (not (is_in (items A) m)) t in
      (u.0, λ i. clash (is_in_at (items A) m i) (not-true (is_in (items A) m) u.1))

  source_at : (m : ℕ) → from m ≡ true → (In m (items A) → ⊥) → is_source m ≡ true
  unfolding is_source
  source_at m f n = and_from (from m) (not (is_in (items A) m)) f
      (elim (cases_Bool (is_in (items A) m)) [ inl y ↦ absurd (n (is_in_from (items A) m y)) | inr z ↦ rw z refl ])

  -- an assignment grows from a source, or has a least closed set
  pub grows_or_closes : ((B : List Pair) × (s : ℕ) × IsGrown g touch M frozen from A B s) ⊎ ((S : ℕ → Bool) × IsLeastClosed g touch M frozen from A S)
  unfolding AllReached IsStable
  grows_or_closes =
      let U : List ℕ = filter is_source M in
      let v = stable_from (length M) U (IsDistinct-filter is_source M apart)
      (λ x i. let u = In-filter_from is_source x M i in let w = source_from x u.1 in start u.0 w.0 w.1) (omega arith) in
      let W : List ℕ = v.0 in
      let P : ℕ → Type 0 = λ m. (e : ℕ) × In e (touch m) × (g.spans (branches A) e ≡ false) in
      let Q : ℕ → Type 0 = λ m. (e : ℕ) → In e (touch m) → g.spans (branches A) e ≡ true in
      elim (find_in P Q W (λ m i. find_in (λ e. g.spans (branches A) e ≡ false) (λ e. g.spans (branches A) e ≡ true) (touch m)
      (λ e k. elim (cases_Bool (g.spans (branches A) e)) [ inl b ↦ inr b | inr b ↦ inl b ]))) [
        | inl b ↦ inl (grown g touch M frozen from A laws a has b.0 b.2.0 (v.2 b.0 b.1) b.2.1 b.2.2)
        | inr q ↦ inr (
          is_in W,
          least_closed g laws touch M frozen from A a has (is_in W) (λ x t. v.2 x (is_in_from W x t))
              (λ m i f n. is_in_at W m (v.1 m (In-filter is_source m M i (source_at m f n))))
              (λ m t. q m (is_in_from W m t))
              (λ m t e k x y b z. is_in_at W x (v.3 m (is_in_from W m t) e k x y (q m (is_in_from W m t) e k) b z)),
        )
      ]
