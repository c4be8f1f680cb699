-- The items that a layer adds are listed after those of the layers before it.
use Rattle.std.proofs.Common.{◌≡◌, ℕ, ◌+◌, ◌≤◌, ◌&&◌, Bool, not, List, [], ◌∷◌, ◌++◌, length, refl, sym, ap, ◌∙◌, arith, inl, inr, ltb}
use Rattle.std.specs.Prelude.{filter}
use Rattle.std.specs.List.{range_with_len}
use Rattle.std.proofs.lemmas.List.FromFn.{length-range_with_len}
use Rattle.std.proofs.lemmas.Bool.{cases_Bool, cases_lt, le-ltb, lt-ltb}
use Rattle.std.proofs.lemmas.List.{length-append}
use Rattle.obs_graph.specs.Graph.{Graph}
use Rattle.obs_matroid.proofs.Lists.{filter_same, length-split}
use Rattle.obs_meter.specs.declared.Touch.{Touch}
use Rattle.obs_placement.specs.Layers.{added_items}
use Rattle.obs_placement.specs.inner.Layers.{count_known, is_added}
use Rattle.obs_placement.specs.Taking.{is_listed_at}
use Rattle.obs_placement.specs.inner.Taking.{AreKnown, never, since_at}

module _ (since : List ℕ) where
  abbrev n : ℕ
  n = length since

  -- those below f and those from f to t are those below t
  split_known : (f t : ℕ) → f ≤ t → (xs : List ℕ)
      → length (filter (λ m. ltb (since_at since m) f) xs) + length (filter (is_added since f t) xs) ≡ length (filter (λ m. ltb (since_at since m) t) xs)
  split_known f t l [] = refl
  split_known f t l (x ∷ xs) =
      let r = split_known f t l xs in
      elim (cases_lt (since_at since x) f) [
        | inl a ↦ rw (lt-ltb (since_at since x) f a, lt-ltb (since_at since x) t (omega (arith, a, l))) (omega (arith, r))
        | inr a ↦ elim (cases_lt (since_at since x) t) [
          | inl b ↦ rw (le-ltb (since_at since x) f a, lt-ltb (since_at since x) t b) (omega (arith, r))
          | inr b ↦ rw (le-ltb (since_at since x) f a, le-ltb (since_at since x) t b) r
        ]
      ]

  pub known_most : (t : ℕ) → count_known since t ≤ n
  known_most t =
      let s = length-split (λ m. ltb (since_at since m) t) (range_with_len 0 n) in
      let k = length-range_with_len 0 n in
      omega (arith, s, k)

  pub known_split : (f t : ℕ) → f ≤ t → count_known since t ≡ count_known since f + length (filter (is_added since f t) (range_with_len 0 n))
  known_split f t l = sym (split_known f t l (range_with_len 0 n))

  -- where as many are listed as are known below f, as many are then as are known below t
  pub known_listed : (f t : ℕ) → f ≤ t → (before inside : List ℕ) → length before ≡ count_known since f
      → inside ≡ before ++ filter (is_added since f t) (range_with_len 0 n) → length inside ≡ count_known since t
  known_listed f t l before inside upto e =
      let s = known_split f t l in
      let k = ap length e in
      let a = length-append before (filter (is_added since f t) (range_with_len 0 n)) in
      omega (arith, s, k, a, upto)

and_swap : (a b : Bool) → (a && b) ≡ (b && a)
and_swap a b = elim (cases_Bool a) [
  | inl x ↦ rw x (elim (cases_Bool b) [ inl y ↦ rw y refl | inr y ↦ rw y refl ])
  | inr x ↦ rw x (elim (cases_Bool b) [ inl y ↦ rw y refl | inr y ↦ rw y refl ])
]

module _ (g : Graph) (touches : List Touch) (price : ℕ → ℕ) (since : List ℕ) (f t : ℕ) (known : AreKnown g touches price since) (count : length since ≡ length touches) (low : f ≤ never) (high : t ≤ never) where
  -- what is listed for a layer is what it adds
  pub added_same : filter (is_added since f t) (range_with_len 0 (length since)) ≡ added_items g.vertices g.ends touches price f t
  added_same =
      ap (λ k. filter (is_added since f t) (range_with_len 0 k)) count
      ∙ filter_same (is_added since f t) (λ m. is_listed_at g.vertices g.ends touches price t m && not (is_listed_at g.vertices g.ends touches price f m)) (range_with_len 0 (length touches))
      (λ m i.
      ap (λ b. not b && ltb (since_at since m) t) (known f m low)
      ∙ (ap (λ b. not (is_listed_at g.vertices g.ends touches price f m) && b) (known t m high)
      ∙ and_swap (not (is_listed_at g.vertices g.ends touches price f m)) (is_listed_at g.vertices g.ends touches price t m)))
