-- One more item, and the bound that layers give on the cost.
use Rattle.std.proofs.Common.{◌≡◌, true, ℕ, suc, ◌-◌, ◌≤◌, List, ◌∷◌, ◌++◌, length, refl, ap, inl, inr, Bool, not, ltb, eqb, ◌||◌, ◌&&◌, ◌⊎◌, arith}
use Rattle.std.specs.List.{sum_by}
use Rattle.std.proofs.lemmas.Bool.{cases_Bool, cases_eq, not-true, or_left, or_right, and_from, eq-eqb}
use Rattle.obs_matroid.specs.Lists.{In, IsDistinct, other_than}
use Rattle.obs_matroid.specs.Matroid.{Matroid}
use Rattle.obs_matroid.specs.inner.Matroid.{IsMatroid}
use Rattle.obs_matroid.specs.Assignments.{Pair, items, IsAssignment}
use Rattle.obs_matroid.specs.inner.Assignments.{part, IsRho}
use Rattle.obs_matroid.specs.inner.Closed.{IsClosed, HoldsSources, IsGrown, none, every}
use Rattle.obs_matroid.specs.Placement.{Layer, RunOn, layers_sum, below, IsShown}
use Rattle.obs_matroid.proofs.Lists.{clash, In_same, In-filter, In-append_left, In-append_right, In-append_cases, cases_In, is_in, is_in_from, is_in_at, other_true, other_ne}
use Rattle.obs_matroid.proofs.Pairs.{In-items_from, In-part_from, IsDistinct-part, independent_part}
use Rattle.obs_matroid.proofs.Exchange.{part_out, length-put_in}
use Rattle.obs_matroid.proofs.Bounds.{length-parts, length-part_items, weak_bound}
use Rattle.obs_matroid.proofs.Closed.{IsClosed-union, IsClosed-more}
use Rattle.obs_matroid.proofs.Least.{grows_or_closes}
use Rattle.obs_matroid.proofs.Critical.{longest_from_closed}
use Rattle.obs_matroid.proofs.Layers.{not_below, layers_below, above_zero}

module _ (g : Matroid) (laws : IsMatroid g) (touch : ℕ → List ℕ) where
  pub IsAssignment-items : (M N : List ℕ) (A : List Pair) → IsAssignment g touch M A → ((p : Pair) → In p A → In p.0 N) → IsAssignment g touch N A
  IsAssignment-items M N A a h = record { of_items = h; touched = a.touched; different = a.different; independent = a.independent }

  pub IsAssignment-part : (M : List ℕ) (S : ℕ → Bool) (A : List Pair) → IsAssignment g touch M A → IsAssignment g touch M (part S A)
  IsAssignment-part M S A a = record {
    of_items = λ p i. a.of_items p (In-part_from S A p i).0;
    touched = λ p i. a.touched p (In-part_from S A p i).0;
    different = IsDistinct-part S A a.different;
    independent = independent_part g laws S A a.independent;
  }

  -- the order of the items does not matter
  pub IsRho-same : (M N : List ℕ) (r : ℕ) → ((x : ℕ) → In x M → In x N) → ((x : ℕ) → In x N → In x M) → IsRho g touch M r → IsRho g touch N r
  IsRho-same M N r f h p = record {
    longest = p.longest;
    assigns = IsAssignment-items M N p.longest p.assigns (λ q i. f q.0 (p.assigns.of_items q i));
    long = p.long;
    none_longer = λ B b. p.none_longer B (IsAssignment-items N M B b (λ q i. h q.0 (b.of_items q i)));
  }

  -- A set of candidates that completes has, not below the price of a layer, as many as the layer's bound leaves open
  pub layer_count : (price : ℕ → ℕ) (M E X : List ℕ) (needed : ℕ) (l : Layer) → ((c : ℕ) → In c X → In c E) → IsRho g touch (M ++ X) needed
      → IsShown g touch price M E l → needed - l.rank - l.outside ≤ length (not_below price l.to X)
  layer_count price M E X needed l sub p b =
      let W : List ℕ = M ++ below price l.to E in
      let A : List Pair = p.longest in
      let S : ℕ → Bool = is_in W in
      let k = length-parts S A in
      let w = weak_bound g laws touch W b.marks (part S A)
      (IsAssignment-items (M ++ X) W (part S A) (IsAssignment-part (M ++ X) S A p.assigns) (λ q i. is_in_from W q.0 (In-part_from S A q i).1)) in
      let o : length (part (λ x. not (S x)) A) ≤ length (not_below price l.to X) =
      length-part_items g laws touch (M ++ X) A (λ x. not (S x)) (not_below price l.to X) p.assigns
      (λ q i t.
      let out : In q.0 W → ⊥ = λ j. clash (is_in_at W q.0 j) (not-true (S q.0) t) in
      elim (In-append_cases q.0 M X (p.assigns.of_items q i)) [
        | inl m ↦ absurd (out (In-append_left q.0 M (below price l.to E) m))
        | inr x ↦ In-filter (λ c. not (ltb (price c) l.to)) q.0 X x
            (elim (cases_Bool (ltb (price q.0) l.to)) [
              | inr f ↦ rw f refl
              | inl y ↦ absurd (out (In-append_right q.0 M (below price l.to E) (In-filter (λ c. ltb (price c) l.to) q.0 E (sub q.0 x) y)))
            ])
      ]) in
      let ri = b.rank_is in
      let oi = b.outside_is in
      let pl = p.long in
      omega (arith, k, w, o, ri, oi, pl)

  -- each set of candidates that completes costs at least what the layers show
  pub layer_bound : (price : ℕ → ℕ) (M E X : List ℕ) (needed : ℕ) (ls : List Layer) → RunOn 0 ls
      → ((l : Layer) → In l ls → IsShown g touch price M E l) → ((c : ℕ) → In c X → In c E) → IsRho g touch (M ++ X) needed
      → layers_sum needed ls ≤ sum_by price X
  layer_bound price M E X needed ls r b sub p =
      let h = layers_below price needed X ls 0 r (λ l i. layer_count price M E X needed l sub p (b l i)) in
      let e = above_zero price X in
      omega (arith, h, e)

  -- one more item raises the greatest length by one at most
  pub rho_more : (M : List ℕ) (c r s : ℕ) → IsRho g touch M r → IsRho g touch (c ∷ M) s → (r ≤ s) × (s ≤ suc r)
  rho_more M c r s p q =
      let a = q.none_longer p.longest (IsAssignment-items M (c ∷ M) p.longest p.assigns (λ v i. inr (p.assigns.of_items v i))) in
      let B : List Pair = part (other_than c) q.longest in
      let b = p.none_longer B (IsAssignment-items (c ∷ M) M B (IsAssignment-part (c ∷ M) (other_than c) q.longest q.assigns)
      (λ v i. let u = In-part_from (other_than c) q.longest v i in
      elim (q.assigns.of_items v u.0) [ inl e ↦ absurd (other_ne c v.0 u.1 e) | inr j ↦ j ])) in
      let k : length q.longest ≤ suc (length B) = elim (cases_In c (items q.longest)) [
        | inl i ↦ (let e = length-put_in (c, 0) q.longest q.assigns.different i in omega (arith, e))
        | inr out ↦ (let e = ap length (part_out c q.longest out) in omega (arith, e))
      ] in
      let pl = p.long in let ql = q.long in
      (omega (arith, a, pl, ql), omega (arith, b, k, pl, ql))

  -- a longest assignment of M is longest with c too, where a closed set holds c: with the closed set of M it holds all sources
  pub still_longest : (M : List ℕ) (c : ℕ) (A : List Pair) (S : ℕ → Bool) → IsDistinct (c ∷ M) → IsAssignment g touch M A
      → ((B : List Pair) → IsAssignment g touch M B → length B ≤ length A) → IsClosed g touch (c ∷ M) none A S → S c ≡ true
      → (B : List Pair) → IsAssignment g touch (c ∷ M) B → length B ≤ length A
  still_longest M c A S d a longest s holds B b =
      elim (grows_or_closes g laws touch M none every A d.1 a (λ x t. clash t refl)) [
        | inl w ↦ let k = longest w.0 w.2.assigns in let e = w.2.longer in absurd (omega (arith, k, e))
        | inr t ↦
            let out : In c (items A) → ⊥ = λ i. let v = In-items_from A c i in d.0 (In_same c v.0.0 M v.2 (a.of_items v.0 v.1)) in
            let T : ℕ → Bool = λ x. (t.0 x && other_than c x) || S x in
            let closed : IsClosed g touch (c ∷ M) none A T = IsClosed-union g laws touch none A (c ∷ M) (λ x. t.0 x && other_than c x) S
            (IsClosed-more g laws touch none A M c t.0 out t.1.closed) s in
            let all : HoldsSources (c ∷ M) every A T = λ m i _ free.
            elim (cases_eq m c) [
              | inl w ↦ or_right (t.0 m && other_than c m) (S m) (rw w holds)
              | inr n ↦ or_left (t.0 m && other_than c m) (S m)
                  (and_from (t.0 m) (other_than c m) (t.1.holds m (elim i [ inl w ↦ absurd (n w) | inr j ↦ j ]) refl free) (other_true c m n))
            ] in
            longest_from_closed g laws touch (c ∷ M) A T (IsAssignment-items M (c ∷ M) A a (λ p i. inr (a.of_items p i))) closed all B b
      ]

  -- a longest assignment of M grows by c, or is longest with c too
  pub one_more : (M : List ℕ) (c : ℕ) (A : List Pair) → IsDistinct (c ∷ M) → IsAssignment g touch M A → ((B : List Pair) → IsAssignment g touch M B → length B ≤ length A)
      → ((B : List Pair) × (s : ℕ) × IsGrown g touch (c ∷ M) none (λ x. eqb x c) A B s) ⊎ ((B : List Pair) → IsAssignment g touch (c ∷ M) B → length B ≤ length A)
  one_more M c A d a longest =
      elim (grows_or_closes g laws touch (c ∷ M) none (λ x. eqb x c) A d (IsAssignment-items M (c ∷ M) A a (λ p i. inr (a.of_items p i))) (λ x t. clash t refl)) [
        | inl b ↦ inl b
        | inr s ↦ inr (still_longest M c A s.0 d a longest s.1.closed (s.1.holds c (inl refl) (eq-eqb c c refl)
            (λ i. let v = In-items_from A c i in d.0 (In_same c v.0.0 M v.2 (a.of_items v.0 v.1)))))
      ]
