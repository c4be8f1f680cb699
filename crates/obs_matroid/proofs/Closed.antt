-- What a closed set says of other assignments.
use Rattle.std.proofs.Common.{◌≡◌, ℕ, suc, ◌≤◌, List, ◌∷◌, length, refl, sym, ap, ◌∙◌, inl, inr, Bool, true, false, not, ◌||◌, ◌&&◌, arith}
use Rattle.std.proofs.lemmas.Bool.{cases_Bool, not-true, or_cases, or_left, or_right, or_parts, and_parts, and_from}
use Rattle.obs_matroid.specs.Lists.{In, other_than}
use Rattle.obs_matroid.specs.Matroid.{Matroid}
use Rattle.obs_matroid.specs.inner.Matroid.{IsMatroid}
use Rattle.obs_matroid.specs.Assignments.{Pair, items, branches, IsAssignment}
use Rattle.obs_matroid.specs.inner.Assignments.{part}
use Rattle.obs_matroid.specs.inner.Closed.{IsClosed, HasFrozen, Extends, HoldsSources, IsLeastClosed}
use Rattle.obs_matroid.proofs.Lists.{clash, In_same, cases_In, length-within, other_true, other_ne}
use Rattle.obs_matroid.proofs.Ranks.{rank-short}
use Rattle.obs_matroid.proofs.Pairs.{In-items, In-items_from, In-branches, In-part, In-part_from, IsDistinct-part, items_within, same_pair, more_pairs}
use Rattle.obs_matroid.proofs.Bounds.{length-items, length-branches, length-parts, length-part_rank, length-part_items}

module _ (g : Matroid) (laws : IsMatroid g) (touch : ℕ → List ℕ) (M : List ℕ) (frozen : ℕ → Bool) (A B : List Pair) (S : ℕ → Bool)
    (a : IsAssignment g touch M A) (b : IsAssignment g touch M B) (has : HasFrozen frozen A) (extends : Extends frozen A B)
    (closed : IsClosed g touch M frozen A S) where
  -- of the items of S and the frozen ones no assignment that has the frozen pairs has more pairs than A
  pub closed_count : length (part (λ x. S x || frozen x) B) ≤ length (part (λ x. S x || frozen x) A)
  closed_count =
      let T : ℕ → Bool = λ x. S x || frozen x in
      let r : length (part T B) ≤ g.rank (branches (part T A)) = length-part_rank g laws touch M B T (branches (part T A)) b
      (λ p i t. elim (or_cases (S p.0) (frozen p.0) t) [
        | inl s ↦ closed.spanned p.0 p.1 (b.of_items p i) s (b.touched p i)
        | inr f ↦
            let v = In-items_from A p.0 (has p.0 f) in
            let fz : frozen v.0.0 ≡ true = rw (← v.2) f in
            let e : p ≡ v.0 = same_pair B p v.0 b.different i (extends v.0 v.1 fz) v.2 in
            laws.member (branches (part T A)) p.1 (In_same p.1 v.0.1 (branches (part T A)) (ap (λ (x : Pair). x.1) e)
            (In-branches (part T A) v.0 (In-part T A v.0 v.1 (or_right (S v.0.0) (frozen v.0.0) fz))))
      ]) in
      let s : g.rank (branches (part T A)) ≤ length (branches (part T A)) = rank-short g laws (branches (part T A)) in
      let l : length (branches (part T A)) ≡ length (part T A) = length-branches (part T A) in
      omega (arith, r, s, l)

  -- none gives each item of A a branch and one of S that has none in A
  pub closed_adds_none : ((x : ℕ) → In x (items A) → In x (items B)) → (s : ℕ) → S s ≡ true → (In s (items A) → ⊥) → In s (items B) → ⊥
  closed_adds_none keeps s t out i =
      let T : ℕ → Bool = λ x. S x || frozen x in
      let w : suc (length (items (part T A))) ≤ length (items (part T B)) =
      length-within (s ∷ items (part T A)) (items (part T B))
      ((λ j. out (items_within (part T A) A (λ q k. (In-part_from T A q k).0) s j)), IsDistinct-part T A a.different)
      (λ x j. elim j [
        | inl e ↦ let v = In-items_from B s i in
            let y : T v.0.0 ≡ true = or_left (S v.0.0) (frozen v.0.0) (rw (← v.2) t) in
            In_same x v.0.0 (items (part T B)) (e ∙ v.2) (In-items (part T B) v.0 (In-part T B v.0 v.1 y))
        | inr k ↦
            let v = In-items_from (part T A) x k in
            let u = In-part_from T A v.0 v.1 in
            let z = In-items_from B v.0.0 (keeps v.0.0 (In-items A v.0 u.0)) in
            let y : T z.0.0 ≡ true = rw (← z.2) u.1 in
            In_same x z.0.0 (items (part T B)) (v.2 ∙ z.2) (In-items (part T B) z.0 (In-part T B z.0 z.1 y))
      ]) in
      let c = closed_count in
      let p : length (items (part T A)) ≡ length (part T A) = length-items (part T A) in
      let q : length (items (part T B)) ≡ length (part T B) = length-items (part T B) in
      absurd (omega (arith, w, c, p, q))

  -- where S holds each item that has no pair in A, none is longer
  pub closed_longest : ((m : ℕ) → In m M → (In m (items A) → ⊥) → S m ≡ true) → length B ≤ length A
  closed_longest all =
      let T : ℕ → Bool = λ x. S x || frozen x in
      let N : ℕ → Bool = λ x. not (S x || frozen x) in
      let c = closed_count in
      let la = length-parts T A in
      let lb = length-parts T B in
      let ln : length (items (part N A)) ≡ length (part N A) = length-items (part N A) in
      let o : length (part N B) ≤ length (items (part N A)) = length-part_items g laws touch M B N (items (part N A)) b
      (λ p i t. elim (cases_In p.0 (items A)) [
        | inl j ↦ let v = In-items_from A p.0 j in
            let n : N v.0.0 ≡ true = rw (← v.2) t in
            In_same p.0 v.0.0 (items (part N A)) v.2 (In-items (part N A) v.0 (In-part N A v.0 v.1 n))
        | inr out ↦ clash (all p.0 (b.of_items p i) out) (or_parts (S p.0) (frozen p.0) (not-true (S p.0 || frozen p.0) t)).0
      ]) in
      omega (arith, c, la, lb, ln, o)

-- what the pairs of a smaller set span, those of a larger set span
spans_larger : (g : Matroid) (laws : IsMatroid g) (frozen : ℕ → Bool) (A : List Pair) (S T : ℕ → Bool) (e : ℕ) → ((x : ℕ) → In x (items A) → S x ≡ true → T x ≡ true)
    → g.spans (branches (part (λ x. S x || frozen x) A)) e ≡ true → g.spans (branches (part (λ x. T x || frozen x) A)) e ≡ true
spans_larger g laws frozen A S T e h t = more_pairs g laws (part (λ x. S x || frozen x) A) (part (λ x. T x || frozen x) A) e
    (λ p i. let u = In-part_from (λ x. S x || frozen x) A p i in
    In-part (λ x. T x || frozen x) A p u.0 (elim (or_cases (S p.0) (frozen p.0) u.1) [
      | inl s ↦ or_left (T p.0) (frozen p.0) (h p.0 (In-items A p u.0) s)
      | inr f ↦ or_right (T p.0) (frozen p.0) f
    ])) t

module _ (g : Matroid) (laws : IsMatroid g) (touch : ℕ → List ℕ) (frozen : ℕ → Bool) (A : List Pair) where
  -- two closed sets together are closed
  pub IsClosed-union : (M : List ℕ) (S T : ℕ → Bool) → IsClosed g touch M frozen A S → IsClosed g touch M frozen A T → IsClosed g touch M frozen A (λ x. S x || T x)
  IsClosed-union M S T c d = record {
    spanned = λ m e i y k.
        elim (or_cases (S m) (T m) y) [
          | inl s ↦ spans_larger g laws frozen A S (λ x. S x || T x) e (λ x j z. or_left (S x) (T x) z) (c.spanned m e i s k)
          | inr t ↦ spans_larger g laws frozen A T (λ x. S x || T x) e (λ x j z. or_right (S x) (T x) z) (d.spanned m e i t k)
        ];
  }

  -- a closed set stays closed where an item that has no pair comes to the list and not to the set
  pub IsClosed-more : (M : List ℕ) (c : ℕ) (S : ℕ → Bool) → (In c (items A) → ⊥) → IsClosed g touch M frozen A S → IsClosed g touch (c ∷ M) frozen A (λ x. S x && other_than c x)
  IsClosed-more M c S out k = record {
    spanned = λ m e i y t.
        let u = and_parts (S m) (other_than c m) y in
        spans_larger g laws frozen A S (λ x. S x && other_than c x) e
        (λ x j z. and_from (S x) (other_than c x) z (other_true c x (λ w. out (In_same c x (items A) (sym w) j))))
        (k.spanned m e (elim i [ inl w ↦ absurd (other_ne c m u.1 w) | inr j ↦ j ]) u.0 t);
  }

-- the least closed set holds no frozen item
pub least_not_frozen : (g : Matroid) (laws : IsMatroid g) (touch : ℕ → List ℕ) (M : List ℕ) (frozen from : ℕ → Bool) (A : List Pair) (S : ℕ → Bool) → HasFrozen frozen A
    → IsLeastClosed g touch M frozen from A S → (m : ℕ) → S m ≡ true → frozen m ≡ false
least_not_frozen g laws touch M frozen from A S has c m t =
    let T : ℕ → Bool = λ x. S x && not (frozen x) in
    let closed : IsClosed g touch M frozen A T = record {
      spanned = λ x e i y k.
          more_pairs g laws (part (λ z. S z || frozen z) A) (part (λ z. T z || frozen z) A) e
          (λ p j. let u = In-part_from (λ z. S z || frozen z) A p j in
          In-part (λ z. T z || frozen z) A p u.0 (elim (cases_Bool (frozen p.0)) [
            | inl f ↦ or_right (T p.0) (frozen p.0) f
            | inr n ↦ or_left (T p.0) (frozen p.0) (and_from (S p.0) (not (frozen p.0)) (elim (or_cases (S p.0) (frozen p.0) u.1) [ inl s ↦ s | inr f ↦ clash f n ]) (rw n refl))
          ]))
          (c.closed.spanned x e i (and_parts (S x) (not (frozen x)) y).0 k);
    } in
    let holds : HoldsSources M from A T = λ x i f out.
    and_from (S x) (not (frozen x)) (c.holds x i f out)
    (let n : frozen x ≡ false = elim (cases_Bool (frozen x)) [ inl y ↦ absurd (out (has x y)) | inr n ↦ n ] in rw n refl) in
    not-true (frozen m) (and_parts (S m) (not (frozen m)) (c.least T closed holds m t)).1
