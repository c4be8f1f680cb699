-- The rank of a list: its greatest independent part.
use Rattle.std.proofs.Common.{◌≡◌, ℕ, suc, ◌≤◌, List, [], ◌∷◌, ◌++◌, length, refl, sym, ap, ◌∙◌, inl, inr, true, false, ◌↔◌, arith}
use Rattle.std.proofs.lemmas.Bool.{cases_Bool}
use Rattle.std.proofs.lemmas.List.{append-nil}
use Rattle.obs_matroid.specs.Lists.{In, IsDistinct, other_than, without}
use Rattle.obs_matroid.specs.Matroid.{Matroid, IsIndependent}
use Rattle.obs_matroid.specs.inner.Matroid.{IsMatroid}
use Rattle.obs_matroid.proofs.Lists.{clash, In_same, In-append_cases, In-append_left, In-append_right, find_in, In-filter, In-filter_from, other_true, other_self}
use Rattle.obs_matroid.proofs.Spans.{spans_more, spans_less}

module _ (g : Matroid) (laws : IsMatroid g) where
  -- independent over K: no branch is spanned by those that follow it and K
  abbrev IsOver : List ℕ → List ℕ → Type 0
  IsOver K [] = Unit {0}
  IsOver K (e ∷ I) = (g.spans (I ++ K) e ≡ false) × IsOver K I

  -- a branch that I and K do not span can go into K
  over_push : (K I : List ℕ) (x : ℕ) → IsOver K I → g.spans (I ++ K) x ≡ false → IsOver (x ∷ K) I
  over_push K [] x o n = tt
  over_push K (y ∷ I) x o n = (
    elim (cases_Bool (g.spans (I ++ x ∷ K) y)) [
      | inr r ↦ r
      | inl t ↦ clash
          (laws.swaps (I ++ K) y x
          (spans_more g laws (I ++ x ∷ K) (x ∷ (I ++ K)) y (λ z i. elim (In-append_cases z I (x ∷ K) i) [
            | inl j ↦ inr (In-append_left z I K j)
            | inr j ↦ elim j [ inl e ↦ inl e | inr k ↦ inr (In-append_right z I K k) ]
          ]) t) o.0)
          n
    ],
    over_push K I x o.1 (spans_less g laws (I ++ K) (y ∷ (I ++ K)) x (λ z i. inr i) n),
  )

  -- a branch of I can go into K
  over_move : (K I : List ℕ) (x : ℕ) → IsOver K I → In x I → (J : List ℕ) × (suc (length J) ≡ length I) × ((z : ℕ) → In z J → In z I) × IsOver (x ∷ K) J
  over_move K [] x o i = absurd i
  over_move K (y ∷ I) x o (inl e) = (I, refl, (λ z j. inr j), over_push K I x o.1 (rw e o.0))
  over_move K (y ∷ I) x o (inr i) =
      let r = over_move K I x o.1 i in (
        y ∷ r.0,
        ap suc r.1,
        (λ z j. elim j [ inl e ↦ inl e | inr k ↦ inr (r.2 z k) ]),
        (
          spans_less g laws (r.0 ++ x ∷ K) (I ++ K) y (λ z j. elim (In-append_cases z r.0 (x ∷ K) j) [
            | inl k ↦ In-append_left z I K (r.2 z k)
            | inr k ↦ elim k [ inl e ↦ In-append_left z I K (In_same z x I e i) | inr l ↦ In-append_right z I K l ]
          ]) o.0,
          r.3,
        ),
      )

  -- what is independent over K and spanned by B and K is no longer than B
  steinitz : (B K I : List ℕ) → IsOver K I → ((x : ℕ) → In x I → g.spans (B ++ K) x ≡ true) → length I ≤ length B
  steinitz [] K [] o h = omega arith
  steinitz [] K (x ∷ I) o h = clash (spans_more g laws K (I ++ K) x (λ z i. In-append_right z I K i) (h x (inl refl))) o.0
  steinitz (b ∷ B) K I o h =
      elim (find_in (λ x. g.spans (B ++ K) x ≡ false) (λ x. g.spans (B ++ K) x ≡ true) I
      (λ x i. elim (cases_Bool (g.spans (B ++ K) x)) [ inl t ↦ inr t | inr f ↦ inl f ])) [
        | inr all ↦ (let k = steinitz B K I o all in omega (arith, k))
        | inl w ↦
            let x : ℕ = w.0 in
            let m = over_move K I x o w.1 in
            let sb : g.spans (x ∷ (B ++ K)) b ≡ true = laws.swaps (B ++ K) x b (h x w.1) w.2 in
            let k = steinitz B (x ∷ K) m.0 m.3 (λ z j.
            laws.through (b ∷ (B ++ K)) (B ++ x ∷ K) z
            (λ y i. elim i [
              | inl e ↦ rw e (spans_more g laws (x ∷ (B ++ K)) (B ++ x ∷ K) b (λ v l. elim l [
                | inl s ↦ In-append_right v B (x ∷ K) (inl s)
                | inr n ↦ elim (In-append_cases v B K n) [ inl p ↦ In-append_left v B (x ∷ K) p | inr p ↦ In-append_right v B (x ∷ K) (inr p) ]
              ]) sb)
              | inr l ↦ laws.member (B ++ x ∷ K) y (elim (In-append_cases y B K l) [ inl p ↦ In-append_left y B (x ∷ K) p | inr p ↦ In-append_right y B (x ∷ K) (inr p) ])
            ])
            (h z (m.2 z j))) in
            let n = m.1 in
            omega (arith, k, n)
      ]

  over_nil : (I : List ℕ) → IsIndependent g I → IsOver [] I
  over_nil [] f = tt
  over_nil (e ∷ I) f = (rw (append-nil I) f.0, over_nil I f.1)

  pub rank-short : (L : List ℕ) → g.rank L ≤ length L
  rank-short [] = omega (arith, laws.rank_empty)
  rank-short (e ∷ L) =
      let k = rank-short L in
      elim (cases_Bool (g.spans L e)) [ inl t ↦ (let s = laws.rank_spanned L e t in omega (arith, k, s)) | inr f ↦ (let s = laws.rank_new L e f in omega (arith, k, s)) ]

  pub rank-independent : (L : List ℕ) → IsIndependent g L → g.rank L ≡ length L
  rank-independent [] f = laws.rank_empty
  rank-independent (e ∷ L) f = laws.rank_new L e f.0 ∙ ap suc (rank-independent L f.1)

  pub independent_from_rank : (L : List ℕ) → g.rank L ≡ length L → IsIndependent g L
  independent_from_rank [] e = tt
  independent_from_rank (x ∷ L) e =
      let k = rank-short L in
      elim (cases_Bool (g.spans L x)) [
        | inl t ↦ absurd (let s = laws.rank_spanned L x t in omega (arith, k, s, e))
        | inr f ↦ (f, independent_from_rank L (let s = laws.rank_new L x f in omega (arith, s, e)))
      ]

  -- a list has an independent part that spans it, a basis, and its length is the rank
  pub rank_basis : (L : List ℕ) → (I : List ℕ) × IsIndependent g I × ((x : ℕ) → In x I → In x L) × ((x : ℕ) → In x L → g.spans I x ≡ true) × (length I ≡ g.rank L)
  rank_basis [] = ([], tt, (λ x i. i), (λ x i. absurd i), sym laws.rank_empty)
  rank_basis (e ∷ L) =
      let r = rank_basis L in
      elim (cases_Bool (g.spans L e)) [
        | inl t ↦ (r.0, r.1, (λ x i. inr (r.2 x i)), (λ x i. elim i [ inl s ↦ rw s (laws.through L r.0 e r.3 t) | inr j ↦ r.3 x j ]), r.4 ∙ sym (laws.rank_spanned L e t))
        | inr f ↦ (
          e ∷ r.0,
          (spans_less g laws r.0 L e r.2 f, r.1),
          (λ x i. elim i [ inl s ↦ inl s | inr j ↦ inr (r.2 x j) ]),
          (λ x i. elim i [ inl s ↦ laws.member (e ∷ r.0) x (inl s) | inr j ↦ spans_more g laws r.0 (e ∷ r.0) x (λ z k. inr k) (r.3 x j) ]),
          ap suc r.4 ∙ sym (laws.rank_new L e f),
        )
      ]

  pub rank-within : (L K : List ℕ) → ((x : ℕ) → In x L → g.spans K x ≡ true) → g.rank L ≤ g.rank K
  rank-within L K h =
      let a = rank_basis L in
      let b = rank_basis K in
      let k : length a.0 ≤ length b.0 = steinitz b.0 [] a.0 (over_nil a.0 a.1) (λ x i. rw (append-nil b.0) (laws.through K b.0 x b.3 (h x (a.2 x i)))) in
      let e = a.4 in let f = b.4 in
      omega (arith, k, e, f)

  -- independent branches are different
  pub IsDistinct-independent : (L : List ℕ) → IsIndependent g L → IsDistinct L
  IsDistinct-independent [] f = tt
  IsDistinct-independent (e ∷ L) f = ((λ i. clash (laws.member L e i) f.0), IsDistinct-independent L f.1)

  -- none of independent branches is spanned by the others
  pub independent_apart : (L : List ℕ) → IsIndependent g L → (e : ℕ) → In e L → g.spans (without e L) e ≡ false
  independent_apart [] f e i = absurd i
  independent_apart (x ∷ L) f e (inl s) =
      let n : other_than e x ≡ false = rw s (other_self x) in
      rw n (spans_less g laws (without e L) L e (λ y j. (In-filter_from (other_than e) y L j).0) (rw s f.0))
  independent_apart (x ∷ L) f e (inr i) =
      let n : other_than e x ≡ true = other_true e x (λ s. (IsDistinct-independent (x ∷ L) f).0 (In_same x e L s i)) in
      rw n (elim (cases_Bool (g.spans (x ∷ without e L) e)) [
        | inr r ↦ r
        | inl t ↦ clash
            (laws.through (e ∷ without e L) L x
            (λ y j. elim j [ inl s ↦ laws.member L y (In_same y e L s i) | inr k ↦ laws.member L y (In-filter_from (other_than e) y L k).0 ])
            (laws.swaps (without e L) e x t (independent_apart L f.1 e i)))
            f.0
      ])

  -- different branches of which none is spanned by the others are independent
  pub independent_from_apart : (L : List ℕ) → IsDistinct L → ((e : ℕ) → In e L → g.spans (without e L) e ≡ false) → IsIndependent g L
  independent_from_apart [] d h = tt
  independent_from_apart (x ∷ L) d h = (
    spans_less g laws L (without x (x ∷ L)) x
        (λ y j. In-filter (other_than x) y (x ∷ L) (inr j) (other_true x y (λ s. d.0 (In_same x y L (sym s) j))))
        (h x (inl refl)),
    independent_from_apart L d.1 (λ e i. spans_less g laws (without e L) (without e (x ∷ L)) e
        (λ y j. let u = In-filter_from (other_than e) y L j in In-filter (other_than e) y (x ∷ L) (inr u.0) u.1)
        (h e (inr i))),
  )

  -- the order of independent branches does not matter
  pub independent_any_order : (L : List ℕ) → IsIndependent g L ↔ (IsDistinct L × ((e : ℕ) → In e L → g.spans (without e L) e ≡ false))
  independent_any_order L = ((λ f. (IsDistinct-independent L f, independent_apart L f)), (λ h. independent_from_apart L h.0 h.1))

  -- no independent part of a list is longer than its rank
  pub rank_longest : (L I : List ℕ) → IsIndependent g I → ((x : ℕ) → In x I → In x L) → length I ≤ g.rank L
  rank_longest L I f h =
      let a = rank-within I L (λ x i. laws.member L x (h x i)) in
      let b = rank-independent I f in
      omega (arith, a, b)
