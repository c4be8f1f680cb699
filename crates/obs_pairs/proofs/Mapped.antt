-- Lists whose entries change one after the other.
use Rattle.std.proofs.Common.{◌≡◌, ℕ, ◌+◌, ◌<◌, ◌≤◌, List, length, get_or, set, refl, sym, ap, ◌∙◌, inl, inr, arith}
use Rattle.std.proofs.lemmas.Bool.{cases_eq, cases_lt}
use Rattle.std.proofs.lemmas.List.{get_or-set_other, get_or-set_same, get_or_past, length-set}

-- the entries below i are changed by F, which sees their places too
pub record IsMapped (X : Type 0) (d : X) (F : ℕ → X → X) (before list : List X) (i : ℕ) : Type 0 where
  pub len : length list ≡ length before
  pub done : (k : ℕ) → k < i → get_or list k d ≡ F k (get_or before k d)
  pub rest : (k : ℕ) → i ≤ k → get_or list k d ≡ get_or before k d

module _ (X : Type 0) (d : X) (F : ℕ → X → X) (before : List X) where
  pub Mapped-none : IsMapped X d F before before 0
  Mapped-none = record { len = refl; done = λ k l. absurd (omega (arith, l)); rest = λ k l. refl }

  pub Mapped-more : (list : List X) (i : ℕ) (x : X) → i < length list → x ≡ F i (get_or list i d) → IsMapped X d F before list i → IsMapped X d F before (set list i x) (i + 1)
  Mapped-more list i x low e h = record {
    len = length-set list i x ∙ h.len;
    done = λ k l. elim (cases_eq k i) [
      | inl s ↦ ap (λ y. get_or (set list i x) y d) s ∙ (get_or-set_same list i x d low ∙ (e ∙ (ap (F i) (h.rest i (omega arith)) ∙ ap (λ y. F y (get_or before y d)) (sym s))))
      | inr n ↦ get_or-set_other list i k x d n ∙ h.done k (omega (arith, l, n))
    ];
    rest = λ k l. get_or-set_other list i k x d (omega (arith, l)) ∙ h.rest k (omega (arith, l));
  }

  pub Mapped-all : (list : List X) (i : ℕ) → length before ≤ i → ((k : ℕ) → length before ≤ k → F k d ≡ d) → IsMapped X d F before list i → (k : ℕ) → get_or list k d ≡ F k (get_or before k d)
  Mapped-all list i e past h k = elim (cases_lt k i) [
    | inl l ↦ h.done k l
    | inr l ↦
        let p = h.len in
        get_or_past list k d (omega (arith, p, e, l)) ∙ (sym (past k (omega (arith, e, l))) ∙ ap (F k) (sym (get_or_past before k d (omega (arith, e, l)))))
  ]
