-- Branches that are held of the pairs of flagged meters.
use Rattle.std.proofs.Common.{inl, inr, ◌≡◌, ◌≢◌, ℕ, ◌+◌, ◌<◌, Bool, true, false, Option, Some, None, List, length, get_or, set, sym, ap, ◌∙◌, subst, arith, get_or-set_same, get_or-set_other}
use Rattle.std.specs.Prelude.{◌↔◌}
use Rattle.std.proofs.lemmas.Bool.{cases_eq, cases_lt}
use Rattle.std.proofs.lemmas.List.{get_or_default, get_or_past}
use Rattle.obs_graph.specs.declared.Ends.{Ends}
use Rattle.obs_matroid.proofs.Lists.{clash}
use Rattle.obs_assign.specs.Assignment.{Assignment}
use Rattle.obs_assign.specs.inner.Assignment.{branch_at, has_flag}
use Rattle.obs_repair.specs.inner.Parts.{HoldsOwn}

below : {m k : ℕ} → m < k → m < k + 1
below low = omega (arith, low)

but_last : {m k : ℕ} → m < k + 1 → m ≢ k → m < k
but_last low not_k = omega (arith, low, not_k)

some_same : {i j : ℕ} → Some i ≡ Some j → i ≡ j
some_same e = cc e

none_ends : {x : Ends} → None ≡ Some x → ⊥
none_ends e = cc e

module _ (ends : List (Option Ends)) (a : Assignment) (flags : List Bool) where
  -- of the meters below k those of flagged ones are held
  abbrev pub HoldsBelow : ℕ → List (Option Ends) → Type 0
  HoldsBelow k held = (e : ℕ) (x : Ends) → (get_or held e None ≡ Some x) ↔ ((get_or ends e None ≡ Some x) × (m : ℕ) × (m < k) × (has_flag flags m ≡ true) × (branch_at a m ≡ Some e))

  pub HoldsBelow-none : (held : List (Option Ends)) → ((e : ℕ) → get_or held e None ≡ None) → HoldsBelow 0 held
  HoldsBelow-none held none e x = ((λ is. absurd (none_ends (sym (none e) ∙ is))), λ h. absurd (let low = h.2 in omega (arith, low)))

  -- a meter without a flag or without a pair
  pub HoldsBelow-skip : (k : ℕ) (held : List (Option Ends)) → ((e : ℕ) → has_flag flags k ≡ true → branch_at a k ≡ Some e → ⊥) → HoldsBelow k held → HoldsBelow (k + 1) held
  HoldsBelow-skip k held not_k h e x = (
    (λ is. let w = (h e x).0 is in (w.0, w.1, below w.2, w.3, w.4)),
    λ w. elim (cases_eq w.1 k) [
      | inl y ↦ absurd (not_k e (subst (λ j. has_flag flags j ≡ true) y w.3) (subst (λ j. branch_at a j ≡ Some e) y w.4))
      | inr n ↦ (h e x).1 (w.0, w.1, but_last w.2 n, w.3, w.4)
    ],
  )

  -- a flagged meter with a pair
  pub HoldsBelow-more : (k : ℕ) (held : List (Option Ends)) (p : ℕ) (o : Option Ends) → has_flag flags k ≡ true → branch_at a k ≡ Some p → o ≡ get_or ends p o → p < length ends → p < length held
      → HoldsBelow k held → HoldsBelow (k + 1) (set held p o)
  HoldsBelow-more k held p o flag pair is low there h e x = elim (cases_eq e p) [
    | inl y ↦ (
        let here : get_or (set held p o) e None ≡ get_or ends e None =
        ap (λ j. get_or (set held p o) j None) y ∙ (get_or-set_same held p o None there ∙ (is ∙ (get_or_default ends p o None low ∙ ap (λ j. get_or ends j None) (sym y)))) in
        ((λ i. (sym here ∙ i, k, omega arith, flag, pair ∙ ap Some (sym y))), λ w. here ∙ w.0))
    | inr n ↦ (
        let other : get_or (set held p o) e None ≡ get_or held e None = get_or-set_other held p e o None n in (
          (λ i. let w = (h e x).0 (sym other ∙ i) in (w.0, w.1, below w.2, w.3, w.4)),
          λ w. elim (cases_eq w.1 k) [
            | inl z ↦ absurd (n (some_same (sym (subst (λ j. branch_at a j ≡ Some e) z w.4) ∙ pair)))
            | inr m ↦ other ∙ (h e x).1 (w.0, w.1, but_last w.2 m, w.3, w.4)
          ],
        ))
  ]

  -- all meters
  pub HoldsOwn-below : (held : List (Option Ends)) → HoldsBelow (length flags) held → HoldsOwn ends a flags held
  HoldsOwn-below held h e x = (
    (λ is. let w = (h e x).0 is in (w.0, w.1, w.3, w.4)),
    λ w. (h e x).1 (w.0, w.1, flag_low w.1 w.2, w.2, w.3),
  )
    where
      flag_low : (m : ℕ) → has_flag flags m ≡ true → m < length flags
      flag_low m t = elim (cases_lt m (length flags)) [ inl l ↦ l | inr l ↦ clash t (get_or_past flags m false l) ]
