-- Meters of a list touch something else, one after the other.
use Rattle.std.proofs.Common.{◌≡◌, ℕ, ◌+◌, ◌<◌, inl, inr, List, length, get_or, set, refl, ap, ◌∙◌, sym, arith, get_or-set_same, get_or-set_other}
use Rattle.std.proofs.lemmas.Bool.{cases_eq}
use Rattle.std.proofs.lemmas.List.{get_or_default, length-set}
use Rattle.obs_matroid.proofs.Contained.{Contains-from_In, In-from_Contains}
use Rattle.obs_meter.specs.declared.Touch.{Touch}
use Rattle.obs_meter.specs.declared.Touch.TheVariants.{Nothing}
use Rattle.obs_outage.specs.inner.Without.{AreTouched}

-- the first i of the list do, and those that aren't among them touch what they did
pub record IsTouching (f : Touch → Touch) (list : List ℕ) (elsewhere before : List Touch) (i : ℕ) (after : List Touch) : Type 0 where
  pub len : length after ≡ length before
  pub done : (j : ℕ) → j < i → get_or after (get_or list j 0) Nothing ≡ f (get_or elsewhere (get_or list j 0) Nothing)
  pub rest : (k : ℕ) → ((j : ℕ) → j < i → get_or list j 0 ≡ k → ⊥) → get_or after k Nothing ≡ get_or before k Nothing

module _ (f : Touch → Touch) (list : List ℕ) (elsewhere before : List Touch) where
  pub Touching-none : IsTouching f list elsewhere before 0 before
  Touching-none = record { len = refl; done = λ j l. absurd (omega (arith, l)); rest = λ k out. refl }

  -- one more
  pub Touching-next : (i : ℕ) (after : List Touch) (m : ℕ) (t : Touch) → get_or list i 0 ≡ m → m < length before → t ≡ f (get_or elsewhere m Nothing) → IsTouching f list elsewhere before i after
      → IsTouching f list elsewhere before (i + 1) (set after m t)
  Touching-next i after m t at low is h = record {
    len = length-set after m t ∙ h.len;
    done = λ j l. elim (cases_eq (get_or list j 0) m) [
      | inl same ↦ ap (λ k. get_or (set after m t) k Nothing) same ∙ (get_or-set_same after m t Nothing (let len = h.len in omega (arith, low, len)) ∙ (is ∙ ap (λ k. f (get_or elsewhere k Nothing)) (sym same)))
      | inr ne ↦ get_or-set_other after m (get_or list j 0) t Nothing ne ∙ h.done j (before_it j l ne)
    ];
    rest = λ k out. get_or-set_other after m k t Nothing (λ e. out i (omega arith) (at ∙ sym e)) ∙ h.rest k (λ j l. out j (omega (arith, l)));
  }
    where
      before_it : (j : ℕ) → j < i + 1 → (get_or list j 0 ≡ m → ⊥) → j < i
      before_it j l ne = elim (cases_eq j i) [
        | inl e ↦ absurd (ne (ap (λ k. get_or list k 0) e ∙ at))
        | inr other ↦ omega (arith, l, other)
      ]

  -- all of them
  pub Touching-all : (i : ℕ) (after : List Touch) → i ≡ length list → IsTouching f list elsewhere before i after → AreTouched f list elsewhere before after
  Touching-all i after all h = record {
    len = h.len;
    listed = λ m there.
        let c = Contains-from_In m list there in
        let l = c.1 in
        let at : get_or list c.0 0 ≡ m = get_or_default list c.0 0 m c.1 ∙ c.2 in
        ap (λ k. get_or after k Nothing) (sym at) ∙ (h.done c.0 (omega (arith, l, all)) ∙ ap (λ k. f (get_or elsewhere k Nothing)) at);
    rest = λ m out. h.rest m (λ j l e. out (In-from_Contains m list (j, (omega (arith, l, all)), get_or_default list j m 0 (omega (arith, l, all)) ∙ e)));
  }
