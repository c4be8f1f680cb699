-- Which pairs are an assignment of worked cases.
use Rattle.std.proofs.Common.{◌≡◌, ℕ, true, false, Bool, [], ◌∷◌, refl, sym, subst, inl, inr, arith}
use Rattle.obs_matroid.specs.Assignments.{Pair}
use Rattle.obs_matroid.specs.Lists.{In}
use Rattle.obs_meter.specs.Touches.{touch_at}
use Rattle.obs_network.specs.Network.{case_branches, case_meters}
use Rattle.obs_network.specs.Observable.{case_live_meters}
use Rattle.obs_worked.specs.inner.Answers.{FlowAndInjectionPair, NoBranchHasTwo, NoCycle, NoMeterHasTwo, NoneUntouched}
use Rattle.obs_worked.specs.inner.Cases.{row_of_four}
use Rattle.obs_worked.proofs.Computed.{computed}

clash : {P : Type 0} {b : Bool} → b ≡ true → b ≡ false → P
clash t f = cc

other : (m k : ℕ) → (m ≡ k → ⊥) → In m (k ∷ []) → ⊥
other m k d (inl e) = d e
other m k d (inr f) = absurd f

of_two : (P : Pair → Type 0) (x y : Pair) → P x → P y → (p : Pair) → In p (x ∷ y ∷ []) → P p
of_two P x y a b p (inl e) = subst (λ (q : Pair). P q) (sym e) a
of_two P x y a b p (inr (inl e)) = subst (λ (q : Pair). P q) (sym e) b
of_two P x y a b p (inr (inr f)) = absurd f

pub pairs : FlowAndInjectionPair
unfolding computed
pairs = record {
  of_items = of_two (λ p. In p.0 (case_live_meters row_of_four)) (0, 0) (2, 1) (inl refl) (inr (inr (inl refl)));
  touched = of_two (λ p. In p.1 (touch_at (case_branches row_of_four) (case_meters row_of_four) p.0)) (0, 0) (2, 1) (inl refl) (inr (inl refl));
  different = (other 0 2 (λ e. omega (arith, e)), ((λ f. f), tt));
  independent = (refl, (refl, tt));
}

pub branch : NoBranchHasTwo
unfolding computed
branch a = clash refl a.independent.0

pub meter : NoMeterHasTwo
unfolding computed
meter a = a.different.0 (inl refl)

pub untouched : NoneUntouched
unfolding computed
untouched a = other 1 0 (λ e. omega (arith, e)) (a.touched (0, 1) (inl refl))

pub cycle : NoCycle
unfolding computed
cycle a = clash refl a.independent.0
