-- A pass over branches that looks for a meter that may give up its pair.
use Rattle.std.proofs.Common.{◌≡◌, ℕ, ◌<◌, Bool, true, false, Option, Some, None, inr, List, length, get_or, ap, ◌∙◌, arith}
use Rattle.std.specs.Prelude.{MatchOption, Contains}
use Rattle.std.proofs.lemmas.List.{get_or_default}
use Rattle.obs_assign.specs.inner.Assignment.{has_flag}
use Rattle.obs_assign.specs.inner.Spare.{IsSpareOf}

-- a meter of one of the first i branches isn't frozen
abbrev pub IsFree : List ℕ → List (Option ℕ) → List Bool → ℕ → ℕ → Type 0
IsFree path owners frozen i x = (k : ℕ) × (k < i) × (get_or owners (get_or path k 0) None ≡ Some x) × (has_flag frozen x ≡ false)

-- the meters of the first i branches are frozen
abbrev pub AreFrozen : List ℕ → List (Option ℕ) → List Bool → ℕ → Type 0
AreFrozen path owners frozen i = (k x : ℕ) → k < i → get_or owners (get_or path k 0) None ≡ Some x → has_flag frozen x ≡ true

pub record IsLooking (path : List ℕ) (owners : List (Option ℕ)) (frozen : List Bool) (m i : ℕ) (spare : Option ℕ) : Type 0 where
  pub not_m : (k : ℕ) → k < i → get_or owners (get_or path k 0) None ≡ Some m → ⊥
  pub found : MatchOption spare (AreFrozen path owners frozen i) (λ x. IsFree path owners frozen i x)

-- before any branch
pub IsLooking-none : (path : List ℕ) (owners : List (Option ℕ)) (frozen : List Bool) (m : ℕ) → IsLooking path owners frozen m 0 None
IsLooking-none path owners frozen m = record { not_m = λ k l has. absurd (omega arith); found = λ k x l has. absurd (omega arith) }

-- a branch of the path, at its place
at_place : (path : List ℕ) (p : ℕ) (has : Contains path p) → get_or path has.0 0 ≡ p
at_place path p has = get_or_default path has.0 0 p has.1 ∙ has.2

-- after all branches
pub looked : (path : List ℕ) (owners : List (Option ℕ)) (frozen : List Bool) (m i : ℕ) (spare : Option ℕ) → i ≡ length path → IsLooking path owners frozen m i spare
    → MatchOption spare ((p x : ℕ) → Contains path p → get_or owners p None ≡ Some x → has_flag frozen x ≡ true) (λ x. IsSpareOf path owners frozen m x)
looked path owners frozen m i None all look = λ p x has is. look.found has.0 x (omega (arith, has.1)) (ap (λ t. get_or owners t None) (at_place path p has) ∙ is)
looked path owners frozen m i (Some x) all look =
    let (k, l, is, thawed) = look.found in
    record {
      branch = get_or path k 0;
      listed = (k, omega arith, get_or_default path k (get_or path k 0) 0 (omega arith));
      has = is;
      thawed = thawed;
      needed = inr (λ p has owner. look.not_m has.0 (omega (arith, has.1)) (ap (λ t. get_or owners t None) (at_place path p has) ∙ owner));
    }
