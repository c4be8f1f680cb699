-- A small matroid, to see that there is one, and what the functions compute over it.
use Rattle.std.proofs.Common.{◌≡◌, ℕ, zero, suc, List, [], ◌∷◌, refl, sym, inl, inr, cond, eqb}
use Rattle.std.specs.List.{filter}
use Rattle.std.proofs.lemmas.Bool.{or_cases, or_left, eqb-true, eq-eqb}
use Rattle.obs_matroid.specs.Matroid.{Matroid}
use Rattle.obs_matroid.specs.inner.Matroid.{IsMatroid}
use Rattle.obs_matroid.specs.inner.Bounds.{bound}
use Rattle.obs_matroid.specs.Values.{first_with, first_of, rho_of, is_critical}
use Rattle.obs_matroid.specs.Placement.{is_raising}
use Rattle.obs_matroid.specs.inner.Placement.{answer_of, own_layers}
use Rattle.obs_matroid.proofs.Lists.{clash, is_in, is_in_from, is_in_at}

-- how many different numbers a list has
abbrev different : List ℕ → ℕ
different [] = 0
different (e ∷ L) = cond (is_in L e) (different L) (suc (different L))

-- the free matroid, in which a list spans its own branches alone
abbrev free : Matroid
free = record { spans = is_in; rank = different }

IsMatroid-free : IsMatroid free
IsMatroid-free = record {
  member = λ L e i. is_in_at L e i;
  through = λ L K e h t. h e (is_in_from L e t);
  swaps = λ L e f t n. elim (or_cases (eqb e f) (is_in L e) t) [ inl s ↦ or_left (eqb f e) (is_in L f) (eq-eqb f e (sym (eqb-true e f s))) | inr s ↦ clash s n ];
  rank_empty = refl;
  rank_spanned = λ L e t. rw t refl;
  rank_new = λ L e n. rw n refl;
}

-- the items 0 and 1 touch the branch 0 alone, and all others the branches 0 and 1
touch : ℕ → List ℕ
touch zero = 0 ∷ []
touch (suc zero) = 0 ∷ []
touch (suc (suc m)) = 0 ∷ 1 ∷ []

abbrev three : List ℕ
three = 0 ∷ 1 ∷ 2 ∷ []

-- the first assignment leaves the item 1 without a branch
first_of_three : first_of free touch three ≡ (0, 0) ∷ (2, 1) ∷ []
unfolding first_of first_with touch
first_of_three = refl

-- the item 2 alone is critical, and the bound of the other two is the greatest length
critical_of_three : filter (is_critical free touch three) three ≡ 2 ∷ []
unfolding is_critical rho_of first_of first_with touch
critical_of_three = refl

rho_of_three : rho_of free touch three ≡ bound free touch (λ m. is_in (0 ∷ 1 ∷ []) m) three
unfolding rho_of first_of first_with touch
rho_of_three = refl

-- beside the item 0, of the candidates 1, 2 and 3 the second alone adds something
answer_of_three : answer_of free touch (0 ∷ []) (1 ∷ 2 ∷ 3 ∷ []) ≡ 2 ∷ []
unfolding answer_of is_raising rho_of first_of first_with touch
answer_of_three = refl

-- with prices one above the items, that answer has one own layer, up to its price 3: its bound is 1 where 2 are needed, so it shows the whole cost
own_layers_of_three : own_layers free touch suc (0 ∷ []) (1 ∷ 2 ∷ 3 ∷ []) 0 (2 ∷ []) ≡ record { from = 0; to = 3; rank = 1; outside = 0 } ∷ []
unfolding is_critical rho_of first_of first_with touch
own_layers_of_three = refl
