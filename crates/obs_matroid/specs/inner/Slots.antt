-- Pairs as a list of slots, as obs_assign keeps them: the slot at each place has the branch of the item with that number, or none.
use Rattle.std.specs.Prelude.{ℕ, suc, List, [], ◌∷◌, Option, Some, None}
use Rattle.obs_matroid.specs.Assignments.{Pair}

-- the pairs of the slots, where the first slot is that of the item m
abbrev pub pairs_from : ℕ → List (Option ℕ) → List Pair
pairs_from m [] = []
pairs_from m (None ∷ slots) = pairs_from (suc m) slots
pairs_from m (Some e ∷ slots) = (m, e) ∷ pairs_from (suc m) slots

-- the pairs that the slots stand for
abbrev pub pairs_of : List (Option ℕ) → List Pair
pairs_of = pairs_from 0
