-- Functions that compute what the relations say: the first assignment, the greatest length, and whether an item is critical.
-- They try every branch of every item, and serve as definitions, never as programs.
use Rattle.std.specs.Prelude.{ℕ, Bool, if◌then◌else◌, not, nat_lt, List, [], ◌∷◌, length}
use Rattle.obs_matroid.specs.Lists.{without}
use Rattle.obs_matroid.specs.Matroid.{Matroid}
use Rattle.obs_matroid.specs.Assignments.{Pair}

-- the longer of two, the first where they are equally long
abbrev pub longer : List Pair → List Pair → List Pair
longer A B = if nat_lt (length A) (length B) then B else A

-- the first of the longest among what each branch that passes gives, in order, and last `bare`, which needs no branch
abbrev pub pick : (ℕ → Bool) → (ℕ → List Pair) → List Pair → List ℕ → List Pair
pick passes given bare [] = bare
pick passes given bare (e ∷ es) =
    if passes e then longer (given e) (pick passes given bare es) else pick passes given bare es

-- the first of the longest assignments of M whose branches are independent together with those of L
unfoldable pub first_with : Matroid → (ℕ → List ℕ) → List ℕ → List ℕ → List Pair
first_with g touch [] L = []
first_with g touch (m ∷ M) L = pick (λ e. not (g.spans L e)) (λ e. (m, e) ∷ first_with g touch M (e ∷ L)) (first_with g touch M L) (touch m)

-- the first assignment of M
unfoldable pub first_of : Matroid → (ℕ → List ℕ) → List ℕ → List Pair
first_of g touch M = first_with g touch M []

-- the greatest length of an assignment of items of M
unfoldable pub rho_of : Matroid → (ℕ → List ℕ) → List ℕ → ℕ
rho_of g touch M = length (first_of g touch M)

-- whether m is critical in M
unfoldable pub is_critical : Matroid → (ℕ → List ℕ) → List ℕ → ℕ → Bool
is_critical g touch M m = nat_lt (rho_of g touch (without m M)) (rho_of g touch M)
