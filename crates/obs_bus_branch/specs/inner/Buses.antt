-- Numbers of buses and names of branches.
use Rattle.std.specs.Prelude.{◌≡◌, ℕ, suc, ◌<◌, true, nat_eq, List, [], ◌∷◌, map, Option, Some}
use Rattle.std.specs.List.{AllByRecursion, IsDistinct}
use Rattle.obs_case.specs.declared.rows.Branch.{Branch}
use Rattle.obs_bus_branch.specs.Buses.{Bus, has_bus, place_of_bus, branch_name}

-- a number that is said is that of the bus at this position
pub record IsEnd (buses : List Bus) (said : Option ℕ) (position : ℕ) : Type 0 where
  pub number : ℕ
  pub named : said ≡ Some number
  pub there : has_bus buses number ≡ true
  pub place : position ≡ place_of_bus buses number

-- buses with numbers below a limit, no two of which are equal
pub record AreBusesBelow (limit : ℕ) (buses : List Bus) : Type 0 where
  pub small : AllByRecursion (λ (bus : Bus). bus.number < limit) buses
  pub different : IsDistinct nat_eq (map (λ (bus : Bus). bus.number) buses)

-- branches that are named in order, from this number on
abbrev pub AreNamed : ℕ → List Branch → Type 0
AreNamed k [] = Unit {0}
AreNamed k (branch ∷ branches) = (branch.name ≡ branch_name k) × AreNamed (suc k) branches
