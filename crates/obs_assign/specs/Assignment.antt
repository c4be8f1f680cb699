-- A kept assignment: pairs of a meter and a branch that it touches, whose branches are a forest.
use Rattle.std.specs.Prelude.{ℕ, Bool, Option, List}
use Rattle.obs_forest.specs.Forest.{Forest}

-- by meter its branch or none, which meters are frozen, the number of turns, the forest of the branches, and for how
-- many meters there is room
pub record Assignment : Type 0 where
  pub slots : List (Option ℕ)
  pub frozen : List Bool
  pub turns : ℕ
  pub forest : Forest
  pub most_meters : ℕ
