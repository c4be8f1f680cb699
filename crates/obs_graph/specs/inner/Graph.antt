-- The arrays that a graph is kept in, and the sizes of work values.
use Rattle.std.specs.Prelude.{◌≡◌, ℕ, ◌-◌, ◌*◌, ◌^◌, ◌<◌, ◌≤◌, Option, List, length, take, slice_index}
use Rattle.obs_graph.specs.declared.Ends.{Ends}
use Rattle.obs_graph.specs.Positions.{AreBranches}
use Rattle.obs_graph.specs.inner.Positions.{AreStarts, AreParts}

-- the sizes that a work value was made for
pub record Room : Type 0 where
  pub most_vertices : ℕ
  pub most_branches : ℕ

-- the arrays of a graph: the first positions of ends are its branches, and at has the parts of all
-- vertices that there is room for
pub record IsStored (vertices positions : ℕ) (ends : List (Option Ends)) (itself starts at : List ℕ) : Type 0 where
  pub few : length ends < 2 ^ 32
  pub held : positions ≤ length ends
  pub below : vertices < length starts
  pub branches : AreBranches vertices (take positions ends)
  pub itself_len : length itself ≡ length ends
  pub itself_is : (k : ℕ) → k < length ends → slice_index itself k ≡ k
  pub room : 2 * length ends ≤ length at
  pub starts_is : AreStarts (length starts) (take positions ends) starts
  pub parts : AreParts (length starts - 1) (take positions ends) at
