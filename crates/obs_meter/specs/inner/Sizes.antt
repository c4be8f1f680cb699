-- The sizes that a work value was made for.
use Rattle.std.specs.Prelude.{ℕ, ◌≤◌, List, length}
use Rattle.obs_graph.specs.Graph.{Graph}
use Rattle.obs_meter.specs.declared.Touch.{Touch}

-- for how many meters, branches and vertices it has room
pub record Sizes : Type 0 where
  pub meters : ℕ
  pub branches : ℕ
  pub vertices : ℕ

-- what was made for these sizes has room for the graph and for what meters touch in it
pub record HasRoomFor (s : Sizes) (g : Graph) (touches : List Touch) : Type 0 where
  pub meters : length touches ≤ s.meters
  pub branches : length g.ends ≤ s.branches
  pub vertices : g.vertices ≤ s.vertices
