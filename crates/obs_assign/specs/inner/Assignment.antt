-- What is true of a kept assignment: its pairs, its frozen meters, and what it stands over.
use Rattle.std.specs.Prelude.{◌≡◌, ◌↔◌, ℕ, ◌≤◌, Bool, false, Option, Some, None, List, length, slice_index_or, IsSome}
use Rattle.obs_graph.specs.declared.Ends.{Ends}
use Rattle.obs_graph.specs.Positions.{IsForestAt}
use Rattle.obs_graph.specs.Graph.{Graph}
use Rattle.obs_matroid.specs.Lists.{In}
use Rattle.obs_matroid.specs.Assignments.{Pair, branches}
use Rattle.obs_matroid.specs.inner.Assignments.{part}
use Rattle.obs_matroid.specs.inner.Closed.{HasFrozen}
use Rattle.obs_matroid.specs.inner.Slots.{pairs_of}
use Rattle.obs_meter.specs.declared.Touch.{Touch}
use Rattle.obs_meter.specs.Touches.{touch_at}
use Rattle.obs_forest.specs.inner.Forest.{StandsOver as ForestStandsOver}
use Rattle.obs_assign.specs.Assignment.{Assignment}

-- the branch of the meter, or none
abbrev pub branch_at : Assignment → ℕ → Option ℕ
branch_at a m = slice_index_or a.slots m None

-- whether a flag is set for the meter
abbrev pub has_flag : List Bool → ℕ → Bool
has_flag flags m = slice_index_or flags m false

-- whether the meter is frozen
abbrev pub is_frozen : Assignment → ℕ → Bool
is_frozen a = has_flag a.frozen

-- the pairs of a meter and its branch, by meter
abbrev pub pairs : Assignment → List Pair
pairs a = pairs_of a.slots

-- the branches of the pairs whose meter is frozen
abbrev pub frozen_branches : Assignment → List ℕ
frozen_branches a = branches (part (is_frozen a) (pairs a))

-- the branches of the pairs are a forest and are those that are held, with their ends
pub record HoldsPairs (slots : List (Option ℕ)) (held : List (Option Ends)) : Type 0 where
  pub forest : IsForestAt held (branches (pairs_of slots))
  pub exactly : (p : ℕ) → IsSome (slice_index_or held p None) ↔ In p (branches (pairs_of slots))

-- the pairs are held, and each frozen meter has one
pub record ArePaired (slots : List (Option ℕ)) (frozen : List Bool) (held : List (Option Ends)) : Type 0 where
  pub flags : length frozen ≡ length slots
  pub holds : HoldsPairs slots held
  pub frozen_have : HasFrozen (has_flag frozen) (pairs_of slots)

-- what is true of every kept assignment: its branches are those of its forest, its frozen meters have pairs, and it is
-- within the sizes that it was made for
pub record IsWhole (a : Assignment) : Type 0 where
  pub paired : ArePaired a.slots a.frozen a.forest.held
  pub meters : length a.slots ≤ a.most_meters
  pub vertices : a.forest.vertices ≤ a.forest.most_vertices
  pub positions : length a.forest.held ≤ a.forest.most_branches

-- the assignment stands over a graph and what its meters touch: its forest stands over the graph, it has that number of
-- meters, and each pair's branch is touched by its meter
pub record StandsOver (a : Assignment) (g : Graph) (touches : List Touch) : Type 0 where
  pub forest : ForestStandsOver a.forest g
  pub meters : length touches ≡ length a.slots
  pub touched : (m e : ℕ) → branch_at a m ≡ Some e → In e (touch_at g.ends touches m)

-- the sizes that it was made for are as before
pub record HasRoomOf (a b : Assignment) : Type 0 where
  pub meters : b.most_meters ≡ a.most_meters
  pub vertices : b.forest.most_vertices ≡ a.forest.most_vertices
  pub branches : b.forest.most_branches ≡ a.forest.most_branches

-- the graph and the number of meters are within the sizes that it was made for
pub record Fits (a : Assignment) (g : Graph) (touches : List Touch) : Type 0 where
  pub meters : length touches ≤ a.most_meters
  pub vertices : g.vertices ≤ a.forest.most_vertices
  pub branches : length g.ends ≤ a.forest.most_branches
