-- What listing and ranking the meters of a bound asks, and what is kept of it.
use Rattle.std.specs.Prelude.{◌≡◌, ℕ, ◌≤◌, Bool, Option, List, length, take}
use Rattle.obs_graph.specs.declared.Ends.{Ends}
use Rattle.obs_graph.specs.Graph.{Graph}
use Rattle.obs_graph.specs.inner.Graph.{Room}
use Rattle.obs_meter.specs.declared.Touch.{Touch}
use Rattle.obs_meter.specs.inner.Sizes.{Sizes}
use Rattle.obs_meter.specs.inner.Touches.{AreInRange}
use Rattle.obs_rankcut.specs.declared.listing.Choice.{Choice}
use Rattle.obs_rankcut.specs.inner.Flags.{marked}
use Rattle.obs_rankcut.specs.Bounds.{listed, unlisted}

-- the meters are in range of the graph, each has its mark and its flag of the scope, and there is room to list all
pub record CanList (g : Graph) (touches : List Touch) (choice : Choice) (places : List ℕ) : Type 0 where
  pub in_range : AreInRange g touches
  pub marks : length choice.marks.now ≡ length touches
  pub scope : length choice.scope.now ≡ length touches
  pub list : length touches ≤ length places

-- there is room for the branches and the vertices of the graph, among flags, among counts and where a rank is found
pub record HasRoomToRank (g : Graph) (fs : List Bool) (ns : List ℕ) (room : Room) : Type 0 where
  pub flags : length g.ends ≤ length fs
  pub fronts : g.vertices ≤ length ns
  pub branches : length g.ends ≤ room.most_branches
  pub vertices : g.vertices ≤ room.most_vertices

-- so many meters stand in the list, which are those to be listed, and so many others were counted
pub record IsCounted (ends : List (Option Ends)) (touches : List Touch) (choice : Choice) (places : List ℕ) (count others : ℕ) : Type 0 where
  pub bound : count ≤ length touches
  pub inside : take count places ≡ listed ends touches (marked choice.marks.now) (marked choice.scope.now)
  pub outside : others ≡ length (unlisted ends touches (marked choice.marks.now) (marked choice.scope.now))

-- what a work value is seen as: the list that was measured last, and the sizes that it was made for
pub record CutWork : Type 0 where
  pub inside : List ℕ
  pub sizes : Sizes
