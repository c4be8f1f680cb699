-- The pairs whose item is still used. `ends` has the branches by position, `touches` what each item touches still.
use Rattle.std.specs.Prelude.{◌≡◌, ℕ, ◌^◌, ◌<◌, ◌≤◌, Bool, true, false, Option, Some, None, List, length, slice_index_or}
use Rattle.obs_graph.specs.declared.Ends.{Ends}
use Rattle.obs_graph.specs.Graph.{Graph}
use Rattle.obs_graph.specs.Positions.{AreBranches}
use Rattle.obs_graph.specs.inner.Search.{State, room_of}
use Rattle.obs_meter.specs.declared.Touch.{Touch}
use Rattle.obs_meter.specs.declared.Touch.TheVariants.{Nothing, Edge, Star, Front}
use Rattle.obs_assign.specs.Assignment.{Assignment}
use Rattle.obs_assign.specs.inner.Assignment.{branch_at}
use Rattle.obs_islands.specs.declared.pairing.Pairing.{Pairing}

-- whether it is nothing, as what a discarded item touches
abbrev pub is_nothing : Touch → Bool
is_nothing Nothing = true
is_nothing (Edge e) = false
is_nothing (Star v) = false
is_nothing (Front v count) = false

-- the item has the branch e, and is still used
pub record HasLeft (touches : List Touch) (a : Assignment) (e m : ℕ) : Type 0 where
  pub has : branch_at a m ≡ Some e
  pub used : is_nothing (slice_index_or touches m Nothing) ≡ false

-- o are the ends of the branch e where an item has it that is still used, and there are none where none has
pub record IsLeftAt (ends : List (Option Ends)) (touches : List Touch) (a : Assignment) (e : ℕ) (o : Option Ends) : Type 0 where
  pub left : (m : ℕ) → HasLeft touches a e m → o ≡ slice_index_or ends e None
  pub only : (x : Ends) → o ≡ Some x → (slice_index_or ends e None ≡ Some x) × ((m : ℕ) × HasLeft touches a e m)

-- at each position stand the ends of the branch where such an item has it
pub record AreLeft (ends : List (Option Ends)) (touches : List Touch) (a : Assignment) (held : List (Option Ends)) : Type 0 where
  pub one_each : length held ≡ length ends
  pub at : (e : ℕ) → e < length held → IsLeftAt ends touches a e (slice_index_or held e None)

-- the pairs have a place for each branch of the graph, and a place for each item
pub record AreOver (pairing : Pairing) (touches : List Touch) : Type 0 where
  pub positions : length pairing.graph.now.ends ≡ length pairing.pairs.now.forest.held
  pub meters : length touches ≡ length pairing.pairs.now.slots

-- a graph whose vertices and branches can be numbered
pub record IsNumbered (g : Graph) : Type 0 where
  pub branches : AreBranches g.vertices g.ends
  pub few : g.vertices < 2 ^ 32
  pub few_branches : length g.ends < 2 ^ 32

-- there is a place for each branch, one for each vertex, and room for a search over these
pub record HasPlaces (g : Graph) (held : List (Option Ends)) (search : State) (firsts : List ℕ) : Type 0 where
  pub one_each : length held ≡ length g.ends
  pub room : g.vertices ≤ room_of search
  pub names : length firsts ≡ g.vertices
