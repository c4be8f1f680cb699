-- What a session keeps of a placement, and the room for it.
use Rattle.std.specs.Prelude.{ℕ, ◌+◌, Bool, if◌then◌else◌, List, length}
use Rattle.obs_case.specs.Tables.{Tables, prices_of}
use Rattle.obs_meter.specs.inner.Sizes.{Sizes}
use Rattle.obs_assign.specs.Assignment.{Assignment}
use Rattle.obs_placement.specs.inner.Choosing.{no_pairs, nothing_placed}
use Rattle.obs_placement.specs.Placed.{Placed}
use Rattle.obs_network.specs.Network.{case_vertex_room}
use Rattle.obs_network.specs.inner.Network.{case_position_count}

-- the sizes of a work value for a case where candidates count as meters
abbrev pub offered_room : Tables → Sizes
offered_room t = record { meters = length t.meters + length t.candidates; branches = case_position_count t; vertices = case_vertex_room t }

-- no rows
abbrev pub no_rows : Sizes
no_rows = record { meters = 0; branches = 0; vertices = 0 }

-- what the pairs of a placement are kept in: those that were found last, and the sizes that it was made for
pub record Paired : Type 0 where
  pub pairs : Assignment
  pub sizes : Sizes

-- as it is made
abbrev pub new_paired : Sizes → Paired
new_paired s = record { pairs = no_pairs s; sizes = s }

-- what a placement is kept in: the one that was found last, its pairs, the prices of the candidates, and the sizes that it was
-- made for, where candidates count as meters
pub record Planning : Type 0 where
  pub placed : Placed
  pub pairs : Assignment
  pub prices : List ℕ
  pub sizes : Sizes

-- as it is made with room for these sizes
abbrev pub planning_of : Sizes → List ℕ → Planning
planning_of sizes prices = record { placed = nothing_placed; pairs = no_pairs sizes; prices = prices; sizes = sizes }

-- as it is made for a case: there is room for a placement where candidates were given
abbrev pub new_planning : Bool → Tables → Planning
new_planning offered t = planning_of (if offered then offered_room t else no_rows) (prices_of t.candidates)
