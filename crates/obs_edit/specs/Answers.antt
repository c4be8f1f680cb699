-- The first pairs and the islands of a case.
use Rattle.std.specs.Prelude.{ℕ, List}
use Rattle.obs_case.specs.Tables.{Tables}
use Rattle.obs_matroid.specs.Assignments.{Pair}
use Rattle.obs_first.specs.First.{first_pairs}
use Rattle.obs_islands.specs.Firsts.{islands_of}
use Rattle.obs_network.specs.Network.{case_branches, case_meters, case_vertex_count}

-- the pairs of the first assignment of a case's meters, by meter
unfoldable pub case_first_pairs : Tables → List Pair
case_first_pairs t = first_pairs (case_vertex_count t) (case_branches t) (case_meters t)

-- of each vertex of a case the first vertex of its island; the buses come first, so that of a bus is a bus
unfoldable pub case_islands : Tables → List ℕ
case_islands t = islands_of (case_vertex_count t) (case_branches t) (case_meters t)
