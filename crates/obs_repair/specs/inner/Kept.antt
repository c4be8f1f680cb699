-- The room for the kept pairs of a case.
use Rattle.std.specs.Prelude.{◌≡◌, length}
use Rattle.obs_case.specs.Tables.{Tables}
use Rattle.obs_meter.specs.inner.Sizes.{Sizes}
use Rattle.obs_assign.specs.Assignment.{Assignment}
use Rattle.obs_exchange.specs.inner.Found.{Work}
use Rattle.obs_network.specs.Network.{case_vertex_room}
use Rattle.obs_network.specs.inner.Network.{case_position_count}

-- the sizes of a work value for a case, whichever switches are closed
abbrev pub case_room : Tables → Sizes
case_room t = record { meters = length t.meters; branches = case_position_count t; vertices = case_vertex_room t }

-- there is room for every case with as many rows
pub record HasRoom (t : Tables) (a : Assignment) (w : Work) : Type 0 where
  pub pair_meters : a.most_meters ≡ length t.meters
  pub pair_branches : a.forest.most_branches ≡ case_position_count t
  pub pair_vertices : a.forest.most_vertices ≡ case_vertex_room t
  pub work : w.sizes ≡ case_room t
