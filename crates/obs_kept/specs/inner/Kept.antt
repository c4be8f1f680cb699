-- A longest assignment of a network's meters, and the room for it.
use Rattle.std.specs.Prelude.{◌≡◌, length}
use Rattle.obs_case.specs.Tables.{Tables}
use Rattle.obs_meter.specs.inner.Sizes.{Sizes}
use Rattle.obs_assign.specs.Assignment.{Assignment}
use Rattle.obs_exchange.specs.inner.Found.{Work}
use Rattle.obs_exchange.specs.inner.Longest.{IsLongest}
use Rattle.obs_network.specs.Network.{Network, network_of}

-- the pairs are a longest assignment over a network, and nothing is frozen
abbrev pub AreLongestOver : Network → Assignment → Type 0
AreLongestOver n a = IsLongest n.graph n.meters.touches a

-- the same over the network of a case
abbrev pub AreLongest : Tables → Assignment → Type 0
AreLongest t a = AreLongestOver (network_of t) a

-- the sizes of a work value for a network, whichever flags are set
abbrev pub network_sizes : Network → Sizes
network_sizes n = record { meters = n.rows.meters; branches = length n.graph.ends; vertices = n.graph.most_vertices }

-- there is room for the pairs of a network and their searches, whichever flags are set
pub record HasRoomOver (n : Network) (a : Assignment) (w : Work) : Type 0 where
  pub pair_meters : a.most_meters ≡ n.rows.meters
  pub pair_branches : a.forest.most_branches ≡ length n.graph.ends
  pub pair_vertices : a.forest.most_vertices ≡ n.graph.most_vertices
  pub work : w.sizes ≡ network_sizes n
