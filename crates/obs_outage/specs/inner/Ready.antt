-- What stays as it is while outages are found.
use Rattle.std.specs.Prelude.{◌≡◌, ◌≤◌, length}
use Rattle.obs_graph.specs.Positions.{AreBranches}
use Rattle.obs_case.specs.Tables.{Tables}
use Rattle.obs_meter.specs.inner.Sizes.{HasRoomFor}
use Rattle.obs_network.specs.inner.Bridges.{AreBridges}
use Rattle.obs_network.specs.Network.{case_rows, network_of}
use Rattle.obs_kept.specs.inner.Kept.{AreLongest, AreLongestOver, HasRoomOver, network_sizes}
use Rattle.obs_kept.specs.declared.kept.Kept.{Kept}
use Rattle.obs_outage.specs.inner.Feeds.{AreFeeds}
use Rattle.obs_outage.specs.inner.Sparing.{Spared}
use Rattle.obs_outage.specs.inner.Told.{AreTold}
use Rattle.obs_outage.specs.inner.Without.{IsCopy}
use Rattle.obs_outage.specs.declared.basis.Basis.{Basis}
use Rattle.obs_outage.specs.declared.rowless.Without.{Without}

-- the pairs are longest over the kept network, with room for them and their searches; the network to leave a row out of is the kept one, and
-- what is told of its branches is so
pub record IsReady (kept : Kept) (without : Without) (spared : Spared) : Type 0 where
  pub longest : AreLongestOver kept.network kept.pairs
  pub room : HasRoomOver kept.network kept.pairs kept.work
  pub copy : IsCopy kept.network without
  pub fits : HasRoomFor (network_sizes kept.network) kept.network.graph kept.network.meters.touches
  pub branches : AreBranches kept.network.graph.vertices kept.network.graph.ends
  pub rows : kept.network.rows.branches ≤ length kept.network.graph.ends
  pub told : AreTold kept.network spared

-- the kept network is that of a case, with longest pairs, and room for them and their searches
pub record IsKeptOf (t : Tables) (kept : Kept) : Type 0 where
  pub network : kept.network ≡ network_of t
  pub longest : AreLongest t kept.pairs
  pub room : HasRoomOver kept.network kept.pairs kept.work

-- what is ready for outages, and the walks have room for the network, and what stands below bridges for its rows
pub record IsBasis (b : Basis) : Type 0 where
  pub ready : IsReady b.kept b.without b.spared
  pub sides : b.sides.most_vertices ≡ b.kept.network.graph.most_vertices
  pub vertices : length b.bridges.order ≡ b.kept.network.graph.most_vertices
  pub branches : length b.bridges.froms ≡ b.kept.network.rows.branches

-- the kept network is that of a case, and so are the sources and what stands below bridges
pub record IsBasisOf (t : Tables) (b : Basis) : Type 0 where
  pub basis : IsBasis b
  pub network : b.kept.network ≡ network_of t
  pub feeds : AreFeeds t b.feeds
  pub bridges : AreBridges (case_rows t) b.feeds.of_buses b.bridges
