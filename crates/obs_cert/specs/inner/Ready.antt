-- What claims are checked in.
use Rattle.std.specs.Prelude.{ℕ, ◌≡◌, ◌+◌, ◌*◌, ◌<◌, ◌≤◌, ◌^◌, [], length}
use Rattle.obs_case.specs.Tables.{Tables}
use Rattle.obs_network.specs.Network.{Rows, rows_of}
use Rattle.obs_cert.specs.declared.work.Work.{Work}
use Rattle.obs_cert.specs.inner.Joins.{AreJoined}
use Rattle.obs_cert.specs.inner.Links.{AreLinks}
use Rattle.obs_cert.specs.inner.Marks.{AreBelow}
use Rattle.obs_cert.specs.inner.Stars.{AreStarRanks}

-- the arrays have room for a case with so many rows: ways up and ranks for two vertices of each node, a mark for each row of the branch table
-- and each item, and a number for each row
pub record HasRoomForRows (rows : Rows) (w : Work) : Type 0 where
  pub chosen : rows.meters + rows.candidates < length w.chosen.items
  pub paired : rows.meters + rows.candidates < length w.paired.items
  pub listed : rows.meters + rows.candidates < length w.listed.items
  pub taken : rows.branches + (rows.meters + rows.candidates) < length w.taken.items
  pub ups : 2 * rows.nodes ≤ length w.ups.items
  pub few : length w.ups.items < 2 ^ 32
  pub moved : length w.ups.items ≤ length w.moved.items
  pub stars : length w.ups.items ≤ length w.stars.items
  pub hubs : length w.ups.items ≤ w.hubs.room
  pub links : length w.links.items ≡ rows.branches

-- they have room, each mark is below the stamp, nothing is joined, the ranks that are known are those of the case, and the links are its rows
pub record IsReadyFor (t : Tables) (stamp : ℕ) (w : Work) : Type 0 where
  pub room : HasRoomForRows (rows_of t) w
  pub chosen : AreBelow stamp w.chosen.items
  pub paired : AreBelow stamp w.paired.items
  pub listed : AreBelow stamp w.listed.items
  pub taken : AreBelow stamp w.taken.items
  pub clear : AreJoined [] w.ups.items []
  pub known : AreStarRanks t w.stars.items
  pub links : AreLinks t w.links.items
