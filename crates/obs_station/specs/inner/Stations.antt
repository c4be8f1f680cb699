-- What is kept of the losses that were found.
use Rattle.std.specs.Prelude.{List}
use Rattle.obs_network.specs.Network.{Rows}
use Rattle.obs_station.specs.declared.losses.Loss.{Loss}

-- what a work value is seen as: the numbers of rows that it was made for, and the list that was found last
pub record StationWork : Type 0 where
  pub rows : Rows
  pub found : List Loss
