-- What is kept when the list that was lent is given back.
use Rattle.std.specs.Prelude.{⊤}
use Rattle.std.specs.Borrow.{Fml, MutBor, follows_so}
use mathlib.Core.Option.{none}
use Rattle.obs_station.specs.inner.Stations.{StationWork}
use Rattle.obs_station.specs.contracts.losses.StationWork.{the_row}

-- what is lent to be read is given back as a value of which this holds
abbrev pub WorkGivenBack : MutBor StationWork → (StationWork → Type 0) → Fml
WorkGivenBack w P = follows_so the_row the_row w.ghost_name none (λ _ _. ⊤) P
