-- What is kept for the outages of a case.
use Rattle.std.specs.Prelude.{◌≡◌, ℕ, List}
use Rattle.obs_case.specs.Tables.{Tables}
use Rattle.obs_assign.specs.Assignment.{Assignment}
use Rattle.obs_assign.specs.inner.Assignment.{pairs}
use Rattle.obs_assign.specs.inner.Still.{still}
use Rattle.obs_network.specs.Network.{Network, case_branches, case_meters}
use Rattle.obs_network.specs.Parted.{outage_case}
use Rattle.obs_outage.specs.declared.outages.Outage.{Outage}

-- every pair stands in the outage case of a branch: its meter touches its branch there too
abbrev pub AllStand : Tables → Assignment → ℕ → Type 0
AllStand t a e = still (case_branches (outage_case t e)) (case_meters (outage_case t e)) (pairs a) ≡ pairs a

-- what is kept for the outages of a case: its network, a longest assignment, and the list that was found last
pub record Outages : Type 0 where
  pub network : Network
  pub pairs : Assignment
  pub found : List Outage
