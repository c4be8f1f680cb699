-- What a search shows of a row: longest pairs miss it, or it is costly.
use Rattle.std.specs.Prelude.{◌≡◌, ◌≢◌, ◌⊎◌, ℕ, ◌-◌, Some, List, length}
use Rattle.obs_assign.specs.Assignment.{Assignment}
use Rattle.obs_assign.specs.inner.Assignment.{branch_at, pairs}
use Rattle.obs_network.specs.Network.{Network}
use Rattle.obs_outage.specs.inner.Costly.{IsCostly}
use Rattle.obs_outage.specs.inner.Lost.{IsConfined}
use Rattle.obs_outage.specs.inner.Spared.{IsSpared}

-- no pair has the branch
abbrev pub IsMissed : Assignment → ℕ → Type 0
IsMissed a e = (m : ℕ) → branch_at a m ≢ Some e

-- no pair has the row, or it is costly
abbrev pub IsSettled : Network → Assignment → ℕ → Type 0
IsSettled n a e = IsMissed a e ⊎ IsCostly n.graph.ends n.meters.touches e

-- as many pairs as there can be without a row, by what it is to longest pairs: all of them, or all but one
abbrev pub IsRankWithout : Network → Assignment → ℕ → ℕ → Type 0
IsRankWithout n a e r =
    ((r ≡ length (pairs a)) × IsSpared n.graph.ends n.meters.touches e)
    ⊎ ((r ≡ length (pairs a) - 1) × IsCostly n.graph.ends n.meters.touches e)

-- the meter that has the row touches no branch on the side that stays, or the row is costly
abbrev pub IsFreed : Network → Assignment → ℕ → List ℕ → Type 0
IsFreed n a e side = IsConfined n a e side ⊎ IsCostly n.graph.ends n.meters.touches e
