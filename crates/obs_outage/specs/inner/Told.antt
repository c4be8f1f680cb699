-- What is told of the branches of a network, found once for all outages.
use Rattle.std.specs.Prelude.{◌≡◌, ◌<◌, ℕ, false}
use Rattle.obs_matroid.specs.Lists.{In}
use Rattle.obs_meter.specs.Touches.{live_items, touch_at}
use Rattle.obs_assign.specs.inner.Assignment.{has_flag}
use Rattle.obs_exchange.specs.Critical.{IsCriticalAt}
use Rattle.obs_network.specs.Network.{Network}
use Rattle.obs_outage.specs.inner.Costly.{AreCostly}
use Rattle.obs_outage.specs.inner.Spared.{AreSpared}
use Rattle.obs_outage.specs.inner.Sparing.{HasFlags, Spared}

-- there is a flag for each branch; the flagged branches are spared, and costly; and of a row that is neither each meter that
-- touches it is critical
pub record AreTold (n : Network) (s : Spared) : Type 0 where
  pub flags : HasFlags n s
  pub spared : AreSpared n s.flags
  pub costly : AreCostly n s.costly
  pub settled : (e m : ℕ) → e < n.rows.branches → has_flag s.flags e ≡ false → has_flag s.costly e ≡ false
      → In e (touch_at n.graph.ends n.meters.touches m) → IsCriticalAt n.graph.ends n.meters.touches (live_items n.graph.ends n.meters.touches) m
