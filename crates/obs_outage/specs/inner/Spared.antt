-- Branches that a longest assignment can miss.
use Rattle.std.specs.Prelude.{◌≡◌, ℕ, true, Bool, Option, List, length}
use Rattle.obs_graph.specs.declared.Ends.{Ends}
use Rattle.obs_matroid.specs.Lists.{In}
use Rattle.obs_matroid.specs.Assignments.{Pair, branches}
use Rattle.obs_meter.specs.declared.Touch.{Touch}
use Rattle.obs_meter.specs.Assignments.{IsAssignmentAt}
use Rattle.obs_meter.specs.Touches.{every_item}
use Rattle.obs_assign.specs.inner.Assignment.{has_flag}
use Rattle.obs_exchange.specs.inner.Longest.{IsMost}
use Rattle.obs_network.specs.Network.{Network}

-- a branch is spared: a longest assignment has no pair with it
pub record IsSpared (ends : List (Option Ends)) (touches : List Touch) (e : ℕ) : Type 0 where
  pub pairs : List Pair
  pub assigns : IsAssignmentAt ends touches (every_item touches) pairs
  pub longest : IsMost ends touches (length pairs)
  pub free : In e (branches pairs) → ⊥

-- each branch of a network whose flag is set is spared
abbrev pub AreSpared : Network → List Bool → Type 0
AreSpared n flags = (e : ℕ) → has_flag flags e ≡ true → IsSpared n.graph.ends n.meters.touches e
