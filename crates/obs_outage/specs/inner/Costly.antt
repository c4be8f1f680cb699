-- Branches without which there is a pair less.
use Rattle.std.specs.Prelude.{◌≡◌, ◌<◌, ℕ, true, Bool, Option, List, length}
use Rattle.obs_graph.specs.declared.Ends.{Ends}
use Rattle.obs_matroid.specs.Lists.{In}
use Rattle.obs_matroid.specs.Assignments.{Pair, branches}
use Rattle.obs_meter.specs.declared.Touch.{Touch}
use Rattle.obs_meter.specs.Assignments.{IsAssignmentAt, IsRhoAt}
use Rattle.obs_meter.specs.Touches.{every_item, live_items}
use Rattle.obs_assign.specs.inner.Assignment.{has_flag}
use Rattle.obs_network.specs.Network.{Network}

-- a branch is costly: each assignment that has no pair with it is shorter than a longest one
pub record IsCostly (ends : List (Option Ends)) (touches : List Touch) (e : ℕ) : Type 0 where
  pub shorter : (r : ℕ) → IsRhoAt ends touches (live_items ends touches) r → (B : List Pair) → IsAssignmentAt ends touches (every_item touches) B
      → (In e (branches B) → ⊥) → length B < r

-- each branch of a network whose flag is set is costly
abbrev pub AreCostly : Network → List Bool → Type 0
AreCostly n flags = (e : ℕ) → has_flag flags e ≡ true → IsCostly n.graph.ends n.meters.touches e
