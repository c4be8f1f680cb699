-- Assignments of which there is no longer one.
use Rattle.std.specs.Prelude.{ℕ, ◌≤◌, Option, List, length}
use Rattle.obs_graph.specs.declared.Ends.{Ends}
use Rattle.obs_graph.specs.Graph.{Graph}
use Rattle.obs_matroid.specs.Assignments.{Pair}
use Rattle.obs_meter.specs.declared.Touch.{Touch}
use Rattle.obs_meter.specs.Assignments.{IsAssignmentAt, IsRhoAt}
use Rattle.obs_meter.specs.Touches.{every_item, live_items}
use Rattle.obs_assign.specs.Assignment.{Assignment}
use Rattle.obs_assign.specs.inner.Assignment.{IsWhole, StandsOver, pairs}
use Rattle.obs_exchange.specs.inner.Laws.{IsThawed}

-- no assignment has more pairs
abbrev pub IsMost : List (Option Ends) → List Touch → ℕ → Type 0
IsMost ends touches most = (B : List Pair) → IsAssignmentAt ends touches (every_item touches) B → length B ≤ most

-- the pairs stand over the graph and the meters, nothing is frozen, and there are as many as there can be
pub record IsLongest (g : Graph) (touches : List Touch) (a : Assignment) : Type 0 where
  pub stands : StandsOver a g touches
  pub whole : IsWhole a
  pub thawed : IsThawed a
  pub longest : IsRhoAt g.ends touches (live_items g.ends touches) (length (pairs a))
