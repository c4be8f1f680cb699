-- Live candidates that do as much as all.
use Rattle.std.specs.Prelude.{ℕ, Option, List, ◌++◌}
use Rattle.obs_graph.specs.declared.Ends.{Ends}
use Rattle.obs_matroid.specs.Lists.{In}
use Rattle.obs_meter.specs.declared.Touch.{Touch}
use Rattle.obs_meter.specs.Assignments.{IsRhoAt}
use Rattle.obs_meter.specs.Costs.{live_meters, live_candidates}

-- the items of X are live candidates, and with the live meters their greatest length is r. Where r is that of all live items, they do
-- as much as all; an idle candidate touches nothing and would only cost
pub record DoAsMuch (ends : List (Option Ends)) (touches : List Touch) (meters r : ℕ) (X : List ℕ) : Type 0 where
  pub candidates : (c : ℕ) → In c X → In c (live_candidates ends touches meters)
  pub longest : IsRhoAt ends touches (live_meters ends touches meters ++ X) r
