-- Assignments over a graph: items, each with a branch of its own among those that it touches, which make a forest.
use Rattle.std.specs.Prelude.{◌≡◌, ℕ, ◌≤◌, Option, List, length}
use Rattle.obs_graph.specs.declared.Ends.{Ends}
use Rattle.obs_graph.specs.Positions.{IsForestAt}
use Rattle.obs_matroid.specs.Lists.{In, IsDistinct}
use Rattle.obs_matroid.specs.Assignments.{Pair, items, branches}
use Rattle.obs_matroid.specs.Values.{rho_of}
use Rattle.obs_meter.specs.declared.Touch.{Touch}
use Rattle.obs_meter.specs.Touches.{touch_at}
use Rattle.obs_meter.specs.Spanned.{graph_matroid}

-- A is an assignment of items of M: each pair is an item of M and a branch that it touches,
-- the items are different, and the branches are present and a forest (and so different too)
pub record IsAssignmentAt (ends : List (Option Ends)) (touches : List Touch) (M : List ℕ) (A : List Pair) : Type 0 where
  pub of_items : (p : Pair) → In p A → In p.0 M
  pub touched : (p : Pair) → In p A → In p.1 (touch_at ends touches p.0)
  pub different : IsDistinct (items A)
  pub forest : IsForestAt ends (branches A)

-- r is the greatest length of an assignment of items of M
pub record IsRhoAt (ends : List (Option Ends)) (touches : List Touch) (M : List ℕ) (r : ℕ) : Type 0 where
  pub longest : List Pair
  pub assigns : IsAssignmentAt ends touches M longest
  pub long : length longest ≡ r
  pub none_longer : (B : List Pair) → IsAssignmentAt ends touches M B → length B ≤ r

-- the greatest length of an assignment of items of M, computed; the graph has n vertices
abbrev pub rho_at : ℕ → List (Option Ends) → List Touch → List ℕ → ℕ
rho_at n ends touches M = rho_of (graph_matroid n ends) (touch_at ends touches) M
