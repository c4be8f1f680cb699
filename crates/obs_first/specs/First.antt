-- The first assignment of meters: of the longest ones the least, compared meter by meter. A lower branch comes before a
-- higher one, and a branch before none.
use Rattle.std.specs.Prelude.{◌≡◌, ℕ, ◌≤◌, Option, List, length}
use Rattle.obs_graph.specs.declared.Ends.{Ends}
use Rattle.obs_matroid.specs.Assignments.{Pair}
use Rattle.obs_matroid.specs.First.{IsNotAfter}
use Rattle.obs_matroid.specs.Values.{first_of}
use Rattle.obs_meter.specs.declared.Touch.{Touch}
use Rattle.obs_meter.specs.Assignments.{IsAssignmentAt}
use Rattle.obs_meter.specs.Spanned.{graph_matroid}
use Rattle.obs_meter.specs.Touches.{every_item, touch_at}

-- A is the first assignment of the items of M: no assignment is longer, and of those as long as A none comes before it
pub record IsFirstAt (ends : List (Option Ends)) (touches : List Touch) (M : List ℕ) (A : List Pair) : Type 0 where
  pub assigns : IsAssignmentAt ends touches M A
  pub longest : (B : List Pair) → IsAssignmentAt ends touches M B → length B ≤ length A
  pub least : (B : List Pair) → IsAssignmentAt ends touches M B → length B ≡ length A → IsNotAfter M A B

-- the pairs of the first assignment of all meters, by meter, computed; the graph has n vertices
abbrev pub first_pairs : ℕ → List (Option Ends) → List Touch → List Pair
first_pairs n ends touches = first_of (graph_matroid n ends) (touch_at ends touches) (every_item touches)
