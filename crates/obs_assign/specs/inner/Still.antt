-- Pairs that stand when the graph and what meters touch have changed.
use Rattle.std.specs.Prelude.{◌≡◌, Bool, true, Option, List, filter}
use Rattle.obs_graph.specs.declared.Ends.{Ends}
use Rattle.obs_matroid.specs.Lists.{In}
use Rattle.obs_matroid.specs.Assignments.{Pair, branches}
use Rattle.obs_meter.specs.declared.Touch.{Touch}
use Rattle.obs_meter.specs.inner.Touches.{touches_branch}
use Rattle.obs_assign.specs.inner.Pins.{joins}

-- whether the meter of the pair touches its branch
abbrev pub is_still : List (Option Ends) → List Touch → Pair → Bool
is_still ends touches p = touches_branch ends touches p.0 p.1

-- the pairs that stand still: those whose meter touches their branch
abbrev pub still : List (Option Ends) → List Touch → List Pair → List Pair
still ends touches = filter (is_still ends touches)

-- of the pairs before only such as stand still are kept, and the kept branches join the ends of the branch of each one
-- that stands still: so one is given up only where they do
pub record AreRetained (ends : List (Option Ends)) (touches : List Touch) (before after : List Pair) : Type 0 where
  pub standing : (p : Pair) → In p after → In p (still ends touches before)
  pub joined : (p : Pair) → In p (still ends touches before) → joins ends (branches after) p.1 ≡ true
