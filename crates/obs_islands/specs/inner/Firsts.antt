-- Branches between two islands, and the items that raise the rank there.
use Rattle.std.specs.Prelude.{◌≢◌, ◌↔◌, ◌++◌, ℕ, ◌+◌, ◌≤◌, Option, List, ◌∷◌, length}
use Rattle.obs_graph.specs.declared.Ends.{Ends}
use Rattle.obs_graph.specs.Positions.{AreBranches}
use Rattle.obs_matroid.specs.Lists.{In}
use Rattle.obs_meter.specs.declared.Touch.{Touch}
use Rattle.obs_meter.specs.Assignments.{IsRhoAt}
use Rattle.obs_meter.specs.Spanned.{ends_at}
use Rattle.obs_meter.specs.Touches.{live_items, touch_at}
use Rattle.obs_islands.specs.Firsts.{island_first}

-- the branch lies between two islands: its ends aren't in one
abbrev pub LiesBetweenAt : ℕ → List (Option Ends) → List Touch → ℕ → Type 0
LiesBetweenAt n ends touches e = island_first n ends touches (ends_at ends e).0 ≢ island_first n ends touches (ends_at ends e).1

-- an item behind the meters raises their greatest length by one exactly where it touches a branch between two islands
abbrev pub BetweenIslandsRaise : Type 0
BetweenIslandsRaise =
    (n : ℕ) (ends : List (Option Ends)) (touches more : List Touch) (x r : ℕ) → AreBranches n ends → length touches ≤ x →
    IsRhoAt ends touches (live_items ends touches) r →
    IsRhoAt ends (touches ++ more) (x ∷ live_items ends touches) (r + 1) ↔ ((e : ℕ) × In e (touch_at ends (touches ++ more) x) × LiesBetweenAt n ends touches e)
