-- How many live items are below a price, and how many of these raise the greatest length.
use Rattle.std.specs.Prelude.{◌≡◌, ℕ, ◌≤◌, ◌<◌, Option, List, length, filter}
use Rattle.obs_graph.specs.declared.Ends.{Ends}
use Rattle.obs_graph.specs.Graph.{Graph}
use Rattle.obs_meter.specs.declared.Touch.{Touch}
use Rattle.obs_placement.specs.declared.counting.Tally.{Tally}
use Rattle.obs_placement.specs.Answer.{is_chosen}
use Rattle.obs_placement.specs.inner.Order.{item_at}
use Rattle.obs_placement.specs.Taking.{scope_of}
use Rattle.obs_placement.specs.inner.Taking.{AreFirst}

-- how many live items are below the price t
abbrev pub live_below : List (Option Ends) → List Touch → (ℕ → ℕ) → ℕ → ℕ
live_below ends touches price t = length (scope_of ends touches price t)

-- how many of these raise the greatest length of those before them; the graph has n vertices
abbrev pub raised_below : ℕ → List (Option Ends) → List Touch → (ℕ → ℕ) → ℕ → ℕ
raised_below n ends touches price t = length (filter (is_chosen n ends touches price) (scope_of ends touches price t))

-- the items at the first k places are counted, and those below a price that none of them is above, nor any later one below
pub record AreCounted (g : Graph) (touches : List Touch) (price : ℕ → ℕ) (keys : List (ℕ × ℕ)) (k : ℕ) (t : Tally) : Type 0 where
  pub list : List ℕ
  pub first : AreFirst g.ends touches keys k list
  pub live : t.live ≡ length list
  pub raised : t.raised ≡ length (filter (is_chosen g.vertices g.ends touches price) list)
  pub few : t.live ≤ k
  pub below : t.live_below ≡ live_below g.ends touches price t.price
  pub below_raised : t.raised_below ≡ raised_below g.vertices g.ends touches price t.price
  pub passed : (j : ℕ) → j < k → price (item_at keys j) ≤ t.price
  pub coming : (j : ℕ) → k ≤ j → j < length touches → t.price ≤ price (item_at keys j)
