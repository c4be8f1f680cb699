-- What is true of the counts, pairs and positions that a placement prints.
use Rattle.std.specs.Prelude.{ℕ, ◌≡◌, ◌<◌, ◌≤◌, All, List, [], ◌∷◌, Some, length}
use Rattle.obs_case.specs.Tables.{Tables}
use Rattle.obs_matroid.specs.Lists.{In}
use Rattle.obs_meter.specs.Touches.{touch_at}
use Rattle.obs_assign.specs.Assignment.{Assignment}
use Rattle.obs_assign.specs.inner.Assignment.{branch_at}
use Rattle.obs_network.specs.Network.{case_branches, case_item_count, case_offered}
use Rattle.obs_placement.specs.declared.plans.Layer.{Layer}
use Rattle.obs_placement.specs.Placed.{Placed, cheapest, shortfall}

-- the counts of the layers don't fall, from u on, and none is above n
abbrev pub AreCountsOf : ℕ → ℕ → List Layer → Type 0
AreCountsOf n u [] = Unit {0}
AreCountsOf n u (l ∷ ls) = (u ≤ l.upto) × (l.upto ≤ n) × AreCountsOf n l.upto ls

-- pairs of the items of a case: each item has its place, and is given a branch that it touches or none
pub record ArePairsOf (t : Tables) (a : Assignment) : Type 0 where
  pub items : length a.slots ≡ case_item_count t
  pub touched : (m e : ℕ) → branch_at a m ≡ Some e → In e (touch_at (case_branches t) (case_offered t) m)

-- the positions of a placement are within a case: chosen candidates, listed items and the counts of layers
abbrev pub IsWithin : Tables → Placed → Type 0
IsWithin t (cheapest p) =
    All (λ k. k < length t.candidates) p.chosen × All (λ m. m < case_item_count t) p.inside × AreCountsOf (length p.inside) 0 p.layers
IsWithin t (shortfall b) = All (λ m. m < case_item_count t) b.inside
