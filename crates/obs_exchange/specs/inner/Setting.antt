-- What a search is over. It stays as it is while the search runs.
use Rattle.std.specs.Prelude.{◌≡◌, ℕ, suc, ◌≤◌, ◌||◌, ◌&&◌, Bool, Option, is_some, List, [], ◌∷◌, length}
use Rattle.obs_graph.specs.declared.search.Up.{Up}
use Rattle.obs_graph.specs.Graph.{Graph}
use Rattle.obs_graph.specs.Joined.{IsForest}
use Rattle.obs_graph.specs.Positions.{AreBranches, present}
use Rattle.obs_matroid.specs.Assignments.{branches}
use Rattle.obs_meter.specs.declared.Touch.{Touch}
use Rattle.obs_meter.specs.Touches.{touch_at}
use Rattle.obs_meter.specs.inner.Touches.{AreInRange}
use Rattle.obs_forest.specs.inner.Cycle.{AreWays}
use Rattle.obs_assign.specs.Assignment.{Assignment}
use Rattle.obs_assign.specs.inner.Assignment.{IsWhole, StandsOver, pairs}
use Rattle.obs_assign.specs.inner.Pins.{joins}
use Rattle.obs_exchange.specs.declared.Sources.{Sources}
use Rattle.obs_exchange.specs.declared.Sources.TheVariants.{All, One}
use Rattle.obs_exchange.specs.inner.Closed.{IsSource}

-- the first meter that may be a source, and the one after the last; there are n meters
abbrev pub first_of : Sources → ℕ
first_of All = 0
first_of (One m) = m

abbrev pub end_of : Sources → ℕ → ℕ
end_of All n = n
end_of (One m) n = suc m

-- the flags of frozen meters, and of those meters with a pair whose flag is set in a second list
abbrev pub frozen_by : List Bool → List Bool → List (Option ℕ) → List Bool
frozen_by [] shut slots = []
frozen_by (f ∷ fs) [] slots = f ∷ fs
frozen_by (f ∷ fs) (s ∷ ss) [] = f ∷ fs
frozen_by (f ∷ fs) (s ∷ ss) (e ∷ es) = (f || (s && is_some e)) ∷ frozen_by fs ss es

-- the assignment, as if the flagged meters that have pairs were frozen too
abbrev pub shut_by : List Bool → Assignment → Assignment
shut_by shut a = record a { frozen = frozen_by a.frozen shut a.slots }

-- a graph, what meters touch in it, an assignment, and from which meters the search begins; and by vertex its way up in
-- the forest of the assignment, and how many branches lead up from it; and for how many vertices there is room
pub record Setting : Type 0 where
  pub graph : Graph
  pub touches : List Touch
  pub assignment : Assignment
  pub sources : Sources
  pub ups : List (Option Up)
  pub depths : List ℕ
  pub room : ℕ

-- what is true of every setting
pub record IsSound (over : Setting) : Type 0 where
  pub branches : AreBranches over.graph.vertices over.graph.ends
  pub in_range : AreInRange over.graph over.touches
  pub whole : IsWhole over.assignment
  pub stands : StandsOver over.assignment over.graph over.touches
  pub sources_low : end_of over.sources (length over.touches) ≤ length over.touches
  pub ups_len : length over.ups ≡ over.graph.vertices
  pub depths_len : length over.depths ≡ over.graph.vertices
  pub forest : IsForest (present over.assignment.forest.held)
  pub ways : AreWays over.graph.vertices over.assignment.forest.held over.ups over.depths

-- the meter is a source of the search
abbrev pub IsSourceIn : Setting → ℕ → Type 0
IsSourceIn over m = IsSource over.graph.ends over.touches over.sources over.assignment m

-- the branches that the meter touches
abbrev pub touched_in : Setting → ℕ → List ℕ
touched_in over m = touch_at over.graph.ends over.touches m

-- whether the branches of the pairs join the ends of e
abbrev pub is_joined_in : Setting → ℕ → Bool
is_joined_in over e = joins over.graph.ends (branches (pairs over.assignment)) e

-- a search over the same, but for meters with pairs that it passes over like frozen ones
pub record IsOpen (over ahead : Setting) : Type 0 where
  pub shut : List Bool
  pub graph : ahead.graph ≡ over.graph
  pub touches : ahead.touches ≡ over.touches
  pub assignment : ahead.assignment ≡ shut_by shut over.assignment
  pub sources : ahead.sources ≡ over.sources
  pub room : ahead.room ≡ over.room
  pub sound : IsSound ahead

-- a search over these, with room for so many vertices
pub record IsOver (over : Setting) (g : Graph) (t : List Touch) (a : Assignment) (from : Sources) (most : ℕ) : Type 0 where
  pub graph : over.graph ≡ g
  pub touches : over.touches ≡ t
  pub assignment : over.assignment ≡ a
  pub sources : over.sources ≡ from
  pub room : over.room ≡ most
  pub sound : IsSound over
