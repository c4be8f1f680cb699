-- Meters that are reached from sources one after the other, in an order.
use Rattle.std.specs.Prelude.{◌≡◌, ℕ, ◌≤◌, ◌<◌, Bool, true, false, nat_lt, Option, List, length, slice_index, slice_index_or, take}
use Rattle.obs_graph.specs.declared.Ends.{Ends}
use Rattle.obs_meter.specs.declared.Touch.{Touch}
use Rattle.obs_meter.specs.Lost.{is_listed}
use Rattle.obs_assign.specs.Assignment.{Assignment}
use Rattle.obs_assign.specs.inner.Assignment.{has_flag}
use Rattle.obs_exchange.specs.declared.progress.Progress.{Progress}
use Rattle.obs_exchange.specs.declared.Sources.TheVariants.{All}
use Rattle.obs_exchange.specs.inner.Closed.{IsClosedAt, IsSource}
use Rattle.obs_exchange.specs.inner.Searching.{IsResting}
use Rattle.obs_exchange.specs.inner.Setting.{Setting}
use Rattle.obs_exchange.specs.inner.Trail.{IsRoot}

-- an order of no more than n entries, each of which is one of n meters
pub record IsOrder (n : ℕ) (order : List ℕ) : Type 0 where
  pub few : length order ≤ n
  pub low : (k : ℕ) → k < length order → slice_index order k < n

-- the set holds the live meters without a pair that the test asks for
abbrev pub HoldsTestedAt : List (Option Ends) → List Touch → (ℕ → Bool) → Assignment → (ℕ → Bool) → Type 0
HoldsTestedAt ends touches from a S = (m : ℕ) → from m ≡ true → IsSource ends touches All a m → S m ≡ true

-- the set is closed and holds the live meters without a pair that the test asks for, and every set with these two properties
-- holds it
pub record IsLeastClosedFrom (ends : List (Option Ends)) (touches : List Touch) (from : ℕ → Bool) (a : Assignment) (S : ℕ → Bool) : Type 0 where
  pub closed : IsClosedAt ends touches a S
  pub holds : HoldsTestedAt ends touches from a S
  pub least : (T : ℕ → Bool) → IsClosedAt ends touches a T → HoldsTestedAt ends touches from a T → (m : ℕ) → S m ≡ true → T m ≡ true

-- whether a meter has a place below k
abbrev pub reached_before : List ℕ → ℕ → ℕ → Bool
reached_before places k m = nat_lt (slice_index_or places m k) k

-- each meter has the place in the order at which it is first reached: those with a place below k are the least closed set that
-- holds the first k of the order, where these are live and have no pair. A meter that isn't reached has a place behind the order
pub record AreReachedInOrder (ends : List (Option Ends)) (touches : List Touch) (a : Assignment) (order places : List ℕ) : Type 0 where
  pub meters : length places ≡ length touches
  pub low : (m : ℕ) → m < length touches → slice_index places m ≤ length order
  pub fronts : (k : ℕ) → k ≤ length order → IsLeastClosedFrom ends touches (is_listed (take k order)) a (reached_before places k)

-- after the first i of the order were searched from, and nothing waits: what is marked has a place below i, and what isn't has one
-- behind the order; no meter began a path but these; and the places say for each shorter front what it reached
pub record IsPlacing (over : Setting) (order : List ℕ) (search : Progress) (places : List ℕ) (i : ℕ) : Type 0 where
  pub resting : IsResting over search
  pub roots : (x : ℕ) → IsRoot search.trail x → is_listed (take i order) x ≡ true
  pub held : HoldsTestedAt over.graph.ends over.touches (is_listed (take i order)) over.assignment (has_flag search.trail.marks)
  pub meters : length places ≡ length over.touches
  pub placed : (m : ℕ) → has_flag search.trail.marks m ≡ true → slice_index places m < i
  pub unplaced : (m : ℕ) → m < length over.touches → has_flag search.trail.marks m ≡ false → slice_index places m ≡ length order
  pub fronts : (k : ℕ) → k ≤ i → IsLeastClosedFrom over.graph.ends over.touches (is_listed (take k order)) over.assignment (reached_before places k)
