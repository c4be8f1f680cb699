-- Branches that are lost, and the queue of vertices after which more are. `ends` has the branches by position, `touches` what
-- each item touches, and a set of branches is a test.
use Rattle.std.specs.Prelude.{◌≡◌, ℕ, ◌<◌, ◌≤◌, Bool, true, Option, Some, None, List, length, nat_lt, slice_index, slice_index_or}
use Rattle.obs_graph.specs.declared.Ends.{Ends}
use Rattle.obs_graph.specs.Joined.{count_below}
use Rattle.obs_graph.specs.Positions.{has_end}
use Rattle.obs_matroid.specs.Lists.{In}
use Rattle.obs_meter.specs.declared.Hub.{Hub}
use Rattle.obs_meter.specs.declared.Touch.{Touch}
use Rattle.obs_meter.specs.declared.Touch.TheVariants.{Nothing}
use Rattle.obs_meter.specs.Touches.{touch_at}
use Rattle.obs_meter.specs.inner.Touches.{hub_of}
use Rattle.obs_assign.specs.Assignment.{Assignment}
use Rattle.obs_assign.specs.inner.Assignment.{branch_at}
use Rattle.obs_islands.specs.inner.Rounds.{noted}

-- an item that touches the branch e has the branch f
pub record LosesBranch (ends : List (Option Ends)) (touches : List Touch) (a : Assignment) (e f : ℕ) : Type 0 where
  pub item : ℕ
  pub touched : In e (touch_at ends touches item)
  pub has : branch_at a item ≡ Some f

-- the branch is lost: it passes the test, or is that of an item which touches a lost branch
pub data IsLost (ends : List (Option Ends)) (touches : List Touch) (a : Assignment) (test : ℕ → Bool) : ℕ → Type 0 where
  first : {e : ℕ} → test e ≡ true → IsLost ends touches a test e
  next : {e f : ℕ} → IsLost ends touches a test e → LosesBranch ends touches a e f → IsLost ends touches a test f

-- the branch that is noted at a vertex lies there and is lost, and no item touches a lower one at its hub that passes the test
pub record GivesUp (ends : List (Option Ends)) (touches : List Touch) (a : Assignment) (test : ℕ → Bool) (lowest : ℕ → ℕ) : Type 0 where
  pub at : (v : ℕ) → lowest v < length ends → has_end v (slice_index_or ends (lowest v) None) ≡ true
  pub lost : (v : ℕ) → lowest v < length ends → IsLost ends touches a test (lowest v)
  pub none_lower : (m e : ℕ) (h : Hub) → hub_of ends (slice_index_or touches m Nothing) ≡ Some h → In e (touch_at ends touches m)
      → test e ≡ true → lowest h.vertex ≤ e

-- if that holds before, it does after
abbrev pub StillGivesUp : List (Option Ends) → List Touch → Assignment → (ℕ → ℕ) → (ℕ → ℕ) → Type 0
StillGivesUp ends touches a before after = (test : ℕ → Bool) → GivesUp ends touches a test before → GivesUp ends touches a test after

-- whether a branch is noted at a vertex
abbrev pub is_noted : ℕ → List ℕ → ℕ → Bool
is_noted positions lowest v = nat_lt (noted lowest v) positions

-- there are as many entries as vertices at which a branch is noted, and at each of them one is
pub record IsQueue (positions : ℕ) (lowest queue : List ℕ) (tail : ℕ) : Type 0 where
  pub places : length queue ≡ length lowest
  pub count : tail ≡ count_below (is_noted positions lowest) (length lowest)
  pub marks : (k : ℕ) → k < tail → noted lowest (slice_index queue k) < positions
