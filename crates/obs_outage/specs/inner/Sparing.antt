-- How spared branches are found: over the graph of what redundant meters touch.
use Rattle.std.specs.Prelude.{◌≡◌, ◌≢◌, ◌⊎◌, ◌<◌, ℕ, false, true, Bool, Option, Some, None, IsSome, List, length, slice_index_or, take}
use Rattle.obs_graph.specs.declared.Ends.{Ends}
use Rattle.obs_graph.specs.Positions.{branches_at}
use Rattle.obs_matroid.specs.Lists.{In}
use Rattle.obs_meter.specs.declared.Touch.{Touch}
use Rattle.obs_meter.specs.Touches.{touch_at}
use Rattle.obs_assign.specs.Assignment.{Assignment}
use Rattle.obs_assign.specs.inner.Assignment.{branch_at, has_flag}
use Rattle.obs_network.specs.Network.{Network}
use Rattle.obs_network.specs.inner.Parted.{AreJoinedWithout}

-- a flag for each branch, whether it is spared, and one, whether it is costly; and for how many vertices there is room
pub record Spared : Type 0 where
  pub flags : List Bool
  pub costly : List Bool
  pub most_vertices : ℕ

-- there are flags for each branch of a network, and room for its vertices, whichever flags of its case are set
pub record HasFlags (n : Network) (s : Spared) : Type 0 where
  pub branches : length s.flags ≡ length n.graph.ends
  pub costly : length s.costly ≡ length n.graph.ends
  pub vertices : s.most_vertices ≡ n.graph.most_vertices

-- each branch after is one before or one of the listed ones
abbrev pub ArePut : List (Option Ends) → List (Option Ends) → List ℕ → List (Option Ends) → Type 0
ArePut ends before L after =
    (e : ℕ) (x : Ends) → slice_index_or after e None ≡ Some x
    → (slice_index_or before e None ≡ Some x) ⊎ ((slice_index_or ends e None ≡ Some x) × In e L)

-- each branch of a part is one of the graph's that a marked meter touches
abbrev pub AreTouchedBy : List (Option Ends) → List Touch → (ℕ → Bool) → List (Option Ends) → Type 0
AreTouchedBy ends touches marks part =
    (e : ℕ) (x : Ends) → slice_index_or part e None ≡ Some x
    → (slice_index_or ends e None ≡ Some x) × (m : ℕ) × (marks m ≡ true) × In e (touch_at ends touches m)

-- the listed branches are the graph's after, and so is what was the graph's before
pub record HasPut (ends before : List (Option Ends)) (L : List ℕ) (after : List (Option Ends)) : Type 0 where
  pub listed : (e : ℕ) → In e L → slice_index_or after e None ≡ slice_index_or ends e None
  pub stays : (e : ℕ) → slice_index_or before e None ≡ slice_index_or ends e None → slice_index_or after e None ≡ slice_index_or ends e None

-- a part has so many of the first branches at each vertex
abbrev pub HasFronts : List (Option Ends) → List ℕ → List (Option Ends) → Type 0
HasFronts ends fronts part =
    (v e : ℕ) → In e (take (slice_index_or fronts v 0) (branches_at ends v)) → slice_index_or part e None ≡ slice_index_or ends e None

-- a part has each branch that a marked meter touches
abbrev pub HasTouched : List (Option Ends) → List Touch → (ℕ → Bool) → List (Option Ends) → Type 0
HasTouched ends touches marks part =
    (m e : ℕ) → marks m ≡ true → In e (touch_at ends touches m) → slice_index_or part e None ≡ slice_index_or ends e None

-- pairs have all branches of a part
abbrev pub ArePaired : Assignment → List (Option Ends) → Type 0
ArePaired a part = (e : ℕ) (x : Ends) → slice_index_or part e None ≡ Some x → (m : ℕ) × (branch_at a m ≡ Some e)

-- a branch isn't one of a part, or no others of the part join its ends, or pairs have all of the part
abbrev pub IsNeeded : Assignment → List (Option Ends) → ℕ → Type 0
IsNeeded a part e =
    (slice_index_or part e None ≡ None) ⊎ ((AreJoinedWithout (take (length part) part) e → ⊥) ⊎ ArePaired a part)

-- no pair has the branch, or it is one of a part whose others join its ends
abbrev pub CanBeMissed : Assignment → List (Option Ends) → ℕ → Type 0
CanBeMissed a part e =
    ((m : ℕ) → branch_at a m ≢ Some e)
    ⊎ (IsSome (slice_index_or part e None) × AreJoinedWithout (take (length part) part) e)

-- each flagged branch can be missed
abbrev pub AreMissed : Assignment → List (Option Ends) → List Bool → Type 0
AreMissed a part flags = (e : ℕ) → has_flag flags e ≡ true → CanBeMissed a part e

-- each of so many branches that isn't flagged is needed
abbrev pub AreNeeded : Assignment → List (Option Ends) → ℕ → List Bool → Type 0
AreNeeded a part rows flags = (e : ℕ) → e < rows → has_flag flags e ≡ false → IsNeeded a part e
