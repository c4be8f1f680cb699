-- What a search knows while it runs. It marks meters and puts them into a queue; the meter at its head looks at the
-- branches that it touches. A parent is the move by which a meter was reached: another meter, with a branch that it may
-- take once the reached meter has moved away from its own.
use Rattle.std.specs.Prelude.{◌≡◌, ◌⊎◌, ℕ, zero, suc, ◌<◌, ◌≤◌, ◌==◌, Bool, true, false, if◌then◌else◌, Option, Some, None, MatchOption, List, [], ◌∷◌, drop, length, slice_index, slice_index_or, take}
use Rattle.obs_graph.specs.declared.Ends.{Ends}
use Rattle.obs_graph.specs.Joined.{count_below}
use Rattle.obs_graph.specs.Positions.{branches_at}
use Rattle.obs_matroid.specs.Lists.{In}
use Rattle.obs_matroid.specs.Assignments.{items}
use Rattle.obs_matroid.specs.inner.Assignments.{others}
use Rattle.obs_matroid.specs.inner.Slots.{pairs_of}
use Rattle.obs_meter.specs.declared.Touch.{Touch}
use Rattle.obs_meter.specs.Assignments.{IsAssignmentAt}
use Rattle.obs_meter.specs.Touches.{every_item}
use Rattle.obs_assign.specs.declared.Move.{Move}
use Rattle.obs_assign.specs.Assignment.{Assignment}
use Rattle.obs_assign.specs.inner.Assignment.{has_flag, is_frozen, pairs}
use Rattle.obs_assign.specs.inner.Moves.{ArePath, moved}
use Rattle.obs_assign.specs.inner.Pins.{joins}
use Rattle.obs_exchange.specs.declared.progress.Progress.{Progress}
use Rattle.obs_exchange.specs.declared.Sources.{Sources}
use Rattle.obs_exchange.specs.inner.Closed.{IsLeastClosedAt, IsSource}
use Rattle.obs_exchange.specs.inner.Classes.{AreClasses}
use Rattle.obs_exchange.specs.inner.Found.{AreListed}
use Rattle.obs_exchange.specs.inner.Noting.{AreNotedIn, Noted}
use Rattle.obs_exchange.specs.inner.Setting.{IsOpen, IsSound, IsSourceIn, Setting, first_of, is_joined_in, touched_in}
use Rattle.obs_exchange.specs.inner.Trail.{Follows, Trail}

-- the place of x among the first entries of the queue, the last one that has it; 0 where none has
abbrev pub place_in : List ℕ → ℕ → ℕ → ℕ
place_in queue zero x = 0
place_in queue (suc t) x = if slice_index queue t == x then t else place_in queue t x

-- the place of the meter in the queue
abbrev pub place_of : Trail → ℕ → ℕ
place_of trail x = place_in trail.queue trail.tail x

-- the move by which a meter was reached, or none
abbrev pub parent_of : Trail → ℕ → Option Move
parent_of trail x = slice_index_or trail.parents x None

-- the branches of all pairs join the ends of e, and those of the pairs without x's do not
pub record IsNeededOf (over : Setting) (x e : ℕ) : Type 0 where
  pub joined : is_joined_in over e ≡ true
  pub apart : joins over.graph.ends (others (pairs over.assignment) x) e ≡ false

-- the parent p of x: a marked meter before x in the queue and not behind the head, with a branch that it touches and
-- that needs x's pair
pub record IsParent (over : Setting) (trail : Trail) (x : ℕ) (p : Move) : Type 0 where
  pub marked : has_flag trail.marks p.meter ≡ true
  pub before : place_of trail p.meter < place_of trail x
  pub near : place_of trail p.meter ≤ trail.head
  pub touched : In p.branch (touched_in over p.meter)
  pub needed : IsNeededOf over x p.branch

-- a marked meter is a source, or was reached by its parent
abbrev pub HasOrigin : Setting → Trail → ℕ → Option Move → Type 0
HasOrigin over trail x o = MatchOption o (IsSourceIn over x) (IsParent over trail x)

-- the branch was walked: the branches of the pairs join its ends, and each meter whose pair it needs is marked or frozen
pub record IsWalked (over : Setting) (marks : List Bool) (e : ℕ) : Type 0 where
  pub joined : is_joined_in over e ≡ true
  pub marked : (x : ℕ) → In x (items (pairs over.assignment))
      → joins over.graph.ends (others (pairs over.assignment) x) e ≡ false
      → is_frozen over.assignment x ≡ false → has_flag marks x ≡ true

-- while a search runs: the queue has the marked meters, each once, and its entries before the head have walked all branches
-- that they touch
pub record IsSearching (over : Setting) (trail : Trail) : Type 0 where
  pub sound : IsSound over
  pub marks_len : length over.touches ≤ length trail.marks
  pub parents_len : length over.touches ≤ length trail.parents
  pub queue_len : length over.touches ≤ length trail.queue
  pub walked_len : length over.graph.ends ≤ length trail.walked
  pub low : (x : ℕ) → has_flag trail.marks x ≡ true → x < length over.touches
  pub thawed : (x : ℕ) → has_flag trail.marks x ≡ true → is_frozen over.assignment x ≡ false
  pub few : trail.tail ≤ count_below (has_flag trail.marks) (length over.touches)
  pub head_le : trail.head ≤ trail.tail
  pub placed : (x : ℕ) → has_flag trail.marks x ≡ true
      → (place_of trail x < trail.tail) × (slice_index trail.queue (place_of trail x) ≡ x)
  pub entries : (k : ℕ) → k < trail.tail
      → (has_flag trail.marks (slice_index trail.queue k) ≡ true) × (place_of trail (slice_index trail.queue k) ≡ k)
  pub origins : (x : ℕ) → has_flag trail.marks x ≡ true → HasOrigin over trail x (parent_of trail x)
  pub in_order : (x y : ℕ) (p q : Move) → has_flag trail.marks x ≡ true → parent_of trail x ≡ Some p
      → has_flag trail.marks y ≡ true → parent_of trail y ≡ Some q
      → joins over.graph.ends (others (pairs over.assignment) x) q.branch ≡ false
      → place_of trail p.meter ≤ place_of trail q.meter
  pub finished : (y : ℕ) (q : Move) → has_flag trail.marks y ≡ true → parent_of trail y ≡ Some q
      → (has_flag trail.walked q.branch ≡ true) ⊎ (place_of trail q.meter ≡ trail.head)
  pub walks : (e : ℕ) → has_flag trail.walked e ≡ true → IsWalked over trail.marks e
  pub looked : (k e : ℕ) → k < trail.head → In e (touched_in over (slice_index trail.queue k))
      → has_flag trail.walked e ≡ true

-- while the meter m at the head looks at its branches
pub record IsVisiting (over : Setting) (trail : Trail) (m : ℕ) : Type 0 where
  pub searching : IsSearching over trail
  pub below : trail.head < trail.tail
  pub at_head : slice_index trail.queue trail.head ≡ m

-- nothing waits in the queue
abbrev pub IsDone : Trail → Type 0
IsDone trail = trail.head ≡ trail.tail

-- all branches that the meter touches were walked
abbrev pub AreWalkedOf : Setting → List Bool → ℕ → Type 0
AreWalkedOf over walked m = (e : ℕ) → In e (touched_in over m) → has_flag walked e ≡ true

-- at each vertex the first branches, so many as are noted, were walked
pub record AreStarred (over : Setting) (stars : List ℕ) (walked : List Bool) : Type 0 where
  pub room : over.graph.vertices ≤ length stars
  pub starred : (v e : ℕ) → In e (take (slice_index_or stars v 0) (branches_at over.graph.ends v))
      → has_flag walked e ≡ true

-- while a search runs, with what it knows of the vertices
pub record IsRunning (over : Setting) (p : Progress) : Type 0 where
  pub searching : IsSearching over p.trail
  pub starred : AreStarred over p.stars p.trail.walked
  pub classes : AreClasses over p.trail.marks p.tops

-- a search that runs rests: nothing waits in its queue
pub record IsResting (over : Setting) (p : Progress) : Type 0 where
  pub running : IsRunning over p
  pub done : IsDone p.trail

-- a search that runs has come further: no mark is taken back, and no walk, and the room is the same
pub record RunsOn (over : Setting) (before after : Progress) : Type 0 where
  pub running : IsRunning over after
  pub follows : Follows before.trail after.trail
  pub stars : length after.stars ≡ length before.stars

-- there is room for all that a search is over
pub record HasRoomIn (over : Setting) (p : Progress) : Type 0 where
  pub meters : length over.touches ≤ length p.trail.marks
  pub branches : length over.graph.ends ≤ length p.trail.walked
  pub stars : over.graph.vertices ≤ length p.stars
  pub tops : length p.tops ≡ over.room
  pub fits : over.graph.vertices ≤ over.room

-- there is room for as much as there was
pub record IsAsLarge (before after : Progress) : Type 0 where
  pub meters : length after.trail.marks ≡ length before.trail.marks
  pub branches : length after.trail.walked ≡ length before.trail.walked
  pub stars : length after.stars ≡ length before.stars
  pub tops : length after.tops ≡ length before.tops

-- the sources from one meter on, below a limit, are marked
abbrev pub AreMarked : Setting → List Bool → ℕ → ℕ → Type 0
AreMarked over marks first limit = (m : ℕ) → first ≤ m → m < limit → IsSourceIn over m → has_flag marks m ≡ true

-- the meter may take the branch, which it touches: the branches of the pairs do not join its ends
pub record IsFreeFor (over : Setting) (m e : ℕ) : Type 0 where
  pub touched : In e (touched_in over m)
  pub apart : is_joined_in over e ≡ false

-- the search came upon a free branch of a marked meter
pub record IsEnd (over : Setting) (trail : Trail) (x : Move) : Type 0 where
  pub searching : IsSearching over trail
  pub marked : has_flag trail.marks x.meter ≡ true
  pub free : IsFreeFor over x.meter x.branch

-- the meter of the first move of a path is a source
abbrev pub BeginsAtSource : List (Option Ends) → List Touch → Sources → Assignment → List Move → Type 0
BeginsAtSource ends touches from a [] = ⊥
BeginsAtSource ends touches from a (x ∷ path) = IsSource ends touches from a x.meter

-- the moves may be put in
pub record CanMove (ends : List (Option Ends)) (touches : List Touch) (a : Assignment) (path : List Move) : Type 0 where
  pub are_path : ArePath a path
  pub assigns : IsAssignmentAt ends touches (every_item touches) (pairs_of (moved path a.slots))

-- the moves may be put in, and give a source a pair
pub record IsReady (over : Setting) (path : List Move) : Type 0 where
  pub can : CanMove over.graph.ends over.touches over.assignment path
  pub begins : BeginsAtSource over.graph.ends over.touches over.sources over.assignment path

-- the moves from a place on may be put in, and give a source a pair
pub record HasPath (over : Setting) (path : List Move) (k : ℕ) : Type 0 where
  pub bound : k ≤ length path
  pub ready : IsReady over (drop k path)

-- the first so many meters of the queue are marked, and no others: they are the least closed set
pub record HasReached (over : Setting) (trail : Trail) (count : ℕ) : Type 0 where
  pub few : count ≤ length trail.marks
  pub least : IsLeastClosedAt over.graph.ends over.touches over.sources over.assignment (has_flag (take (length over.touches) trail.marks))
  pub listed : AreListed (take (length over.touches) trail.marks) (take count trail.queue)

-- a search may begin: over this, ahead over what is passed over, among noted meters, and at two meters that may be sources
pub record CanSearch (over ahead : Setting) (n : Noted) (first from : ℕ) : Type 0 where
  pub sound : IsSound over
  pub passes : IsOpen over ahead
  pub noted : AreNotedIn over n
  pub tried : first_of over.sources ≤ first
  pub searched : first_of over.sources ≤ from
