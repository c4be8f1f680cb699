-- What a search has reached and walked.
use Rattle.std.specs.Prelude.{◌≡◌, ◌⊎◌, ℕ, ◌+◌, ◌<◌, ◌≤◌, Bool, true, false, Option, None, List, length, replicate, slice_index, slice_index_or, slice_set}
use Rattle.obs_assign.specs.declared.Move.{Move}
use Rattle.obs_assign.specs.inner.Assignment.{has_flag}

-- by meter whether it is marked, and the move by which it was reached, or none; the queue of the marked meters, of which
-- those before the head were visited, and those from there to the tail wait; and by branch whether it was walked
pub record Trail : Type 0 where
  pub marks : List Bool
  pub parents : List (Option Move)
  pub queue : List ℕ
  pub head : ℕ
  pub tail : ℕ
  pub walked : List Bool

-- a trail as it is made, with room for so many meters and branches
abbrev pub new_trail : ℕ → ℕ → Trail
new_trail meters branches =
    record {
      marks = replicate meters false;
      parents = replicate meters None;
      queue = replicate meters 0;
      head = 0;
      tail = 0;
      walked = replicate branches false;
    }

-- nothing is marked, waits or was walked
abbrev pub cleared : Trail → Trail
cleared t =
    record t {
      marks = replicate (length t.marks) false;
      head = 0;
      tail = 0;
      walked = replicate (length t.walked) false;
    }

-- after a meter was marked and put into the queue
abbrev pub pushed : Trail → ℕ → Option Move → Trail
pushed t x by =
    record t {
      marks = slice_set t.marks x true;
      parents = slice_set t.parents x by;
      queue = slice_set t.queue t.tail x;
      tail = t.tail + 1;
    }

-- each list of meters has as many entries as the first
pub record AreFull (t : Trail) : Type 0 where
  pub parents_len : length t.parents ≡ length t.marks
  pub queue_len : length t.queue ≡ length t.marks

-- each flag that is set in the one list is set in the other
abbrev pub Keeps : List Bool → List Bool → Type 0
Keeps before after = (k : ℕ) → has_flag before k ≡ true → has_flag after k ≡ true

-- no mark is taken back, and no walk; what came into the queue keeps its place, and the room is the same
pub record Follows (before after : Trail) : Type 0 where
  pub marks : Keeps before.marks after.marks
  pub walked : Keeps before.walked after.walked
  pub tail : before.tail ≤ after.tail
  pub queue : (k : ℕ) → k < before.tail → slice_index after.queue k ≡ slice_index before.queue k
  pub meters : length after.marks ≡ length before.marks
  pub branches : length after.walked ≡ length before.walked

-- the meter is marked, and no other led to it
pub record IsRoot (trail : Trail) (x : ℕ) : Type 0 where
  pub marked : has_flag trail.marks x ≡ true
  pub first : slice_index_or trail.parents x None ≡ None

-- each meter that is marked newly was reached by another
abbrev pub AreLed : Trail → Trail → Type 0
AreLed before after = (x : ℕ) → IsRoot after x → IsRoot before x

-- the same, but for one meter
abbrev pub AreLedBut : ℕ → Trail → Trail → Type 0
AreLedBut m before after = (x : ℕ) → IsRoot after x → IsRoot before x ⊎ (x ≡ m)

-- what follows, where each new meter was reached by another, and the head stays where it is
pub record Stays (before after : Trail) : Type 0 where
  pub follows : Follows before after
  pub led : AreLed before after
  pub head : after.head ≡ before.head

-- what the arrays of a search are seen as: the trail, the path's moves at the end of its array, and room for how many vertices
pub record Scratch : Type 0 where
  pub trail : Trail
  pub path : List Move
  pub vertices : ℕ

-- arrays with room for so many, of which nothing was written
pub record HasRoomOnly (s : Scratch) (meters branches vertices : ℕ) : Type 0 where
  pub blank : s.trail ≡ new_trail meters branches
  pub room : s.vertices ≡ vertices
