-- Texts that are printed piece by piece into a sink, through a buffer that may hold back their last bytes for a while. `written`,
-- `faults` and `has_room` are the members of the sink.
use Rattle.std.specs.Prelude.{ℕ, ◌≡◌, ◌≤◌, ◌+◌, List, [], ◌++◌, length, Option, Result, Ok, Err, IsOk, OnErr}
use Rattle.obs_io.specs.Bytes.{Wrote, WrotePart}
use Rattle.obs_io.specs.inner.Bytes.{Writes}
use Rattle.obs_io.specs.Causes.{HasCause, Rose}
use Rattle.obs_io.specs.declared.outside.Failed.{Failed}

-- room for a text and for some bytes more lets the text be printed, and leaves the room for those
abbrev pub LeavesRoom : {T E : Type 0} → (ℕ → Type 0) → (ℕ → Type 0) → Result T E → List ℕ → Type 0
LeavesRoom room_before room_after result text = (rest : ℕ) → room_before (length text + rest) → IsOk result × room_after rest

-- since some start this text was printed, but for its last bytes, which are held back; or printing failed behind a front of it
abbrev pub HoldsSince : {T E : Type 0} → Option (List ℕ) → Option (List ℕ) → List ℕ → Result T E → List ℕ → Type 0
HoldsSince start written held (Ok x) text = (sent : List ℕ) × (text ≡ sent ++ held) × Wrote start written sent
HoldsSince start written held (Err e) text = WrotePart start written text

-- what one piece more does, after pieces whose result was so_far: whatever was printed since some start, this text
-- stands behind it; a failure is new only where the count of faults rose, and doesn't come while there is room; a piece is
-- printed only behind pieces that were, and the count of faults is then as before
pub record PrintsAt {T U E F : Type 0} (before after : Option (List ℕ)) (held_before held_after : List ℕ) (faults_before faults_after : ℕ)
    (room_before room_after : ℕ → Type 0) (so_far : Result T E) (result : Result U F) (text : List ℕ) : Type 0 where
  pub written : (start : Option (List ℕ)) (front : List ℕ) → HoldsSince start before held_before so_far front → HoldsSince start after held_after result (front ++ text)
  pub later : faults_before ≤ faults_after
  pub cause : IsOk so_far → OnErr result (Rose faults_before faults_after)
  pub quiet : IsOk result → IsOk so_far × (faults_after ≡ faults_before)
  pub room : IsOk so_far → (rest : ℕ) → room_before (length held_before + (length text + rest)) → IsOk result × room_after (length held_after + rest)

-- a buffer: the bytes that are held back, and what printing answers so far
pub record Buffered : Type 0 where
  pub held : List ℕ
  pub outcome : Result (Unit {0}) Failed

-- nothing is printed yet
abbrev pub empty_buffer : Buffered
empty_buffer = record { held = []; outcome = Ok tt }

-- one piece more, printed through a buffer
abbrev pub Prints : {W : Type 0} → (W → Option (List ℕ)) → (W → ℕ) → (W → ℕ → Type 0) → W → W → Buffered → Buffered → List ℕ → Type 0
Prints written faults has_room before after old new text =
    PrintsAt (written before) (written after) old.held new.held (faults before) (faults after) (has_room before) (has_room after) old.outcome new.outcome text

-- a call appends this text to a sink, with the count of faults as before, or fails behind a front of it, and then only where
-- the count rose
pub record AppendsAt {T E : Type 0} (before after : Option (List ℕ)) (faults_before faults_after : ℕ) (room_before room_after : ℕ → Type 0)
    (result : Result T E) (text : List ℕ) : Type 0 where
  pub writes : Writes before after result text
  pub cause : HasCause faults_before faults_after result
  pub quiet : IsOk result → faults_after ≡ faults_before
  pub fits : LeavesRoom room_before room_after result text

abbrev pub Appends : {W T E : Type 0} → (W → Option (List ℕ)) → (W → ℕ) → (W → ℕ → Type 0) → W → W → Result T E → List ℕ → Type 0
Appends written faults has_room before after result text =
    AppendsAt (written before) (written after) (faults before) (faults after) (has_room before) (has_room after) result text
