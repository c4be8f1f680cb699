-- What is told to a call, what is given of a reply, and how a call ends.
use Rattle.std.specs.Prelude.{ℕ, ◌≡◌, ◌⊎◌, ◌==◌, if◌then◌else◌, nat_lt, List, [], length, take}
use Rattle.obs_io.specs.Contents.{content_at}
use Rattle.obs_files.specs.declared.status.Status.TheVariants.{NoMemory, WriteFault}
use Rattle.obs_files.specs.Codes.{code_of}
use Rattle.obs_engine.specs.Replies.{Reply}
use Rattle.obs_engine.specs.Stated.{IsStated, Told}
use Rattle.obs_files.specs.Limits.{Limits, large_limits, usual_limits}
use Rattle.obs_files.specs.Words.{form_of}

-- the limits that a number asks for: the usual ones where it is 0, else the largest
abbrev pub limits_for : ℕ → Limits
limits_for large = if large == 0 then usual_limits else large_limits

-- what is told to obs: the limits, the content of each word's file, and the input
abbrev pub told_by : Limits → List ℕ → List ℕ → List ℕ → Told
told_by limits contents lengths input = record { limits = limits; file = content_at contents lengths; input = input }

-- a reply is given in a block with this room: as much of its text as there is room for, and its number, or that of a failed write where the text
-- is longer
pub record IsGiven (reply : Reply) (room number : ℕ) (bytes : List ℕ) : Type 0 where
  pub front : bytes ≡ take room reply.text
  pub number_is : number ≡ code_of (if nat_lt room (length reply.text) then WriteFault else reply.status)

-- a reply that is stated for these words is given; or there was no memory, and nothing is written
abbrev pub IsAnswered : List (List ℕ) → Told → ℕ → ℕ → List ℕ → Type 0
IsAnswered words told room number bytes =
    ((reply : Reply) × IsStated (form_of words) told reply × IsGiven reply room number bytes) ⊎ ((number ≡ code_of NoMemory) × (bytes ≡ []))
