-- What is said of a session over an input and an output.
use Rattle.std.specs.Prelude.{ℕ, ◌≡◌, ◌≢◌, ◌+◌, ◌-◌, ◌⊎◌, Bool, List, length, Option, Some}
use Rattle.obs_case.specs.Tables.{Tables}
use Rattle.obs_io.specs.Causes.{Rose}
use Rattle.obs_files.specs.declared.status.Status.{Status}
use Rattle.obs_files.specs.declared.status.Status.TheVariants.{Done, Short, ReadFault, WriteFault, NoMemory, SessionTooLong}
use Rattle.obs_engine.specs.inner.Replies.{EndsBehind}
use Rattle.obs_engine.specs.Sessions.{session_reply, answered_within, IsTakenFront}

-- a session with this case was run over an input and an output
pub record SessionAt
    (most : ℕ) (offered : Bool) (t : Tables) (left left_now : Option (List ℕ)) (input_before input_now : ℕ) (is_steady : Type 0)
    (before now : Option (List ℕ)) (sink_before sink_now : ℕ) (has_room : ℕ → Type 0) (status : Status) : Type 0 where
  -- it ends with the reply to its input; after a failed read of the input the lines are answered that had ended
  pub ends : (input : List ℕ) → left ≡ Some input
      → EndsBehind (session_reply most offered t input) (answered_within offered t input left_now) status before now
  pub taken : (input : List ℕ) → left ≡ Some input → IsTakenFront most input left_now status
  pub statuses : ((status ≡ Done) ⊎ (status ≡ Short) ⊎ (status ≡ SessionTooLong)) ⊎ ((status ≡ ReadFault) ⊎ (status ≡ WriteFault) ⊎ (status ≡ NoMemory))
  pub read : status ≡ ReadFault → Rose input_before input_now
  pub write : status ≡ WriteFault → Rose sink_before sink_now
  pub quiet_input : status ≢ ReadFault → input_now ≡ input_before
  pub quiet_output : status ≢ WriteFault → sink_now ≡ sink_before
  -- want of memory is told before the first byte is taken or written
  pub memory : status ≡ NoMemory → now ≡ before
  pub memory_input : status ≡ NoMemory → left_now ≡ left
  -- no read and no write fails that can't
  pub steady : is_steady → status ≢ ReadFault
  pub room : (input : List ℕ) (rest : ℕ) → left ≡ Some input → has_room (length (session_reply most offered t input).text + rest) → status ≢ WriteFault

-- the same over the members of a source and a sink
abbrev pub IsSession : {S W : Type 0} → (S → Option (List ℕ)) → (S → ℕ) → (S → Type 0) → (W → Option (List ℕ)) → (W → ℕ) → (W → ℕ → Type 0)
    → ℕ → Bool → Tables → S → S → W → W → Status → Type 0
IsSession left input_faults steady written faults has_room most offered t input_before input_now before now status =
    SessionAt most offered t (left input_before) (left input_now) (input_faults input_before) (input_faults input_now) (steady input_before)
    (written before) (written now) (faults before) (faults now) (has_room before) status
