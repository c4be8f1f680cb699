-- How a command may end that has a reply, over one that writes and over any sink.
use Rattle.std.specs.Prelude.{ℕ, ◌≡◌, ◌+◌, ◌⊎◌, List, length, Option, Result, Ok, Err}
use Rattle.obs_io.specs.Bytes.{Wrote, WrotePart}
use Rattle.obs_io.specs.Causes.{Rose}
use Rattle.obs_case.specs.Tables.{Tables}
use Rattle.obs_text.specs.Faults.{Fault}
use Rattle.obs_files.specs.declared.status.Status.{Status}
use Rattle.obs_files.specs.declared.status.Status.TheVariants.{ReadFault, WriteFault, NoMemory}
use Rattle.obs_engine.specs.Replies.{Reply, fault_reply}

-- the status of an answer, by whether all of it was printed
abbrev pub printed_status : {T E : Type 0} → Result T E → Status → Status
printed_status (Ok x) status = status
printed_status (Err e) status = WriteFault

-- the reply to files that are no case
abbrev pub IsRefused : Result Tables Fault → Reply → Type 0
IsRefused (Ok t) reply = Unit {0}
IsRefused (Err fault) reply = reply ≡ fault_reply fault

-- how a command ends that has this reply: with all of it, or behind a front of its text, or with nothing written
abbrev pub EndsWith : Reply → Status → Option (List ℕ) → Option (List ℕ) → Type 0
EndsWith reply status before after =
    ((status ≡ reply.status) × Wrote before after reply.text)
    ⊎ (((status ≡ WriteFault) × WrotePart before after reply.text)
    ⊎ (((status ≡ ReadFault) × (after ≡ before)) ⊎ ((status ≡ NoMemory) × (after ≡ before))))

-- the same of a command that takes the input, and had answered so much when a read of it failed
abbrev pub EndsBehind : Reply → List ℕ → Status → Option (List ℕ) → Option (List ℕ) → Type 0
EndsBehind reply answered status before after =
    ((status ≡ reply.status) × Wrote before after reply.text)
    ⊎ (((status ≡ WriteFault) × WrotePart before after reply.text)
    ⊎ (((status ≡ ReadFault) × Wrote before after answered) ⊎ ((status ≡ NoMemory) × (after ≡ before))))

-- a command that needs no further reading ends with this reply; a write fails only where the count of faults rose, and not
-- while there is room for the text; where none failed the count is as before
pub record RepliedAt (before after : Option (List ℕ)) (faults_before faults_after : ℕ) (has_room : ℕ → Type 0) (status : Status) (reply : Reply) : Type 0 where
  pub ends : EndsWith reply status before after
  pub reads : status ≡ ReadFault → ⊥
  pub write : status ≡ WriteFault → Rose faults_before faults_after
  pub quiet : (status ≡ WriteFault → ⊥) → faults_after ≡ faults_before
  pub room : (rest : ℕ) → has_room (length reply.text + rest) → status ≡ WriteFault → ⊥

-- the same over the members of a sink
abbrev pub IsReplied : {W : Type 0} → (W → Option (List ℕ)) → (W → ℕ) → (W → ℕ → Type 0) → W → W → Status → Reply → Type 0
IsReplied written faults has_room before after status reply =
    RepliedAt (written before) (written after) (faults before) (faults after) (has_room before) status reply
