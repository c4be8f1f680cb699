-- What is said of a run, and of the part of it behind the files, for words of any form.
use Rattle.std.specs.Prelude.{ℕ, ◌≡◌, ◌≢◌, ◌⊎◌, List, Option, Some}
use Rattle.obs_io.specs.Causes.{Rose}
use Rattle.obs_files.specs.declared.status.Status.{Status}
use Rattle.obs_files.specs.declared.status.Status.TheVariants.{ReadFault, WriteFault, NoMemory}
use Rattle.obs_files.specs.declared.words.Form.{Form}
use Rattle.obs_engine.specs.Ending.{Answers, Ends, HasRoomForText}
use Rattle.obs_files.specs.Limits.{Limits}
use Rattle.obs_engine.specs.Forms.{AnyReadFailed, CanAnswer, TakesInput}
use Rattle.obs_files.specs.Outside.{IsFileWord}
use Rattle.obs_engine.specs.Sessions.{IsTakenFront}
use Rattle.obs_engine.specs.Stated.{Told, Tells}

-- words of a form were run over files, an input and an output, with these limits
pub record RanAt
    (limits : Limits) (form : Option Form) (content : ℕ → Option (List ℕ)) (files_before files_now : ℕ → ℕ) (files_steady : ℕ → Type 0)
    (left left_now : Option (List ℕ)) (input_before input_now : ℕ) (input_steady : Type 0)
    (before now : Option (List ℕ)) (sink_before sink_now : ℕ) (has_room : ℕ → Type 0) (status : Status) : Type 0 where
  -- it ends as is stated
  pub stated : (told : Told) → Tells limits form content left told → Ends form told left_now status before now
  pub complete : (told : Told) → Tells limits form content left told → ((w : ℕ) → IsFileWord form w → files_steady w)
      → (TakesInput form → input_steady) → HasRoomForText form told has_room → (status ≡ NoMemory) ⊎ Answers form told status before now
  -- which answers it can have, and the cause of each that says that something failed
  pub statuses : CanAnswer form status
  pub read : status ≡ ReadFault → AnyReadFailed limits form content files_before files_now left left_now input_before input_now before now
  pub write : status ≡ WriteFault → Rose sink_before sink_now
  -- a call that fails isn't passed over
  pub quiet_files : status ≢ ReadFault → (w : ℕ) → files_now w ≡ files_before w
  pub quiet_input : status ≢ ReadFault → input_now ≡ input_before
  pub quiet_output : status ≢ WriteFault → sink_now ≡ sink_before
  -- nothing is written and nothing taken for want of memory
  pub memory : status ≡ NoMemory → now ≡ before
  pub memory_input : status ≡ NoMemory → left_now ≡ left
  pub taken : TakesInput form → (input : List ℕ) → left ≡ Some input → IsTakenFront limits.bytes input left_now status

-- the same over the members of files, a source and a sink
abbrev pub IsRun : {F S W : Type 0} → (F → ℕ → Option (List ℕ)) → (F → ℕ → ℕ) → (F → ℕ → Type 0) → (S → Option (List ℕ)) → (S → ℕ) → (S → Type 0)
    → (W → Option (List ℕ)) → (W → ℕ) → (W → ℕ → Type 0) → Limits → Option Form → F → F → S → S → W → W → Status → Type 0
IsRun content file_faults file_steady left input_faults steady written faults has_room limits form files_before files_now input_before input_now before now status =
    RanAt limits form (content files_before) (file_faults files_before) (file_faults files_now) (file_steady files_before)
    (left input_before) (left input_now) (input_faults input_before) (input_faults input_now) (steady input_before)
    (written before) (written now) (faults before) (faults now) (has_room before) status
