-- What is said of the part of a run behind the files.
use Rattle.std.specs.Prelude.{ℕ, ◌≡◌, ◌≢◌, ◌⊎◌, List, Option, Some, Ok}
use Rattle.obs_case.specs.Tables.{Tables}
use Rattle.obs_io.specs.Causes.{Rose}
use Rattle.obs_files.specs.declared.status.Status.{Status}
use Rattle.obs_files.specs.declared.status.Status.TheVariants.{ReadFault, WriteFault, NoMemory}
use Rattle.obs_files.specs.declared.words.Form.{Form}
use Rattle.obs_engine.specs.Ending.{Answers, Ends, HasRoomForText}
use Rattle.obs_files.specs.Files.{case_in_files, certificate_in}
use Rattle.obs_engine.specs.Forms.{CanAnswer, TakesInput}
use Rattle.obs_engine.specs.Sessions.{IsTakenFront}
use Rattle.obs_engine.specs.Stated.{Told}

-- the case of a form was answered, and its certificate, where the form takes one. An input may have so many bytes
pub record AnsweredAt
    (most : ℕ) (form : Form) (t : Tables) (certificate : List ℕ) (left left_now : Option (List ℕ)) (input_before input_now : ℕ) (input_steady : Type 0)
    (before now : Option (List ℕ)) (sink_before sink_now : ℕ) (has_room : ℕ → Type 0) (status : Status) : Type 0 where
  -- it ends as is stated for files that are this case
  pub ends : (told : Told) → told.limits.bytes ≡ most → case_in_files told.limits form told.file ≡ Ok t → certificate_in form told.file ≡ certificate
      → (TakesInput (Some form) → left ≡ Some told.input) → Ends (Some form) told left_now status before now
  pub complete : (told : Told) → told.limits.bytes ≡ most → case_in_files told.limits form told.file ≡ Ok t → certificate_in form told.file ≡ certificate
      → (TakesInput (Some form) → left ≡ Some told.input) → (TakesInput (Some form) → input_steady) → HasRoomForText (Some form) told has_room
      → (status ≡ NoMemory) ⊎ Answers (Some form) told status before now
  -- which answers it can have, and the cause of each that says that something failed
  pub statuses : CanAnswer (Some form) status
  pub read : status ≡ ReadFault → TakesInput (Some form) × Rose input_before input_now
  pub write : status ≡ WriteFault → Rose sink_before sink_now
  -- a call that fails isn't passed over
  pub quiet_input : status ≢ ReadFault → input_now ≡ input_before
  pub quiet_output : status ≢ WriteFault → sink_now ≡ sink_before
  -- nothing is written and nothing taken for want of memory
  pub memory : status ≡ NoMemory → now ≡ before
  pub memory_input : status ≡ NoMemory → left_now ≡ left
  pub taken : TakesInput (Some form) → (input : List ℕ) → left ≡ Some input → IsTakenFront most input left_now status

-- the same over the members of a source and a sink
abbrev pub IsCaseAnswered : {S W : Type 0} → (S → Option (List ℕ)) → (S → ℕ) → (S → Type 0) → (W → Option (List ℕ)) → (W → ℕ) → (W → ℕ → Type 0)
    → ℕ → Form → Tables → List ℕ → S → S → W → W → Status → Type 0
IsCaseAnswered left input_faults steady written faults has_room most form t certificate input_before input_now before now status =
    AnsweredAt most form t certificate (left input_before) (left input_now) (input_faults input_before) (input_faults input_now) (steady input_before)
    (written before) (written now) (faults before) (faults now) (has_room before) status
