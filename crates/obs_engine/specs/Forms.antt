-- What a form of words takes, and which answers it can have.
use Rattle.std.specs.Prelude.{ℕ, ◌≡◌, ◌⊎◌, List, Option, None, Some}
use Rattle.obs_io.specs.Causes.{Rose}
use Rattle.obs_files.specs.declared.status.Status.{Status}
use Rattle.obs_files.specs.declared.status.Status.TheVariants.{Done, Short, Usage, InputFault, ReadFault, WriteFault, NoMemory, SessionTooLong}
use Rattle.obs_files.specs.declared.words.CaseCommand.TheVariants.{Session, Verify}
use Rattle.obs_files.specs.declared.words.Form.{Form}
use Rattle.obs_files.specs.declared.words.Form.TheVariants.{Topology, Case}
use Rattle.obs_files.specs.Limits.{Limits}
use Rattle.obs_files.specs.Outside.{AreCase, AreFiles, ReadFailed}
use Rattle.obs_files.specs.Words.{file_words}

-- whether a form takes the input
abbrev pub TakesInput : Option Form → Type 0
TakesInput (Some (Case (Session offered) from)) = Unit {0}
TakesInput form = ⊥

-- the statuses of a form whose case was answered. Where a certificate is checked, its own fault is an answer too
abbrev pub CanEnd : Form → Status → Type 0
CanEnd Topology status = status ≡ Done
CanEnd (Case (Session offered) from) status = (status ≡ Done) ⊎ (status ≡ Short) ⊎ (status ≡ SessionTooLong)
CanEnd (Case (Verify offered) from) status = (status ≡ Done) ⊎ (status ≡ Short) ⊎ (status ≡ InputFault)
CanEnd form status = (status ≡ Done) ⊎ (status ≡ Short)

-- the statuses of a form whose files are refused, or where something failed
abbrev pub CanStop : Status → Type 0
CanStop status = (status ≡ InputFault) ⊎ (status ≡ ReadFault) ⊎ (status ≡ WriteFault) ⊎ (status ≡ NoMemory)

-- the statuses that a form can have, whatever the outside tells
abbrev pub CanAnswer : Option Form → Status → Type 0
CanAnswer None status = (status ≡ Usage) ⊎ (status ≡ WriteFault)
CanAnswer (Some form) status = CanEnd form status ⊎ CanStop status

-- reading a file of a form failed: nothing of the input is taken, no read of it failed, and nothing is written
pub record FileFailed
    (limits : Limits) (form : Option Form) (content : ℕ → Option (List ℕ)) (before now : ℕ → ℕ) (left left_now : Option (List ℕ)) (input_before input_now : ℕ)
    (written written_now : Option (List ℕ)) : Type 0 where
  pub file : ReadFailed limits (file_words form) content before now
  pub input : left_now ≡ left
  pub input_faults : input_now ≡ input_before
  pub output : written_now ≡ written

-- reading the input failed, where the form takes it: no read of a file did, and the files are a case, where their contents are told
pub record InputFailed (limits : Limits) (form : Option Form) (content : ℕ → Option (List ℕ)) (before now : ℕ → ℕ) (input_before input_now : ℕ) : Type 0 where
  pub takes : TakesInput form
  pub rose : Rose input_before input_now
  pub files : (w : ℕ) → now w ≡ before w
  pub case : (file : ℕ → List ℕ) → AreFiles limits form content file → AreCase limits form file

-- a read failed: that of a file of the form, or that of the input
abbrev pub AnyReadFailed : Limits → Option Form → (ℕ → Option (List ℕ)) → (ℕ → ℕ) → (ℕ → ℕ) → Option (List ℕ) → Option (List ℕ) → ℕ → ℕ
    → Option (List ℕ) → Option (List ℕ) → Type 0
AnyReadFailed limits form content before now left left_now input_before input_now written written_now =
    FileFailed limits form content before now left left_now input_before input_now written written_now ⊎ InputFailed limits form content before now input_before input_now
