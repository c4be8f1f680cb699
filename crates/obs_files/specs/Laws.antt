-- The laws that need a name.
use Rattle.std.specs.Prelude.{◌≡◌, ℕ, List, Ok}
use Rattle.obs_case.specs.Tables.{IsValid, Tables}
use Rattle.obs_files.specs.declared.words.Form.{Form}
use Rattle.obs_files.specs.Limits.{IsLimits, Limits}
use Rattle.obs_files.specs.Files.{case_in_files}
use Rattle.obs_files.specs.Words.{HasRows}

-- the case that the files of a form are is valid, whatever the limits are. A trial has no files, but its rows
abbrev pub CasesAreValid : Type 0
CasesAreValid =
    (limits : Limits) (form : Form) (file : ℕ → List ℕ) (t : Tables) → IsLimits limits → HasRows form → case_in_files limits form file ≡ Ok t → IsValid t
