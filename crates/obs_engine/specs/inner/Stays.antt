-- How beginning a session that stays ends, and a line that is said twice.
use Rattle.std.specs.Prelude.{ℕ, ◌≡◌, ◌⊎◌, Bool, List, Option, Result, Ok, Err}
use Rattle.obs_case.specs.Tables.{Tables}
use Rattle.obs_edit.specs.Sessions.{Session as Kept}
use Rattle.obs_files.specs.declared.status.Status.{Status}
use Rattle.obs_files.specs.declared.status.Status.TheVariants.{ReadFault, NoMemory}
use Rattle.obs_files.specs.declared.words.Form.{Form}
use Rattle.obs_files.specs.Limits.{Limits}
use Rattle.obs_engine.specs.Lines.{line_case}
use Rattle.obs_engine.specs.Replies.{Reply}
use Rattle.obs_engine.specs.inner.Replies.{EndsWith}
use Rattle.obs_engine.specs.Stays.{IsBegun, IsNotBegun, line_reply}

-- how beginning a session ends: it has begun; or it gets the reply that is stated where none begins; or a file couldn't be read or
-- there was no memory, and nothing is written
abbrev pub Begins : Limits → Option Form → (ℕ → List ℕ) → Result Kept Status → Option (List ℕ) → Option (List ℕ) → Type 0
Begins limits form file (Ok s) before after = IsBegun limits form file s.offered s.tables
Begins limits form file (Err status) before after =
    ((reply : Reply) × IsNotBegun limits form file reply × EndsWith reply status before after)
    ⊎ (((status ≡ ReadFault) ⊎ (status ≡ NoMemory)) × (after ≡ before))

-- a line that is said again changes nothing more, and has the same reply
abbrev pub CanBeSaidAgain : Type 0
CanBeSaidAgain =
    (offered : Bool) (t : Tables) (line : List ℕ)
    → (line_case offered (line_case offered t line) line ≡ line_case offered t line)
    × (line_reply offered (line_case offered t line) line ≡ line_reply offered t line)
