-- What a session does at a line.
use Rattle.std.specs.Prelude.{ℕ, ◌≡◌, List, Result, Ok, Err}
use Rattle.obs_edit.specs.declared.applied.Done.{Done}
use Rattle.obs_edit.specs.declared.applied.Done.TheVariants.{Edited, Asked}
use Rattle.obs_repair.specs.declared.edit.Edit.{Edit}
use Rattle.obs_repair.specs.declared.edit.Meant.TheVariants.{Edits, Asks}
use Rattle.obs_repair.specs.declared.edit.Refusal.{Refusal}
use Rattle.obs_repair.specs.Lines.{meant_of}
use Rattle.obs_edit.specs.inner.Edits.{IsEdited}
use Rattle.obs_edit.specs.Sessions.{Session}

-- a session became this one by a line that is no refused one: an edit is done, and an ask changes nothing
abbrev pub IsDone : Session → List ℕ → Session → Done → Type 0
IsDone before line after (Edited said) =
    (edit : Edit) × (meant_of before.tables before.offered line ≡ Ok (Edits edit)) × IsEdited before edit after said
IsDone before line after (Asked ask) = (meant_of before.tables before.offered line ≡ Ok (Asks ask)) × (after ≡ before)

-- how many searches a line took
abbrev pub searches_of : Result Done Refusal → ℕ
searches_of (Err refusal) = 0
searches_of (Ok (Edited said)) = said.searches
searches_of (Ok (Asked ask)) = 0
