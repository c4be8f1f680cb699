-- A case stays valid over edits, and so over the lines of a session.
use Rattle.std.proofs.Common.{ℕ, Bool, true, false, List, [], ◌∷◌, Result, Ok, Err}
use Rattle.std.specs.Prelude.{if◌then◌else◌}
use Rattle.obs_case.specs.Tables.{IsValid, Tables}
use Rattle.obs_script.specs.Gathered.{is_comment}
use Rattle.obs_repair.specs.declared.edit.Meant.{Meant}
use Rattle.obs_repair.specs.declared.edit.Meant.TheVariants.{Edits, Asks}
use Rattle.obs_repair.specs.declared.edit.Refusal.{Refusal}
use Rattle.obs_repair.specs.Lines.{meant_of}
use Rattle.obs_repair.proofs.Flagged.{valid_edited}
use Rattle.obs_engine.specs.Lines.{case_after, line_case, lines_case}

-- whatever a line means
valid_after : (t : Tables) (meant : Result Meant Refusal) → IsValid t → IsValid (case_after t meant)
valid_after t (Ok (Edits edit)) v = valid_edited t edit v
valid_after t (Ok (Asks ask)) v = v
valid_after t (Err refusal) v = v

valid_passed : (passed : Bool) (t u : Tables) → IsValid t → IsValid u → IsValid (if passed then t else u)
valid_passed true t u v w = v
valid_passed false t u v w = w

valid_line : (offered : Bool) (t : Tables) (line : List ℕ) → IsValid t → IsValid (line_case offered t line)
unfolding line_case
valid_line offered t line v = valid_passed (is_comment line) t (case_after t (meant_of t offered line)) v (valid_after t (meant_of t offered line) v)

pub valid_lines : (offered : Bool) (t : Tables) (lines : List (List ℕ)) → IsValid t → IsValid (lines_case offered t lines)
valid_lines offered t [] v = v
valid_lines offered t (line ∷ lines) v = valid_lines offered (line_case offered t line) lines (valid_line offered t line v)
