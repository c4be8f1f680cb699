-- The answers to the lines of a session: a fold over present cases, which knows no network, no kept pairs and no former answer.
use Rattle.std.specs.Prelude.{ℕ, Bool, List, [], ◌∷◌, ◌++◌, Result, Ok, Err, if◌then◌else◌}
use Rattle.obs_case.specs.Tables.{Tables}
use Rattle.obs_text.specs.Lines.{is_feed}
use Rattle.obs_network.specs.Network.{case_needed}
use Rattle.obs_report.specs.Lines.{ok_line, refused_line}
use Rattle.obs_script.specs.Gathered.{content_of, is_comment}
use Rattle.obs_repair.specs.declared.edit.Meant.{Meant}
use Rattle.obs_repair.specs.declared.edit.Meant.TheVariants.{Edits, Asks}
use Rattle.obs_repair.specs.declared.edit.Refusal.{Refusal}
use Rattle.obs_network.specs.Observable.{case_rank}
use Rattle.obs_repair.specs.Edits.{edited}
use Rattle.obs_repair.specs.Lines.{meant_of, refusal_code, refusal_name}
use Rattle.obs_engine.specs.Asks.{ask_text}

-- the present case after what a line means: only an edit changes it
abbrev pub case_after : Tables → Result Meant Refusal → Tables
case_after t (Ok (Edits edit)) = edited t edit
case_after t (Ok (Asks ask)) = t
case_after t (Err refusal) = t

-- the answer to what a line means: of an edit the rank and the needed number of the case after it
abbrev pub answer_to : Tables → Result Meant Refusal → List ℕ
answer_to t (Ok (Edits edit)) = ok_line (case_rank (edited t edit)) (case_needed (edited t edit))
answer_to t (Ok (Asks ask)) = ask_text ask t
answer_to t (Err refusal) = refused_line (refusal_code refusal) (refusal_name refusal)

-- the present case after a line of this content. A passed line, which is empty or begins with `#`, changes nothing
unfoldable pub line_case : Bool → Tables → List ℕ → Tables
line_case offered t line = if is_comment line then t else case_after t (meant_of t offered line)

-- the answer to a line of this content. A passed line has none
unfoldable pub line_text : Bool → Tables → List ℕ → List ℕ
line_text offered t line = if is_comment line then [] else answer_to t (meant_of t offered line)

-- the present case after some lines
abbrev pub lines_case : Bool → Tables → List (List ℕ) → Tables
lines_case offered t [] = t
lines_case offered t (line ∷ lines) = lines_case offered (line_case offered t line) lines

-- the answers to some lines, in order
abbrev pub lines_text : Bool → Tables → List (List ℕ) → List ℕ
lines_text offered t [] = []
lines_text offered t (line ∷ lines) = line_text offered t line ++ lines_text offered (line_case offered t line) lines

-- the contents of the lines that end where some bytes come behind those of a line that hasn't ended
abbrev pub ended_after : List ℕ → List ℕ → List (List ℕ)
ended_after line [] = []
ended_after line (byte ∷ bytes) = if is_feed byte then content_of line ∷ ended_after [] bytes else ended_after (line ++ (byte ∷ [])) bytes
