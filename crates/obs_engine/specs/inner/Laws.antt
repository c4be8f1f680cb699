-- Laws of sessions and of islands.
use Rattle.std.specs.Prelude.{◌≡◌, ◌≢◌, ◌<◌, ℕ, Bool, true, false, List, Ok, Err, [], ◌∷◌, ◌++◌, codes, slice_index}
use Rattle.obs_case.specs.Tables.{IsValid, Tables}
use Rattle.obs_network.specs.Observable.{case_rank}
use Rattle.obs_files.specs.declared.words.CaseForm.{CaseForm}
use Rattle.obs_files.specs.declared.words.CaseCommand.TheVariants.{Report}
use Rattle.obs_files.specs.declared.words.Form.TheVariants.{Case}
use Rattle.obs_engine.specs.Replies.{Reply}
use Rattle.obs_network.specs.Network.{case_needed}
use Rattle.obs_report.specs.Lines.{ok_line, refused_line}
use Rattle.obs_script.specs.declared.command.Ask.{Ask}
use Rattle.obs_script.specs.Gathered.{content_of, is_comment}
use Rattle.obs_text.specs.Lines.{lines_of}
use Rattle.obs_repair.specs.declared.edit.Edit.{Edit}
use Rattle.obs_repair.specs.declared.edit.Meant.TheVariants.{Edits, Asks}
use Rattle.obs_repair.specs.declared.edit.Refusal.{Refusal}
use Rattle.obs_repair.specs.Edits.{edited}
use Rattle.obs_repair.specs.Lines.{meant_of, refusal_code, refusal_name}
use Rattle.obs_engine.specs.Asks.{ask_text}
use Rattle.obs_engine.specs.Commands.{IsCaseReply}
use Rattle.obs_network.specs.Switched.{case_bus_count}
use Rattle.obs_report.specs.Islands.{is_energised_bus}
use Rattle.obs_edit.specs.Answers.{case_islands}
use Rattle.obs_edit.specs.Laws.{IsIslandOf}
use Rattle.obs_engine.specs.Trials.{is_first_of_island}
use Rattle.obs_engine.specs.Lines.{ended_after, line_case, line_text, lines_case, lines_text}
use Rattle.obs_engine.specs.inner.Lines.{open_after}

-- of a session's lines an edit alone changes the present case: it sets its flag
pub record EditsAloneChange (offered : Bool) (t : Tables) (line : List ℕ) : Type 0 where
  pub edit : is_comment line ≡ false → (edit : Edit) → meant_of t offered line ≡ Ok (Edits edit) → line_case offered t line ≡ edited t edit
  pub ask : (ask : Ask) → meant_of t offered line ≡ Ok (Asks ask) → line_case offered t line ≡ t
  pub refused : (why : Refusal) → meant_of t offered line ≡ Err why → line_case offered t line ≡ t
  pub passed : is_comment line ≡ true → line_case offered t line ≡ t

-- the answer to a line, which the present case gives alone: of an edit the rank and the needed number after it, of an ask its text
pub record IsAnswerTo (offered : Bool) (t : Tables) (line : List ℕ) : Type 0 where
  pub edit : is_comment line ≡ false → (edit : Edit) → meant_of t offered line ≡ Ok (Edits edit)
      → line_text offered t line ≡ ok_line (case_rank (edited t edit)) (case_needed (edited t edit))
  pub ask : is_comment line ≡ false → (ask : Ask) → meant_of t offered line ≡ Ok (Asks ask) → line_text offered t line ≡ ask_text ask t
  pub refused : is_comment line ≡ false → (why : Refusal) → meant_of t offered line ≡ Err why
      → line_text offered t line ≡ refused_line (refusal_code why) (refusal_name why)
  pub passed : is_comment line ≡ true → line_text offered t line ≡ []

-- the answer to the line `report` is what the command prints of the present case
abbrev pub ReportsAsTheCommand : Type 0
ReportsAsTheCommand =
    (most : ℕ) (offered : Bool) (t : Tables) (from : CaseForm) (input certificate : List ℕ) (reply : Reply) → IsCaseReply most (Case Report from) input certificate t reply
    → line_text offered t (codes "report") ≡ reply.text

-- after lines that lead to one present case, in whatever order, all further lines get the same answers
abbrev pub OrderIsForgotten : Type 0
OrderIsForgotten =
    (offered : Bool) (t : Tables) (some others more : List (List ℕ)) → lines_case offered t some ≡ lines_case offered t others
    → (after : List ℕ) × (lines_text offered t (some ++ more) ≡ lines_text offered t some ++ after)
    × (lines_text offered t (others ++ more) ≡ lines_text offered t others ++ after)

-- the lines of bytes are those that end in them, and behind them the last bytes, where there are some
pub record EndedOrLast (bytes : List ℕ) : Type 0 where
  pub none : open_after [] bytes ≡ [] → lines_of bytes ≡ ended_after [] bytes
  pub last : open_after [] bytes ≢ [] → lines_of bytes ≡ ended_after [] bytes ++ (content_of (open_after [] bytes) ∷ [])

-- of the buses of an island, this one alone is counted for it
pub record IsCountedFor (t : Tables) (S : ℕ → Bool) (first : ℕ) : Type 0 where
  pub bus : first < case_bus_count t
  pub has : S first ≡ true
  pub counted : is_first_of_island t first ≡ true
  pub alone : (u : ℕ) → u < case_bus_count t → S u ≡ true → is_first_of_island t u ≡ true → u ≡ first

-- an island with an energised bus is counted once, by the bus that names it
abbrev pub IslandsAreCounted : Type 0
IslandsAreCounted =
    (t : Tables) (S : ℕ → Bool) (b : ℕ) → IsValid t → IsIslandOf t S → b < case_bus_count t → is_energised_bus t b ≡ true → S b ≡ true
    → IsCountedFor t S (slice_index (case_islands t) b)
