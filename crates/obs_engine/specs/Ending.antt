-- How a run may end, where the outside tells its bytes.
use Rattle.std.specs.Prelude.{ℕ, ◌≡◌, ◌+◌, Bool, List, [], length, Option, Some, Result, Ok, Err}
use Rattle.obs_case.specs.Tables.{Tables}
use Rattle.obs_io.specs.Bytes.{Wrote, WrotePart}
use Rattle.obs_text.specs.Faults.{Fault}
use Rattle.obs_files.specs.declared.status.Status.{Status}
use Rattle.obs_files.specs.declared.status.Status.TheVariants.{Done, Short, Usage, InputFault, ReadFault, WriteFault, NoMemory, SessionTooLong}
use Rattle.obs_files.specs.declared.words.CaseCommand.TheVariants.{Session}
use Rattle.obs_files.specs.declared.words.Form.{Form}
use Rattle.obs_files.specs.declared.words.Form.TheVariants.{Case}
use Rattle.obs_files.specs.Files.{case_in_files}
use Rattle.obs_engine.specs.Replies.{Reply}
use Rattle.obs_engine.specs.Sessions.{answered_within}
use Rattle.obs_engine.specs.Stated.{Told, IsStated}

-- what a session had answered where these bytes of its input were left: the lines that had ended, for the case that its files are
abbrev pub answered_in : Bool → Result Tables Fault → List ℕ → Option (List ℕ) → List ℕ
answered_in offered (Ok t) input left = answered_within offered t input left
answered_in offered (Err fault) input left = []

-- what had been answered when a read failed and these bytes of the input were left: nothing, but for forms that take the input
abbrev pub answered_before : Option Form → Told → Option (List ℕ) → List ℕ
answered_before (Some (Case (Session offered) from)) told left =
    answered_in offered (case_in_files told.limits (Case (Session offered) from) told.file) told.input left
answered_before form told left = []

-- the run wrote the whole stated text and answered the stated status
abbrev pub Answers : Option Form → Told → Status → Option (List ℕ) → Option (List ℕ) → Type 0
Answers form told status before after = (reply : Reply) × IsStated form told reply × (status ≡ reply.status) × Wrote before after reply.text

-- the run wrote a front of the stated text
abbrev pub AnswersPart : Option Form → Told → Option (List ℕ) → Option (List ℕ) → Type 0
AnswersPart form told before after = (reply : Reply) × IsStated form told reply × WrotePart before after reply.text

-- a run ends with the stated status and the whole stated text; but after a failed read it wrote what had been answered by then,
-- after a failed write a front of the text, and for want of memory nothing
abbrev pub Ends : Option Form → Told → Option (List ℕ) → Status → Option (List ℕ) → Option (List ℕ) → Type 0
Ends form told left Done before after = Answers form told Done before after
Ends form told left Short before after = Answers form told Short before after
Ends form told left Usage before after = Answers form told Usage before after
Ends form told left InputFault before after = Answers form told InputFault before after
Ends form told left ReadFault before after = Wrote before after (answered_before form told left)
Ends form told left WriteFault before after = AnswersPart form told before after
Ends form told left NoMemory before after = Wrote before after []
Ends form told left SessionTooLong before after = Answers form told SessionTooLong before after

-- the sink has room for the whole stated text
abbrev pub HasRoomForText : Option Form → Told → (ℕ → Type 0) → Type 0
HasRoomForText form told room = (reply : Reply) → IsStated form told reply → (rest : ℕ) × room (length reply.text + rest)
