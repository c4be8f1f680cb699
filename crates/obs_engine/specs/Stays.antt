-- A session that stays between calls: how it is begun, what one line does, and what lines do one after another.
use Rattle.std.specs.Prelude.{ℕ, ◌≡◌, ◌≤◌, ◌⊎◌, All, Bool, List, [], ◌∷◌, ◌++◌, length, Option, None, Some, Ok, Err}
use Rattle.obs_case.specs.Tables.{Tables}
use Rattle.obs_report.specs.Lines.{line_feed}
use Rattle.obs_script.specs.Gathered.{content_of}
use Rattle.obs_text.specs.Faults.{Fault}
use Rattle.obs_text.specs.Laws.{HasNoFeed}
use Rattle.obs_files.specs.declared.status.Status.{Status}
use Rattle.obs_files.specs.declared.words.Form.{Form}
use Rattle.obs_engine.specs.Asks.{report_status}
use Rattle.obs_files.specs.Files.{case_in_files}
use Rattle.obs_files.specs.Limits.{Limits}
use Rattle.obs_files.specs.Words.{offers}
use Rattle.obs_engine.specs.Lines.{line_case, line_text}
use Rattle.obs_engine.specs.Replies.{Reply, fault_reply, usage_reply}
use Rattle.obs_engine.specs.Stated.{IsStated}

-- the words are a session's, with candidates or without, and this is the case that its files are with these limits
abbrev pub IsBegun : Limits → Option Form → (ℕ → List ℕ) → Bool → Tables → Type 0
IsBegun limits (Some form) file offered t = (offers (Some form) ≡ Some offered) × (case_in_files limits form file ≡ Ok t)
IsBegun limits None file offered t = ⊥

-- no session begins: the reply to words that are no session's, or to files that are no case
abbrev pub IsNotBegun : Limits → Option Form → (ℕ → List ℕ) → Reply → Type 0
IsNotBegun limits (Some form) file reply =
    ((offers (Some form) ≡ None) × (reply ≡ usage_reply))
    ⊎ ((offered : Bool) × (fault : Fault) × (offers (Some form) ≡ Some offered) × (case_in_files limits form file ≡ Err fault) × (reply ≡ fault_reply fault))
IsNotBegun limits None file reply = reply ≡ usage_reply

-- the reply to one line of this content: its answer, and the status is that of the present case behind it
abbrev pub line_reply : Bool → Tables → List ℕ → Reply
line_reply offered t line = record {
  status = report_status (line_case offered t line);
  text = line_text offered t line;
}

-- the replies to some lines, one after another
abbrev pub line_replies : Bool → Tables → List (List ℕ) → List Reply
line_replies offered t [] = []
line_replies offered t (line ∷ lines) = line_reply offered t line ∷ line_replies offered (line_case offered t line) lines

-- replies as one: their texts one behind another, with the status of the last, and this status where there is none
abbrev pub as_one : Status → List Reply → Reply
as_one status [] = record { status = status; text = [] }
as_one status (reply ∷ replies) = record {
  status = (as_one reply.status replies).status;
  text = reply.text ++ (as_one reply.status replies).text;
}

-- the content of a line: no byte of it ends a line
pub record IsContent (line : List ℕ) : Type 0 where
  pub feed : HasNoFeed line
  pub return : content_of line ≡ line

-- the input of some lines, each ended by a line feed
abbrev pub input_of : List (List ℕ) → List ℕ
input_of [] = []
input_of (line ∷ lines) = line ++ (line_feed ∷ input_of lines)

-- a session that stays answers what `run` answers: the replies to its lines, as one, are the reply that is stated for the same words and
-- files and the input of these lines, with the same limits, where each is the content of a line and an input may have that many bytes
abbrev pub AnswersAsRun : Type 0
AnswersAsRun =
    (limits : Limits) (form : Option Form) (file : ℕ → List ℕ) (offered : Bool) (t : Tables) (lines : List (List ℕ))
    → IsBegun limits form file offered t → All IsContent lines → length (input_of lines) ≤ limits.bytes
    → IsStated form (record { limits = limits; file = file; input = input_of lines }) (as_one (report_status t) (line_replies offered t lines))

-- where words are a session's, or have no form, and none begins, `run` has the same reply, whatever the input
abbrev pub RefusesAsRun : Type 0
RefusesAsRun =
    (limits : Limits) (form : Option Form) (file : ℕ → List ℕ) (input : List ℕ) (reply : Reply)
    → (form ≡ None) ⊎ ((offered : Bool) × (offers form ≡ Some offered))
    → IsNotBegun limits form file reply → IsStated form (record { limits = limits; file = file; input = input }) reply
