-- A session: the reply to a case and an input, how much of the input is taken, and what is said of a run over it. In each of these
-- `most` is the most bytes that an input may have.
use Rattle.std.specs.Prelude.{ℕ, ◌≡◌, ◌≤◌, ◌+◌, ◌-◌, ◌⊎◌, Bool, nat_lt, List, [], length, take, drop, Option, None, Some, if◌then◌else◌}
use Rattle.obs_case.specs.Tables.{Tables}
use Rattle.obs_text.specs.Lines.{lines_of}
use Rattle.obs_files.specs.declared.status.Status.{Status}
use Rattle.obs_files.specs.declared.status.Status.TheVariants.{Done, Short, InputFault, SessionTooLong}
use Rattle.obs_engine.specs.Asks.{report_status}
use Rattle.obs_engine.specs.Lines.{ended_after, lines_case, lines_text}
use Rattle.obs_engine.specs.Replies.{Reply}

-- the reply to an input that isn't too long: each line is answered, and the status is that of the present case at the end
abbrev pub whole_reply : Bool → Tables → List ℕ → Reply
whole_reply offered t input = record {
  status = report_status (lines_case offered t (lines_of input));
  text = lines_text offered t (lines_of input);
}

-- the reply to one that is too long: the lines are answered that end within as many bytes as an input may have
abbrev pub cut_reply : ℕ → Bool → Tables → List ℕ → Reply
cut_reply most offered t input = record {
  status = SessionTooLong;
  text = lines_text offered t (ended_after [] (take most input));
}

-- the reply to a case and an input, with candidates or without
abbrev pub session_reply : ℕ → Bool → Tables → List ℕ → Reply
session_reply most offered t input = if nat_lt most (length input) then cut_reply most offered t input else whole_reply offered t input

-- the bytes of an input that were taken where these are left
abbrev pub taken_of : List ℕ → Option (List ℕ) → List ℕ
taken_of input None = []
taken_of input (Some left) = take (length input - length left) input

-- what was answered by then: the lines that had ended
abbrev pub answered_within : Bool → Tables → List ℕ → Option (List ℕ) → List ℕ
answered_within offered t input left = lines_text offered t (ended_after [] (taken_of input left))

-- how much of an input was taken by a run with this status: all of it where each line was answered, and one byte more than an input
-- may have where it is too long; never more than that, and nothing where files were refused
pub record IsTakenFront (most : ℕ) (input : List ℕ) (left : Option (List ℕ)) (status : Status) : Type 0 where
  pub count : ℕ
  pub rest : left ≡ Some (drop count input)
  pub within : count ≤ length input
  pub bound : count ≤ most + 1
  pub all : (status ≡ Done) ⊎ (status ≡ Short) → count ≡ length input
  pub too_long : status ≡ SessionTooLong → count ≡ most + 1
  pub refused : status ≡ InputFault → count ≡ 0
