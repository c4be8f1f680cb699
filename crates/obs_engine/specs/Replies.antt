-- A status with its text, the texts on words and files that are refused, and how a command ends that has such a reply.
use Rattle.std.specs.Prelude.{ℕ, ◌≡◌, List, Result, Ok, Err}
use Rattle.obs_report.specs.Lines.{fault_line}
use Rattle.obs_case.specs.Tables.{Tables}
use Rattle.obs_text.specs.Faults.{Fault}
use Rattle.obs_files.specs.Words.{usage_text}
use Rattle.obs_files.specs.declared.status.Status.{Status}
use Rattle.obs_files.specs.declared.status.Status.TheVariants.{Usage, InputFault}

-- a status and the whole text that goes with it
pub record Reply : Type 0 where
  pub status : Status
  pub text : List ℕ

-- the reply to words that have no form
abbrev pub usage_reply : Reply
usage_reply = record { status = Usage; text = usage_text }

-- the reply to input that has this fault
abbrev pub fault_reply : Fault → Reply
fault_reply fault = record { status = InputFault; text = fault_line fault.part fault.place fault.code fault.name }

-- the reply to the case that files are, or to the fault for which they are none
abbrev pub IsReplyTo : (Tables → Reply → Type 0) → Result Tables Fault → Reply → Type 0
IsReplyTo answers (Ok t) reply = answers t reply
IsReplyTo answers (Err fault) reply = reply ≡ fault_reply fault
