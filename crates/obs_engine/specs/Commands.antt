-- What each command answers.
use Rattle.std.specs.Prelude.{ℕ, ◌≡◌, List}
use Rattle.obs_case.specs.Tables.{Tables}
use Rattle.obs_script.specs.declared.command.Ask.TheVariants.{Report as ReportAsk, Place as PlaceAsk}
use Rattle.obs_files.specs.declared.words.CaseCommand.TheVariants.{Report, Place, Session, Verify, Study}
use Rattle.obs_files.specs.declared.words.Form.{Form}
use Rattle.obs_files.specs.declared.words.Form.TheVariants.{Topology, Case, Trial}
use Rattle.obs_engine.specs.Asks.{ask_reply}
use Rattle.obs_files.specs.Files.{case_in_files, certificate_in}
use Rattle.obs_files.specs.Limits.{Limits}
use Rattle.obs_engine.specs.Replies.{IsReplyTo, Reply}
use Rattle.obs_engine.specs.Sessions.{session_reply}
use Rattle.obs_engine.specs.Studies.{study_reply}
use Rattle.obs_engine.specs.Topology.{topology_reply}
use Rattle.obs_engine.specs.Trials.{IsTrialReply}
use Rattle.obs_engine.specs.Verify.{verify_reply}

-- the reply to a case: in a session that to an input, which may have so many bytes, and where a certificate is checked that to its bytes. Of a trial one number is
-- free, that of the searches
abbrev pub IsCaseReply : ℕ → Form → List ℕ → List ℕ → Tables → Reply → Type 0
IsCaseReply most Topology input certificate t reply = reply ≡ topology_reply t
IsCaseReply most (Case Report from) input certificate t reply = reply ≡ ask_reply ReportAsk t
IsCaseReply most (Case Place from) input certificate t reply = reply ≡ ask_reply PlaceAsk t
IsCaseReply most (Case (Session offered) from) input certificate t reply = reply ≡ session_reply most offered t input
IsCaseReply most (Case (Verify offered) from) input certificate t reply = reply ≡ verify_reply t certificate
IsCaseReply most (Case (Study study) from) input certificate t reply = reply ≡ study_reply study t
IsCaseReply most (Trial rows seed) input certificate t reply = IsTrialReply rows seed t reply

-- the reply to the contents of a form's files, and in a session to an input
abbrev pub IsFilesReply : Limits → Form → List ℕ → (ℕ → List ℕ) → Reply → Type 0
IsFilesReply limits form input file reply =
    IsReplyTo (IsCaseReply limits.bytes form input (certificate_in form file)) (case_in_files limits form file) reply
