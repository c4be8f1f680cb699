-- The replies of forms: which statuses they have, and what follows for the form of the words.
use Rattle.std.proofs.Common.{ℕ, None, ◌≡◌, ◌∙◌, ◌-◌, ◌⊎◌, inl, inr, refl, ap, arith, subst, sym, List, length, Some, [], Option, Result, Ok, Err, Bool, true, false}
use Rattle.std.proofs.lemmas.Bool.{cases_Bool}
use Rattle.std.specs.Prelude.{if◌then◌else◌, ◌==◌, nat_lt}
use Rattle.obs_network.specs.Network.{case_needed}
use Rattle.obs_case.specs.Tables.{Tables}
use Rattle.obs_cert.specs.declared.fault.CertFault.{CertFault}
use Rattle.obs_cert.specs.declared.flaw.Flaw.{Flaw}
use Rattle.obs_cert.specs.Claims.{Claim}
use Rattle.obs_cert.specs.Flaws.{first_flaw}
use Rattle.obs_cert.specs.Read.{claims_of}
use Rattle.obs_outage.specs.Outages.{outages_of}
use Rattle.obs_station.specs.Stations.{losses_of}
use Rattle.obs_placement.specs.Placed.{Placed}
use Rattle.obs_placement.specs.Placed.Placed.{cheapest, shortfall}
use Rattle.obs_script.specs.declared.command.Ask.{Ask}
use Rattle.obs_script.specs.declared.command.Ask.TheVariants.{Status as StatusAsk, Tree, Bound, Islands, Critical, Report as ReportAsk, Place as PlaceAsk, Cert}
use Rattle.obs_report.specs.inner.Printed.{AppendsAt}
use Rattle.obs_text.specs.Faults.{Fault}
use Rattle.obs_text.specs.Lines.{lines_of}
use Rattle.obs_network.specs.Observable.{case_rank}
use Rattle.obs_edit.specs.Planned.{case_placement}
use Rattle.obs_files.specs.declared.status.Status.{Status}
use Rattle.obs_files.specs.declared.status.Status.TheVariants.{Done, Short, InputFault, SessionTooLong}
use Rattle.obs_files.specs.declared.words.CaseCommand.TheVariants.{Report, Place, Session, Verify, Study as StudyOf}
use Rattle.obs_files.specs.declared.words.Study.{Study}
use Rattle.obs_files.specs.declared.words.Study.TheVariants.{Outages, Pairs, Stations}
use Rattle.obs_files.specs.declared.words.Form.{Form}
use Rattle.obs_files.specs.declared.words.Form.TheVariants.{Topology, Case, Trial}
use Rattle.obs_engine.specs.Asks.{ask_reply, ask_status, placed_status, report_status}
use Rattle.obs_engine.specs.Commands.{IsCaseReply, IsFilesReply}
use Rattle.obs_files.specs.Files.{case_in_files, certificate_in}
use Rattle.obs_engine.specs.Ending.{answered_before, answered_in}
use Rattle.obs_engine.specs.Forms.{CanEnd, TakesInput}
use Rattle.obs_engine.specs.Lines.{lines_case}
use Rattle.obs_engine.specs.Sessions.{session_reply}
use Rattle.obs_engine.specs.Stated.{Told}
use Rattle.obs_engine.specs.Replies.{IsReplyTo, Reply, fault_reply}
use Rattle.obs_engine.specs.inner.Replies.{IsRefused, RepliedAt, printed_status}
use Rattle.obs_engine.specs.OutageReply.{are_met, outages_status}
use Rattle.obs_engine.specs.StationReply.{are_borne, stations_status}
use Rattle.obs_engine.specs.Studies.{study_reply}
use Rattle.obs_engine.specs.Topology.{topology_reply}
use Rattle.obs_engine.specs.Trials.{dips_of, trial_reply}
use Rattle.obs_engine.specs.Verify.{checked_reply, claims_reply, verify_reply}
use Rattle.obs_engine.proofs.Endings.{IsFailure, replied_so}
use Rattle.obs_engine.proofs.Turned.{dips_few}

-- a status that the reply of a session can have
abbrev pub CanReply : Status → Type 0
CanReply status = (status ≡ Done) ⊎ (status ≡ Short) ⊎ (status ≡ SessionTooLong)

-- a status that an answer can have
abbrev pub IsVerdict : Status → Type 0
IsVerdict status = (status ≡ Done) ⊎ (status ≡ Short)

pub report_status-is : (t : Tables) → IsVerdict (report_status t)
unfolding report_status
report_status-is t = verdict-is (case_rank t == case_needed t)
  where
    verdict-is : (b : Bool) → IsVerdict (if b then Done else Short)
    verdict-is true = inl refl
    verdict-is false = inr refl

placed_status-is : (p : Placed) → IsVerdict (placed_status p)
placed_status-is (cheapest plan) = inl refl
placed_status-is (shortfall lack) = inr refl

pub ask_status-is : (ask : Ask) (t : Tables) → IsVerdict (ask_status ask t)
ask_status-is StatusAsk t = report_status-is t
ask_status-is Tree t = report_status-is t
ask_status-is Bound t = report_status-is t
ask_status-is Islands t = report_status-is t
ask_status-is Critical t = report_status-is t
ask_status-is ReportAsk t = report_status-is t
ask_status-is PlaceAsk t = placed_status-is (case_placement t)
ask_status-is Cert t = report_status-is t

-- the statuses of the reply of a session
pub session-can : (most : ℕ) (offered : Bool) (t : Tables) (input : List ℕ) → CanReply (session_reply most offered t input).status
session-can most offered t input = elim (cases_Bool (nat_lt most (length input))) [
  | inl e ↦ rw e (inr (inr refl))
  | inr e ↦ rw e (widened (report_status-is (lines_case offered t (lines_of input))))
]
  where
    widened : {status : Status} → IsVerdict status → CanReply status
    widened (inl e) = inl e
    widened (inr e) = inr (inl e)

-- the statuses of the reply to a certificate
abbrev pub CanVerify : Status → Type 0
CanVerify status = (status ≡ Done) ⊎ (status ≡ Short) ⊎ (status ≡ InputFault)

claims-can : (t : Tables) (r : Result (List Claim) CertFault) → CanVerify (claims_reply t r).status
claims-can t (Ok claims) = flawed (first_flaw t 1 claims)
  where
    flawed : (o : Option Flaw) → CanVerify (checked_reply (length claims) o).status
    flawed None = inl refl
    flawed (Some flaw) = inr (inl refl)
claims-can t (Err fault) = inr (inr refl)

pub verify-can : (t : Tables) (bytes : List ℕ) → CanVerify (verify_reply t bytes).status
verify-can t bytes = claims-can t (claims_of bytes)

-- the statuses of studies
pub outages_status-is : (t : Tables) → IsVerdict (outages_status t)
unfolding outages_status
outages_status-is t = by (are_met (outages_of t))
  where
    by : (b : Bool) → IsVerdict (if b then report_status t else Short)
    by true = report_status-is t
    by false = inr refl

pub stations_status-is : (t : Tables) → IsVerdict (stations_status t)
unfolding stations_status
stations_status-is t = by (are_borne (case_needed t) (losses_of t))
  where
    by : (b : Bool) → IsVerdict (if b then report_status t else Short)
    by true = report_status-is t
    by false = inr refl

study-is : (study : Study) (t : Tables) → IsVerdict (study_reply study t).status
study-is Outages t = outages_status-is t
study-is Pairs t = report_status-is t
study-is Stations t = stations_status-is t

-- the status of the reply to a case
pub case-can : (most : ℕ) (form : Form) (input certificate : List ℕ) (t : Tables) (reply : Reply) → IsCaseReply most form input certificate t reply → CanEnd form reply.status
case-can most Topology input certificate t reply is = ap (λ (r : Reply). r.status) is
case-can most (Case Report from) input certificate t reply is = subst (λ (r : Reply). IsVerdict r.status) (sym is) (report_status-is t)
case-can most (Case Place from) input certificate t reply is = subst (λ (r : Reply). IsVerdict r.status) (sym is) (placed_status-is (case_placement t))
case-can most (Case (Session offered) from) input certificate t reply is = subst (λ (r : Reply). CanReply r.status) (sym is) (session-can most offered t input)
case-can most (Case (Verify offered) from) input certificate t reply is = subst (λ (r : Reply). CanVerify r.status) (sym is) (verify-can t certificate)
case-can most (Case (StudyOf study) from) input certificate t reply is = subst (λ (r : Reply). IsVerdict r.status) (sym is) (study-is study t)
case-can most (Trial rows seed) input certificate t reply (searches, few, low, is) = subst (λ (r : Reply). IsVerdict r.status) (sym is) (report_status-is t)

pub verdict_no_failure : (status : Status) → IsVerdict status → IsFailure status → ⊥
verdict_no_failure status (inl s) (inl e) = absurd cc
verdict_no_failure status (inl s) (inr (inl e)) = absurd cc
verdict_no_failure status (inl s) (inr (inr e)) = absurd cc
verdict_no_failure status (inr s) (inl e) = absurd cc
verdict_no_failure status (inr s) (inr (inl e)) = absurd cc
verdict_no_failure status (inr s) (inr (inr e)) = absurd cc

-- a reply with a verdict, by whether all of it was printed
pub replied_verdict : {T E : Type 0} {a b : Option (List ℕ)} {f k : ℕ} {p q : ℕ → Type 0} (reply : Reply) (r : Result T E) (own status : Status) → status ≡ printed_status r own → own ≡ reply.status
    → IsVerdict reply.status → AppendsAt a b f k p q r reply.text → RepliedAt a b f k p status reply
replied_verdict reply r own status e same v call =
    replied_so reply r own status e same (λ s. verdict_no_failure reply.status v (inl s)) (λ s. verdict_no_failure reply.status v (inr (inl s))) call

reply_no_failure : (status : Status) → CanReply status → IsFailure status → ⊥
reply_no_failure status (inl s) f = verdict_no_failure status (inl s) f
reply_no_failure status (inr (inl s)) f = verdict_no_failure status (inr s) f
reply_no_failure status (inr (inr s)) (inl e) = absurd cc
reply_no_failure status (inr (inr s)) (inr (inl e)) = absurd cc
reply_no_failure status (inr (inr s)) (inr (inr e)) = absurd cc

refused_no_failure : (status : Status) → status ≡ InputFault → IsFailure status → ⊥
refused_no_failure status s (inl e) = absurd cc
refused_no_failure status s (inr (inl e)) = absurd cc
refused_no_failure status s (inr (inr e)) = absurd cc

verify_no_failure : (status : Status) → CanVerify status → IsFailure status → ⊥
verify_no_failure status (inl s) f = verdict_no_failure status (inl s) f
verify_no_failure status (inr (inl s)) f = verdict_no_failure status (inr s) f
verify_no_failure status (inr (inr s)) f = refused_no_failure status s f

end_no_failure : (form : Form) (status : Status) → CanEnd form status → IsFailure status → ⊥
end_no_failure Topology status e = verdict_no_failure status (inl e)
end_no_failure (Case Report from) status e = verdict_no_failure status e
end_no_failure (Case Place from) status e = verdict_no_failure status e
end_no_failure (Case (Session offered) from) status e = reply_no_failure status e
end_no_failure (Case (Verify offered) from) status e = verify_no_failure status e
end_no_failure (Case (StudyOf study) from) status e = verdict_no_failure status e
end_no_failure (Trial rows seed) status e = verdict_no_failure status e

pub case_no_failure : (most : ℕ) (form : Form) (input certificate : List ℕ) (t : Tables) (reply : Reply) → IsCaseReply most form input certificate t reply → IsFailure reply.status → ⊥
case_no_failure most form input certificate t reply is = end_no_failure form reply.status (case-can most form input certificate t reply is)

no_failure : (most : ℕ) (form : Form) (input certificate : List ℕ) (r : Result Tables Fault) (reply : Reply) → IsReplyTo (IsCaseReply most form input certificate) r reply → IsFailure reply.status → ⊥
no_failure most form input certificate (Ok t) reply is = case_no_failure most form input certificate t reply is
no_failure most form input certificate (Err fault) reply is = refused_no_failure reply.status (ap (λ (r : Reply). r.status) is)

-- a reply that is stated for a form says no failure
pub stated_no_failure : (form : Form) (told : Told) (reply : Reply) → IsFilesReply told.limits form told.input told.file reply → IsFailure reply.status → ⊥
stated_no_failure form told reply is = no_failure told.limits.bytes form told.input (certificate_in form told.file) (case_in_files told.limits form told.file) reply is

-- there is a reply to each case
some_reply : (most : ℕ) (form : Form) (input certificate : List ℕ) (t : Tables) → (reply : Reply) × IsCaseReply most form input certificate t reply
some_reply most Topology input certificate t = (topology_reply t, refl)
some_reply most (Case Report from) input certificate t = (ask_reply ReportAsk t, refl)
some_reply most (Case Place from) input certificate t = (ask_reply PlaceAsk t, refl)
some_reply most (Case (Session offered) from) input certificate t = (session_reply most offered t input, refl)
some_reply most (Case (Verify offered) from) input certificate t = (verify_reply t certificate, refl)
some_reply most (Case (StudyOf study) from) input certificate t = (study_reply study t, refl)
some_reply most (Trial rows seed) input certificate t = (trial_reply rows seed t (dips_of t), (dips_of t, omega arith, dips_few t, refl))

-- and so one that is stated for the files of a form
pub stated_reply : (form : Form) (told : Told) → (reply : Reply) × IsFilesReply told.limits form told.input told.file reply
stated_reply form told = to (case_in_files told.limits form told.file)
  where
    to : (r : Result Tables Fault) → (reply : Reply) × IsReplyTo (IsCaseReply told.limits.bytes form told.input (certificate_in form told.file)) r reply
    to (Ok t) = some_reply told.limits.bytes form told.input (certificate_in form told.file) t
    to (Err fault) = (fault_reply fault, refl)

-- where the files are no case, this is what they got
pub refused_reply : (answers : Tables → Reply → Type 0) (r : Result Tables Fault) (reply : Reply) → IsReplyTo answers r reply → IsRefused r reply
refused_reply answers (Ok t) reply is = tt
refused_reply answers (Err fault) reply is = is

-- a session that took nothing has answered nothing
nothing_in : (offered : Bool) (r : Result Tables Fault) (input : List ℕ) → answered_in offered r input (Some input) ≡ []
nothing_in offered (Ok t) input = let none : length input - length input ≡ 0 = omega arith in rw none refl
nothing_in offered (Err fault) input = refl

-- nothing is answered before the first byte of the input is taken
pub nothing_before : (form : Form) (told : Told) (left : Option (List ℕ)) → (TakesInput (Some form) → left ≡ Some told.input) → answered_before (Some form) told left ≡ []
nothing_before Topology told left is = refl
nothing_before (Case Report from) told left is = refl
nothing_before (Case Place from) told left is = refl
nothing_before (Case (Session offered) from) told left is = ap (λ (l : Option (List ℕ)). answered_in offered (case_in_files told.limits (Case (Session offered) from) told.file) told.input l) (is tt) ∙ nothing_in offered (case_in_files told.limits (Case (Session offered) from) told.file) told.input
nothing_before (Case (Verify offered) from) told left is = refl
nothing_before (Case (StudyOf study) from) told left is = refl
nothing_before (Trial rows seed) told left is = refl
