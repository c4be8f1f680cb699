-- What is said of a command, from what was taken from its files and what was answered.
use Rattle.std.proofs.Common.{ℕ, ◌≡◌, ◌∙◌, ◌⊎◌, ap, inl, inr, refl, sym, subst, arith, Bool, List, [], Option, Some, Result, Ok}
use Rattle.obs_text.specs.Faults.{Fault}
use Rattle.obs_case.specs.Tables.{Tables}
use Rattle.obs_files.specs.declared.status.Status.{Status}
use Rattle.obs_files.specs.declared.status.Status.TheVariants.{Done, Short, InputFault, ReadFault, WriteFault, NoMemory, SessionTooLong}
use Rattle.obs_files.specs.declared.words.CaseForm.{CaseForm}
use Rattle.obs_files.specs.declared.words.CaseCommand.TheVariants.{Session}
use Rattle.obs_files.specs.declared.words.Form.{Form}
use Rattle.obs_files.specs.declared.words.Form.TheVariants.{Case}
use Rattle.obs_engine.specs.Commands.{IsCaseReply, IsFilesReply}
use Rattle.obs_engine.specs.Ending.{answered_before, answered_in}
use Rattle.obs_files.specs.Files.{case_in_files, certificate_in}
use Rattle.obs_files.specs.Limits.{Limits}
use Rattle.obs_files.specs.Outside.{AreFiles}
use Rattle.obs_engine.specs.Forms.{CanAnswer, CanStop, TakesInput}
use Rattle.obs_engine.specs.Replies.{IsReplyTo, Reply}
use Rattle.obs_engine.specs.inner.Replies.{EndsBehind, RepliedAt}
use Rattle.obs_engine.specs.Runs.{RanAt}
use Rattle.obs_engine.specs.inner.Runs.{AnsweredAt}
use Rattle.obs_engine.specs.Sessions.{IsTakenFront, answered_within, session_reply}
use Rattle.obs_engine.specs.inner.Sessions.{SessionAt}
use Rattle.obs_engine.specs.Stated.{Told}
use Rattle.obs_engine.proofs.Endings.{behind_of, complete_stated, ends_stated, replied_statuses, unwritten}
use Rattle.obs_engine.proofs.Replied.{case-can, case_no_failure, nothing_before, stated_no_failure}
use Rattle.obs_engine.proofs.Summed.{not_for_files}

-- the reply to files that are this case
files_replied : (form : Form) (t : Tables) (certificate : List ℕ) (reply : Reply) (told : Told) → case_in_files told.limits form told.file ≡ Ok t → certificate_in form told.file ≡ certificate
    → IsCaseReply told.limits.bytes form told.input certificate t reply → IsFilesReply told.limits form told.input told.file reply
files_replied form t certificate reply told is beside of =
    subst (λ (r : Result Tables Fault). IsReplyTo (IsCaseReply told.limits.bytes form told.input (certificate_in form told.file)) r reply) (sym is)
    (subst (λ (c : List ℕ). IsCaseReply told.limits.bytes form told.input c t reply) (sym beside) of)

-- a case was answered by a form that takes no input, which is as it was
alone_answered : {most : ℕ} {left : Option (List ℕ)} {i : ℕ} {is_steady : Type 0} {a b : Option (List ℕ)} {f k : ℕ} {room : ℕ → Type 0} {status : Status} (form : Form) (t : Tables) (certificate : List ℕ) (reply : Reply)
    → ((bytes : ℕ) (input : List ℕ) → IsCaseReply bytes form input certificate t reply) → (TakesInput (Some form) → ⊥) → RepliedAt a b f k room status reply
    → AnsweredAt most form t certificate left left i i is_steady a b f k room status
alone_answered {left = left} {a = a} {b = b} {room = room} {status = status} form t certificate reply same none replied = record {
  ends = λ told bytes is beside takes.
      let here = files_replied form t certificate reply told is beside (same told.limits.bytes told.input) in
      ends_stated (Some form) told left reply status a b here (stated_no_failure form told reply here)
      (behind_of reply (answered_before (Some form) told left) status a b (nothing_before form told left takes) replied.ends);
  complete = λ told bytes is beside takes steady has.
      let here = files_replied form t certificate reply told is beside (same told.limits.bytes told.input) in
      let fits = has reply here in
      complete_stated (Some form) told reply status a b here replied.reads (replied.room fits.0 fits.1) [] (behind_of reply [] status a b refl replied.ends);
  statuses = replied_statuses (λ s. CanAnswer (Some form) s) reply status a b
      (inl (case-can 0 form [] certificate t reply (same 0 [])))
      (inr (inr (inr (inl refl)))) (inr (inr (inr (inr refl)))) replied.reads replied.ends;
  read = λ e. absurd (replied.reads e);
  write = replied.write;
  quiet_input = λ n. refl;
  quiet_output = replied.quiet;
  memory = unwritten reply status a b (λ e. case_no_failure 0 form [] certificate t reply (same 0 []) (inr (inr e))) replied.ends;
  memory_input = λ e. refl;
  taken = λ takes. absurd (none takes);
}

pub replied_answered : {most : ℕ} {left left_now : Option (List ℕ)} {i j : ℕ} {is_steady : Type 0} {a b : Option (List ℕ)} {f k : ℕ} {room : ℕ → Type 0} {status : Status} (form : Form) (t : Tables) (certificate : List ℕ) (reply : Reply)
    → ((bytes : ℕ) (input : List ℕ) → IsCaseReply bytes form input certificate t reply) → (TakesInput (Some form) → ⊥) → left_now ≡ left → j ≡ i → RepliedAt a b f k room status reply
    → AnsweredAt most form t certificate left left_now i j is_steady a b f k room status
replied_answered {most = most} {left = left} {left_now = left_now} {i = i} {j = j} {is_steady = is_steady} {a = a} {b = b} {f = f} {k = k} {room = room} {status = status} form t certificate reply same none rest still replied =
    subst (λ (l : Option (List ℕ)). AnsweredAt most form t certificate left l i j is_steady a b f k room status) (sym rest)
    (subst (λ (n : ℕ). AnsweredAt most form t certificate left left i n is_steady a b f k room status) (sym still) (alone_answered form t certificate reply same none replied))

-- a form that answers the lines of the input, with candidates or without
pub record IsSessionForm (form : Form) (offered : Bool) : Type 0 where
  pub takes : TakesInput (Some form)
  pub replies : (most : ℕ) (input certificate : List ℕ) (t : Tables) → IsCaseReply most form input certificate t (session_reply most offered t input)
  pub behind : (told : Told) (left : Option (List ℕ)) → answered_before (Some form) told left ≡ answered_in offered (case_in_files told.limits form told.file) told.input left
  pub can : (status : Status) → ((status ≡ Done) ⊎ (status ≡ Short) ⊎ (status ≡ SessionTooLong)) ⊎ ((status ≡ ReadFault) ⊎ (status ≡ WriteFault) ⊎ (status ≡ NoMemory))
      → CanAnswer (Some form) status

widened : {P : Type 0} (status : Status) → P ⊎ ((status ≡ ReadFault) ⊎ (status ≡ WriteFault) ⊎ (status ≡ NoMemory)) → P ⊎ CanStop status
widened status (inl h) = inl h
widened status (inr h) = inr (inr h)

pub session_form : (offered : Bool) (from : CaseForm) → IsSessionForm (Case (Session offered) from) offered
session_form offered from = record { takes = tt; replies = λ most input certificate t. refl; behind = λ told left. refl; can = λ status h. widened status h }

-- the lines of an input were answered for a case
pub session_answered : {most : ℕ} {left left_now : Option (List ℕ)} {i j : ℕ} {is_steady : Type 0} {a b : Option (List ℕ)} {f k : ℕ} {room : ℕ → Type 0} {status : Status} (form : Form) (offered : Bool) (t : Tables)
    (certificate : List ℕ) → IsSessionForm form offered → SessionAt most offered t left left_now i j is_steady a b f k room status
    → AnsweredAt most form t certificate left left_now i j is_steady a b f k room status
session_answered {most = most} {left = left} {left_now = left_now} {a = a} {b = b} {room = room} {status = status} form offered t certificate is ran = record {
  ends = λ told bytes of beside takes.
      let stated = here told bytes of beside in
      ends_stated (Some form) told left_now (whole told) status a b stated (stated_no_failure form told (whole told) stated) (behind told of takes);
  complete = λ told bytes of beside takes steady has.
      let stated = here told bytes of beside in
      let fits = has (whole told) stated in
      complete_stated (Some form) told (whole told) status a b stated (ran.steady (steady is.takes)) (ran.room told.input fits.0 (takes is.takes) fits.1)
      (answered_before (Some form) told left_now) (behind told of takes);
  statuses = is.can status ran.statuses;
  read = λ e. (is.takes, ran.read e);
  write = ran.write;
  quiet_input = ran.quiet_input;
  quiet_output = ran.quiet_output;
  memory = ran.memory;
  memory_input = ran.memory_input;
  taken = λ takes input told. ran.taken input told;
}
  where
    whole : Told → Reply
    whole told = session_reply most offered t told.input

    here : (told : Told) → told.limits.bytes ≡ most → case_in_files told.limits form told.file ≡ Ok t → certificate_in form told.file ≡ certificate
        → IsFilesReply told.limits form told.input told.file (whole told)
    here told bytes of beside =
        files_replied form t certificate (whole told) told of beside
        (subst (λ (n : ℕ). IsCaseReply told.limits.bytes form told.input certificate t (session_reply n offered t told.input)) bytes (is.replies told.limits.bytes told.input certificate t))

    before : (told : Told) → case_in_files told.limits form told.file ≡ Ok t → answered_before (Some form) told left_now ≡ answered_within offered t told.input left_now
    before told of = is.behind told left_now ∙ ap (λ (r : Result Tables Fault). answered_in offered r told.input left_now) of

    behind : (told : Told) → case_in_files told.limits form told.file ≡ Ok t → (TakesInput (Some form) → left ≡ Some told.input)
        → EndsBehind (whole told) (answered_before (Some form) told left_now) status a b
    behind told of takes = subst (λ (text : List ℕ). EndsBehind (whole told) text status a b) (sym (before told of)) (ran.ends told.input (takes is.takes))

-- the same with the number of bytes under another name
pub answered_by : {form : Form} {t : Tables} {certificate : List ℕ} {left left_now : Option (List ℕ)} {i j : ℕ} {is_steady : Type 0} {a b : Option (List ℕ)} {f k : ℕ} {room : ℕ → Type 0} {status : Status}
    (n most : ℕ) → n ≡ most → AnsweredAt n form t certificate left left_now i j is_steady a b f k room status → AnsweredAt most form t certificate left left_now i j is_steady a b f k room status
answered_by {form = form} {t = t} {certificate = certificate} {left = left} {left_now = left_now} {i = i} {j = j} {is_steady = is_steady} {a = a} {b = b} {f = f} {k = k} {room = room} {status = status} n most same answered =
    subst (λ (x : ℕ). AnsweredAt x form t certificate left left_now i j is_steady a b f k room status) same answered

-- the files were a case, which was answered
pub answered_ran : {limits : Limits} {form : Form} {content : ℕ → Option (List ℕ)} {faults_before faults_now : ℕ → ℕ} {files_steady : ℕ → Type 0} {left left_now : Option (List ℕ)} {i j : ℕ} {is_steady : Type 0}
    {a b : Option (List ℕ)} {f k : ℕ} {room : ℕ → Type 0} {status : Status} (t : Tables) (certificate : List ℕ)
    → ((file : ℕ → List ℕ) → AreFiles limits (Some form) content file → (case_in_files limits form file ≡ Ok t) × (certificate_in form file ≡ certificate)) → ((w : ℕ) → faults_now w ≡ faults_before w)
    → AnsweredAt limits.bytes form t certificate left left_now i j is_steady a b f k room status
    → RanAt limits (Some form) content faults_before faults_now files_steady left left_now i j is_steady a b f k room status
answered_ran {limits = limits} {form = form} t certificate is quiet ran = record {
  stated = λ told tells.
      let here = is told.file tells.files in
      ran.ends told (ap (λ (l : Limits). l.bytes) tells.limited) (of told tells.limited here.0) here.1 tells.input;
  complete = λ told tells files input has.
      let here = is told.file tells.files in
      ran.complete told (ap (λ (l : Limits). l.bytes) tells.limited) (of told tells.limited here.0) here.1 tells.input input has;
  statuses = ran.statuses;
  read = λ e. let failed = ran.read e in inr (record { takes = failed.0; rose = failed.1; files = quiet; case = λ file told. (t, (is file told).0) });
  write = ran.write;
  quiet_files = λ none. quiet;
  quiet_input = ran.quiet_input;
  quiet_output = ran.quiet_output;
  memory = ran.memory;
  memory_input = ran.memory_input;
  taken = ran.taken;
}
  where
    of : (told : Told) → told.limits ≡ limits → case_in_files limits form told.file ≡ Ok t → case_in_files told.limits form told.file ≡ Ok t
    of told same case = ap (λ (l : Limits). case_in_files l form told.file) same ∙ case

-- nothing of the input was taken, and the files were refused or couldn't be read
pub nothing_taken : {most : ℕ} {status : Status} (left : Option (List ℕ)) → (status ≡ InputFault) ⊎ (status ≡ ReadFault) ⊎ (status ≡ WriteFault) ⊎ (status ≡ NoMemory)
    → (input : List ℕ) → left ≡ Some input → IsTakenFront most input left status
nothing_taken {status = status} left stops input is = record {
  count = 0;
  rest = is;
  within = omega arith;
  bound = omega arith;
  all = λ e. not_for_files stops e;
  too_long = λ e. absurd (long stops e);
  refused = λ e. refl;
}
  where
    long : (status ≡ InputFault) ⊎ (status ≡ ReadFault) ⊎ (status ≡ WriteFault) ⊎ (status ≡ NoMemory) → status ≡ SessionTooLong → ⊥
    long (inl s) e = absurd cc
    long (inr (inl s)) e = absurd cc
    long (inr (inr (inl s))) e = absurd cc
    long (inr (inr (inr s))) e = absurd cc
