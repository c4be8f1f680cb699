-- A session that stays: how it begins, and that it answers what a run answers.
use Rattle.std.proofs.Common.{ℕ, ◌≡◌, ◌∙◌, ◌≤◌, ◌⊎◌, inl, inr, refl, sym, ap, subst, arith, All, Bool, true, false, List, [], ◌∷◌, ◌++◌, length, map, zero, suc, Option, None, Some, Result, Ok, Err}
use Rattle.std.proofs.lemmas.Bool.{cases_Bool}
use Rattle.std.proofs.lemmas.Bool.Decides.{nat_tests}
use Rattle.std.proofs.lemmas.List.Elements.{All-head, All-tail}
use Rattle.std.specs.Prelude.{IfErr, IfOk, IsErrOf, nat_lt}
use Rattle.obs_case.specs.declared.rows.Branch.{Branch}
use Rattle.obs_case.specs.declared.rows.Meter.{Meter}
use Rattle.obs_case.specs.declared.rows.Switch.{Switch}
use Rattle.obs_case.specs.Flags.{changed_at}
use Rattle.obs_case.specs.Tables.{Tables, branch_names, meter_names, position_of, switch_names}
use Rattle.obs_network.specs.Network.{case_needed}
use Rattle.obs_network.specs.Observable.{case_rank}
use Rattle.obs_report.specs.Lines.{ok_line}
use Rattle.obs_script.specs.declared.fault.LineFault.{LineFault}
use Rattle.obs_script.specs.Commands.{Said, asks, closes, command_of, loses, opens, regains, restores, trips}
use Rattle.obs_script.specs.Gathered.{is_comment}
use Rattle.obs_script.proofs.LineLemmas.{ended_line}
use Rattle.obs_text.specs.Faults.{Fault}
use Rattle.obs_text.specs.inner.Faults.{fault_of}
use Rattle.obs_text.specs.Lines.{lines_of}
use Rattle.obs_repair.specs.declared.edit.Edit.{Edit}
use Rattle.obs_repair.specs.declared.edit.Edit.TheVariants as edit
use Rattle.obs_repair.specs.declared.edit.Meant.{Meant}
use Rattle.obs_repair.specs.declared.edit.Meant.TheVariants.{Edits, Asks}
use Rattle.obs_repair.specs.declared.edit.Refusal.{Refusal}
use Rattle.obs_repair.specs.declared.edit.Refusal.TheVariants.{UnknownSwitch, UnknownBranch, UnknownMeter}
use Rattle.obs_repair.specs.Edits.{edited}
use Rattle.obs_repair.specs.Lines.{edit_at, meant_by, meant_of}
use Rattle.obs_edit.specs.Sessions.{Session as Kept}
use Rattle.obs_files.specs.declared.status.Status.{Status}
use Rattle.obs_files.specs.declared.status.Status.TheVariants.{Done, Short, Usage, ReadFault, WriteFault, NoMemory}
use Rattle.obs_files.specs.declared.taken.CaseError.{CaseError}
use Rattle.obs_files.specs.declared.taken.CaseError.TheVariants.{Refused, Read, NoMemory as NoMemoryForIt}
use Rattle.obs_files.specs.declared.words.CaseCommand.TheVariants.{Report, Place, Session, Verify, Study as StudyOf}
use Rattle.obs_files.specs.declared.words.Form.{Form}
use Rattle.obs_files.specs.declared.words.Form.TheVariants.{Topology, Case, Trial}
use Rattle.obs_engine.specs.Asks.{report_status}
use Rattle.obs_engine.specs.Commands.{IsCaseReply}
use Rattle.obs_files.specs.Files.{case_in_files, certificate_in}
use Rattle.obs_engine.specs.inner.Forms.{CanRefuse}
use Rattle.obs_engine.specs.Lines.{answer_to, case_after, line_case, line_text, lines_case, lines_text}
use Rattle.obs_engine.specs.Replies.{IsReplyTo, Reply, fault_reply, usage_reply}
use Rattle.obs_engine.specs.inner.Replies.{EndsWith, IsRefused}
use Rattle.obs_engine.specs.Sessions.{session_reply}
use Rattle.obs_engine.specs.Stays.{AnswersAsRun, IsBegun, IsContent, IsNotBegun, RefusesAsRun, as_one, input_of, line_replies, line_reply}
use Rattle.obs_engine.specs.inner.Stays.{Begins, CanBeSaidAgain}
use Rattle.obs_files.specs.Limits.{Limits}
use Rattle.obs_files.specs.Words.{offers}
use Rattle.obs_files.specs.inner.Taken.{IsCaseError}
use Rattle.obs_engine.proofs.Folding.{is_whole}
use Rattle.obs_engine.proofs.Lined.{passed_case, said_case, said_text}
use Rattle.obs_engine.proofs.Replied.{report_status-is}

-- a session that was begun with the case of its files, or found no memory
pub begins-counted : (limits : Limits) (form : Option Form) (x : Form) (file : ℕ → List ℕ) (offered : Bool) (t : Tables) (result : Result Kept Status) (a : Option (List ℕ))
    → Some x ≡ form → Some offered ≡ offers (Some x) → case_in_files limits x file ≡ Ok t
    → IfOk result (λ s. s.tables ≡ t) → IfOk result (λ s. s.offered ≡ offered) → IfErr result (λ status. status ≡ NoMemory) → Begins limits form file result a a
begins-counted limits form x file offered t (Ok s) a is some case tables offered_is memory =
    subst (λ (f : Option Form). IsBegun limits f file s.offered s.tables) is (sym some ∙ ap Some (sym offered_is), case ∙ ap Ok (sym tables))
begins-counted limits form x file offered t (Err status) a is some case tables offered_is memory = inr (inr memory, refl)

-- words that have no form, or none of a session
pub begins-usage : (limits : Limits) (form : Option Form) (file : ℕ → List ℕ) (status : Status) (a b : Option (List ℕ)) → None ≡ form → EndsWith usage_reply status a b → Begins limits form file (Err status) a b
begins-usage limits form file status a b is ends = subst (λ (f : Option Form). Begins limits f file (Err status) a b) is (inl (usage_reply, refl, ends))

pub begins-other : (limits : Limits) (form : Option Form) (x : Form) (file : ℕ → List ℕ) (status : Status) (a b : Option (List ℕ)) → Some x ≡ form → None ≡ offers (Some x) → EndsWith usage_reply status a b
    → Begins limits form file (Err status) a b
begins-other limits form x file status a b is none ends = subst (λ (f : Option Form). Begins limits f file (Err status) a b) is (inl (usage_reply, inl (sym none, refl), ends))

-- files from which nothing was taken
pub begins-refused : (limits : Limits) (form : Option Form) (x : Form) (file : ℕ → List ℕ) (offered : Bool) (why : CaseError) (status : Status) (a b : Option (List ℕ))
    → Some x ≡ form → Some offered ≡ offers (Some x) → IsCaseError (case_in_files limits x file) why
    → ((stated : Result Tables Fault) (reply : Reply) → IsCaseError stated why → IsRefused stated reply → EndsWith reply status a b)
    → (why ≡ Read → status ≡ ReadFault) → (status ≡ ReadFault → b ≡ a) → (why ≡ NoMemoryForIt → status ≡ NoMemory) → (status ≡ NoMemory → b ≡ a)
    → Begins limits form file (Err status) a b
begins-refused limits form x file offered (Refused fault) status a b is some stated ends read unread starved memory =
    subst (λ (f : Option Form). Begins limits f file (Err status) a b) is
    (let reply = fault_reply (fault_of fault) in
    inl (reply, inr (offered, fault_of fault, sym some, stated, refl), ends (case_in_files limits x file) reply stated (subst (λ (r : Result Tables Fault). IsRefused r reply) (sym stated) refl)))
begins-refused limits form x file offered Read status a b is some stated ends read unread starved memory = inr (inl (read refl), unread (read refl))
begins-refused limits form x file offered NoMemoryForIt status a b is some stated ends read unread starved memory = inr (inr (starved refl), memory (starved refl))

-- with which statuses none begins
pub refuses : (form : Option Form) (x : Form) (o : Option Bool) (status : Status) → Some x ≡ form → o ≡ offers (Some x) → CanRefuse o status → CanRefuse (offers form) status
refuses form x o status is said can = subst (λ (f : Option Form). CanRefuse (offers f) status) is (subst (λ (p : Option Bool). CanRefuse p status) said can)

pub refuses-counted : (form : Option Form) (x : Form) (offered : Bool) (result : Result Kept Status) → Some x ≡ form → Some offered ≡ offers (Some x)
    → IfErr result (λ status. status ≡ NoMemory) → IfErr result (CanRefuse (offers form))
refuses-counted form x offered (Ok s) is said memory = tt
refuses-counted form x offered (Err status) is said memory = refuses form x (Some offered) status is said (inr (inr (inr memory)))

-- which reply is stated where none begins
pub usage_of_words : (limits : Limits) (form : Option Form) (file : ℕ → List ℕ) (reply : Reply) → None ≡ form → IsNotBegun limits form file reply → reply ≡ usage_reply
usage_of_words limits form file reply is not = subst (λ (f : Option Form). IsNotBegun limits f file reply) (sym is) not

pub usage_of_others : (limits : Limits) (form : Option Form) (x : Form) (file : ℕ → List ℕ) (reply : Reply) → Some x ≡ form → None ≡ offers (Some x) → IsNotBegun limits form file reply → reply ≡ usage_reply
usage_of_others limits form x file reply is none not = by (offers (Some x)) none (subst (λ (f : Option Form). IsNotBegun limits f file reply) (sym is) not)
  where
    by : (o : Option Bool) → None ≡ o → ((o ≡ None) × (reply ≡ usage_reply)) ⊎ ((offered : Bool) × (fault : Fault) × (o ≡ Some offered) × (case_in_files limits x file ≡ Err fault) × (reply ≡ fault_reply fault)) → reply ≡ usage_reply
    by o none (inl (e, same)) = same
    by o none (inr (offered, fault, e, case, is)) = absurd cc

pub refused_by_files : (limits : Limits) (form : Option Form) (x : Form) (file : ℕ → List ℕ) (offered : Bool) (reply : Reply) → Some x ≡ form → Some offered ≡ offers (Some x) → IsNotBegun limits form file reply
    → IsRefused (case_in_files limits x file) reply
refused_by_files limits form x file offered reply is some not = by (offers (Some x)) some (subst (λ (f : Option Form). IsNotBegun limits f file reply) (sym is) not)
  where
    by : (o : Option Bool) → Some offered ≡ o → ((o ≡ None) × (reply ≡ usage_reply)) ⊎ ((offered : Bool) × (fault : Fault) × (o ≡ Some offered) × (case_in_files limits x file ≡ Err fault) × (reply ≡ fault_reply fault)) → IsRefused (case_in_files limits x file) reply
    by o some (inl (e, same)) = absurd cc
    by o some (inr (p, fault, e, case, same)) = subst (λ (r : Result Tables Fault). IsRefused r reply) (sym case) same

-- a refusal of words isn't one for want of memory, nor a read that failed
pub usage_no_memory : (status : Status) → (status ≡ Usage) ⊎ (status ≡ WriteFault) → status ≡ NoMemory → ⊥
usage_no_memory status (inl u) e = absurd cc
usage_no_memory status (inr w) e = absurd cc

pub usage_no_read : (status : Status) → (status ≡ Usage) ⊎ (status ≡ WriteFault) → status ≡ ReadFault → ⊥
usage_no_read status (inl u) e = absurd cc
usage_no_read status (inr w) e = absurd cc

-- the status of an error
pub status_is : {T : Type 0} (status other : Status) → IsErrOf {T = T} (Err status) other → status ≡ other
status_is status other e = cc

-- what a call that only lacks memory doesn't answer
pub no_read : (result : Result Kept Status) → IfErr result (λ status. status ≡ NoMemory) → IsErrOf result ReadFault → ⊥
no_read (Ok s) memory e = absurd cc
no_read (Err status) memory e = absurd cc

pub no_write : (result : Result Kept Status) → IfErr result (λ status. status ≡ NoMemory) → IsErrOf result WriteFault → ⊥
no_write (Ok s) memory e = absurd cc
no_write (Err status) memory e = absurd cc

-- the status of a line says nothing of memory
pub line_no_memory : (t : Tables) (status : Status) → (status ≡ report_status t) ⊎ (status ≡ WriteFault) → status ≡ NoMemory → ⊥
line_no_memory t status (inl same) e = by (report_status-is t)
  where
    by : (report_status t ≡ Done) ⊎ (report_status t ≡ Short) → ⊥
    by (inl d) = absurd (clash (sym same ∙ e) d)
      where
        clash : {s : Status} → s ≡ NoMemory → s ≡ Done → ⊥
        clash a b = absurd cc
    by (inr d) = absurd (clash (sym same ∙ e) d)
      where
        clash : {s : Status} → s ≡ NoMemory → s ≡ Short → ⊥
        clash a b = absurd cc
line_no_memory t status (inr failed) e = absurd cc

-- the replies to lines as one are the answers to all of them
as_one-is : (o : Bool) (t : Tables) (lines : List (List ℕ))
    → as_one (report_status t) (line_replies o t lines) ≡ record { status = report_status (lines_case o t lines); text = lines_text o t lines }
as_one-is o t [] = refl
as_one-is o t (line ∷ lines) = ap (λ (r : Reply). record { status = r.status; text = line_text o t line ++ r.text }) (as_one-is o (line_case o t line) lines)

-- the lines of their input are they
lines-of_input : (lines : List (List ℕ)) → All IsContent lines → lines_of (input_of lines) ≡ lines
lines-of_input [] all = refl
lines-of_input (line ∷ lines) all =
    let here = All-head IsContent line lines all in
    ended_line line (input_of lines) here.feed
    ∙ (ap (λ (x : List ℕ). x ∷ lines_of (input_of lines)) here.return ∙ ap (λ (ls : List (List ℕ)). line ∷ ls) (lines-of_input lines (All-tail IsContent line lines all)))

not_longer : (most n : ℕ) → n ≤ most → nat_lt most n ≡ false
not_longer most n short = grind (arith, nat_tests)

whole-of_lines : (most : ℕ) (o : Bool) (t : Tables) (lines : List (List ℕ)) → All IsContent lines → length (input_of lines) ≤ most
    → as_one (report_status t) (line_replies o t lines) ≡ session_reply most o t (input_of lines)
whole-of_lines most o t lines all short =
    as_one-is o t lines
    ∙ (ap (λ (ls : List (List ℕ)). record { status = report_status (lines_case o t ls); text = lines_text o t ls }) (sym (lines-of_input lines all))
    ∙ sym (is_whole o t (input_of lines) most (not_longer most (length (input_of lines)) short)))

pub AnswersAsRun-holds : AnswersAsRun
AnswersAsRun-holds limits None file o t lines begun all short = absurd begun
AnswersAsRun-holds limits (Some Topology) file o t lines (e, case) all short = absurd (cc e)
AnswersAsRun-holds limits (Some (Case Report from)) file o t lines (e, case) all short = absurd (cc e)
AnswersAsRun-holds limits (Some (Case Place from)) file o t lines (e, case) all short = absurd (cc e)
AnswersAsRun-holds limits (Some (Case (Verify offered) from)) file o t lines (e, case) all short = absurd (cc e)
AnswersAsRun-holds limits (Some (Case (StudyOf study) from)) file o t lines (e, case) all short = absurd (cc e)
AnswersAsRun-holds limits (Some (Trial rows seed)) file o t lines (e, case) all short = absurd (cc e)
AnswersAsRun-holds limits (Some (Case (Session offered) from)) file o t lines (e, case) all short =
    let form = Case (Session offered) from in
    let reply = as_one (report_status t) (line_replies o t lines) in
    let same : offered ≡ o = cc e in
    subst (λ (r : Result Tables Fault). IsReplyTo (IsCaseReply limits.bytes form (input_of lines) (certificate_in form file)) r reply) (sym case)
    (whole-of_lines limits.bytes o t lines all short ∙ ap (λ (x : Bool). session_reply limits.bytes x t (input_of lines)) (sym same))

pub RefusesAsRun-holds : RefusesAsRun
RefusesAsRun-holds limits None file input reply kind not = not
RefusesAsRun-holds limits (Some form) file input reply (inl e) not = absurd (cc e)
RefusesAsRun-holds limits (Some form) file input reply (inr (o, e)) (inl (none, is)) = absurd (clash (offers (Some form)) none e)
  where
    clash : (x : Option Bool) → x ≡ None → x ≡ Some o → ⊥
    clash x a b = absurd cc
RefusesAsRun-holds limits (Some form) file input reply (inr (o, e)) (inr (p, fault, f, case, is)) =
    subst (λ (r : Result Tables Fault). IsReplyTo (IsCaseReply limits.bytes form input (certificate_in form file)) r reply) (sym case) is

-- a row that is changed keeps its name, and may be changed again
module _ {A : Type 0} (change : A → A) where
  changed-names : (name : A → List ℕ) → ((x : A) → name (change x) ≡ name x) → (at : ℕ) (rows : List A) → map name (changed_at change at rows) ≡ map name rows
  unfolding changed_at
  changed-names name same at [] = refl
  changed-names name same zero (row ∷ rows) = ap (λ (x : List ℕ). x ∷ map name rows) (same row)
  changed-names name same (suc at) (row ∷ rows) = ap (λ (xs : List (List ℕ)). name row ∷ xs) (changed-names name same at rows)

  changed-twice : ((x : A) → change (change x) ≡ change x) → (at : ℕ) (rows : List A) → changed_at change at (changed_at change at rows) ≡ changed_at change at rows
  unfolding changed_at
  changed-twice same at [] = refl
  changed-twice same zero (row ∷ rows) = ap (λ (x : A). x ∷ rows) (same row)
  changed-twice same (suc at) (row ∷ rows) = ap (λ (xs : List A). row ∷ xs) (changed-twice same at rows)

-- an edit that is made again changes nothing more
edited-twice : (t : Tables) (e : Edit) → edited (edited t e) e ≡ edited t e
edited-twice t (edit.Switch at closed) =
    ap (λ (rows : List Switch). record t { switches = rows }) (changed-twice (λ (row : Switch). record row { closed = closed }) (λ x. refl) at t.switches)
edited-twice t (edit.Branch at inservice) =
    ap (λ (rows : List Branch). record t { branches = rows }) (changed-twice (λ (row : Branch). record row { inservice = inservice }) (λ x. refl) at t.branches)
edited-twice t (edit.Meter at inservice) =
    ap (λ (rows : List Meter). record t { meters = rows }) (changed-twice (λ (row : Meter). record row { inservice = inservice }) (λ x. refl) at t.meters)

-- the names stay, so a line means behind an edit what it meant before it
switches-named : (t : Tables) (e : Edit) → switch_names (edited t e) ≡ switch_names t
switches-named t (edit.Switch at closed) = changed-names (λ (row : Switch). record row { closed = closed }) (λ (row : Switch). row.name) (λ x. refl) at t.switches
switches-named t (edit.Branch at inservice) = refl
switches-named t (edit.Meter at inservice) = refl

branches-named : (t : Tables) (e : Edit) → branch_names (edited t e) ≡ branch_names t
branches-named t (edit.Switch at closed) = refl
branches-named t (edit.Branch at inservice) = changed-names (λ (row : Branch). record row { inservice = inservice }) (λ (row : Branch). row.name) (λ x. refl) at t.branches
branches-named t (edit.Meter at inservice) = refl

meters-named : (t : Tables) (e : Edit) → meter_names (edited t e) ≡ meter_names t
meters-named t (edit.Switch at closed) = refl
meters-named t (edit.Branch at inservice) = refl
meters-named t (edit.Meter at inservice) = changed-names (λ (row : Meter). record row { inservice = inservice }) (λ (row : Meter). row.name) (λ x. refl) at t.meters

meant-edited : (t : Tables) (o : Bool) (e : Edit) (said : Result Said LineFault) → meant_by (edited t e) o said ≡ meant_by t o said
meant-edited t o e (Err fault) = refl
meant-edited t o e (Ok (opens name)) = ap (λ (names : List (List ℕ)). edit_at (position_of names name) (λ at. edit.Switch at false) UnknownSwitch) (switches-named t e)
meant-edited t o e (Ok (closes name)) = ap (λ (names : List (List ℕ)). edit_at (position_of names name) (λ at. edit.Switch at true) UnknownSwitch) (switches-named t e)
meant-edited t o e (Ok (trips name)) = ap (λ (names : List (List ℕ)). edit_at (position_of names name) (λ at. edit.Branch at false) UnknownBranch) (branches-named t e)
meant-edited t o e (Ok (restores name)) = ap (λ (names : List (List ℕ)). edit_at (position_of names name) (λ at. edit.Branch at true) UnknownBranch) (branches-named t e)
meant-edited t o e (Ok (loses name)) = ap (λ (names : List (List ℕ)). edit_at (position_of names name) (λ at. edit.Meter at false) UnknownMeter) (meters-named t e)
meant-edited t o e (Ok (regains name)) = ap (λ (names : List (List ℕ)). edit_at (position_of names name) (λ at. edit.Meter at true) UnknownMeter) (meters-named t e)
meant-edited t o e (Ok (asks ask)) = refl

-- a line that is said again
module _ (o : Bool) (t : Tables) (line : List ℕ) where
  abbrev SaidAgain : Type 0
  SaidAgain = (line_case o (line_case o t line) line ≡ line_case o t line) × (line_reply o (line_case o t line) line ≡ line_reply o t line)

  unchanged : line_case o t line ≡ t → SaidAgain
  unchanged same = (ap (λ (x : Tables). line_case o x line) same, ap (λ (x : Tables). line_reply o x line) same)

  changed : (e : Edit) → is_comment line ≡ false → meant_of t o line ≡ Ok (Edits e) → SaidAgain
  changed e said meant =
      let u = line_case o t line in
      let is : u ≡ edited t e = said_case o t line said ∙ ap (λ (m : Result Meant Refusal). case_after t m) meant in
      let again : meant_of u o line ≡ Ok (Edits e) = ap (λ (x : Tables). meant_of x o line) is ∙ (meant-edited t o e (command_of line) ∙ meant) in
      let twice : edited u e ≡ edited t e = ap (λ (x : Tables). edited x e) is ∙ edited-twice t e in
      let case : line_case o u line ≡ u = said_case o u line said ∙ (ap (λ (m : Result Meant Refusal). case_after u m) again ∙ (twice ∙ sym is)) in
      let text : line_text o u line ≡ line_text o t line =
      said_text o u line said
      ∙ (ap (λ (m : Result Meant Refusal). answer_to u m) again
      ∙ (ap (λ (x : Tables). ok_line (case_rank x) (case_needed x)) twice
      ∙ (sym (ap (λ (m : Result Meant Refusal). answer_to t m) meant) ∙ sym (said_text o t line said)))) in
      (case, ap (λ (x : Tables). record { status = report_status x; text = line_text o u line }) case ∙ ap (λ (x : List ℕ). record { status = report_status u; text = x }) text)

  again-by : (m : Result Meant Refusal) → meant_of t o line ≡ m → is_comment line ≡ false → SaidAgain
  again-by (Ok (Edits e)) meant said = changed e said meant
  again-by (Ok (Asks ask)) meant said = unchanged (said_case o t line said ∙ ap (λ (m : Result Meant Refusal). case_after t m) meant)
  again-by (Err why) meant said = unchanged (said_case o t line said ∙ ap (λ (m : Result Meant Refusal). case_after t m) meant)

pub CanBeSaidAgain-holds : CanBeSaidAgain
CanBeSaidAgain-holds o t line = elim (cases_Bool (is_comment line)) [
  | inl e ↦ unchanged o t line (passed_case o t line e)
  | inr e ↦ again-by o t line (meant_of t o line) refl e
]
