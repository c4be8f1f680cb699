use Rattle.std.proofs.Common.{◌+◌, length, ap, subst, sym, Err, Option}
use Rattle.obs_files.specs.declared.status.Status.TheVariants.{NoMemory, ReadFault}
use Rattle.obs_files.specs.declared.words.Form.{Form}
use Rattle.obs_files.specs.Outside.{AreFiles, IsFileWord, ReadFailed}
use Rattle.obs_engine.specs.inner.Forms.{CanRefuse}
use Rattle.obs_engine.specs.Replies.{Reply}
use Rattle.obs_files.specs.Words.{file_words, offers}
use Rattle.obs_engine.proofs.Staying.{begins-counted, begins-other, begins-refused, begins-usage, no_read, no_write, refused_by_files, refuses, refuses-counted, status_is, usage_no_memory, usage_no_read, usage_of_others, usage_of_words}
use Rattle.obs_files.proofs.Taking.{ok_not_read, read_is}
use Rattle.obs_engine.proofs.stays.begin_session_within.Goals as goal

pub returns-in_default-clause-begins : goal.returns-in_default-clause-begins
returns-in_default-clause-begins g c = λ file told. begins-usage _ _ file c.refuse_words.result _ _ c.in_default.ensures.form c.refuse_words.ensures.replied.ends

pub returns-in_default-clause-room : goal.returns-in_default-clause-room
returns-in_default-clause-room g c = λ file told reply rest not has e.
    c.refuse_words.ensures.replied.room rest
    (subst (λ (r : Reply). g.W.Sink.has_room c.args.output.now (length r.text + rest)) (usage_of_words _ _ file reply c.in_default.ensures.form not) has) (status_is _ _ e)

pub returns-in_default-clause-statuses : goal.returns-in_default-clause-statuses
returns-in_default-clause-statuses g c = subst (λ (f : Option Form). CanRefuse (offers f) c.refuse_words.result) c.in_default.ensures.form c.refuse_words.ensures.statuses

pub returns-in_default-clause-unread : goal.returns-in_default-clause-unread
returns-in_default-clause-unread g c = λ e. absurd (usage_no_read _ c.refuse_words.ensures.statuses (status_is _ ReadFault e))

pub returns-in_default-clause-memory : goal.returns-in_default-clause-memory
returns-in_default-clause-memory g c = λ e. absurd (usage_no_memory _ c.refuse_words.ensures.statuses (status_is _ NoMemory e))

pub returns-in_default-clause-read : goal.returns-in_default-clause-read
returns-in_default-clause-read g c = λ e. absurd (usage_no_read _ c.refuse_words.ensures.statuses (status_is _ ReadFault e))

pub returns-in_default-clause-steady : goal.returns-in_default-clause-steady
returns-in_default-clause-steady g c = λ files e. usage_no_read _ c.refuse_words.ensures.statuses (status_is _ ReadFault e)

pub returns-in_default-clause-write : goal.returns-in_default-clause-write
returns-in_default-clause-write g c = λ e. c.refuse_words.ensures.replied.write (status_is _ _ e)

pub returns-in_default-clause-quiet_output : goal.returns-in_default-clause-quiet_output
returns-in_default-clause-quiet_output g c = λ none. c.refuse_words.ensures.replied.quiet (λ e. none (ap Err e))

pub returns-in_default-offers-clause-begins : goal.returns-in_default-offers-clause-begins
returns-in_default-offers-clause-begins g c = λ file told.
    begins-other _ _ _ file c.refuse_words-in_default-offers.result _ _ c.in-Some.ensures.form c.in_default-offers.ensures.offers c.refuse_words-in_default-offers.ensures.replied.ends

pub returns-in_default-offers-clause-room : goal.returns-in_default-offers-clause-room
returns-in_default-offers-clause-room g c = λ file told reply rest not has e.
    c.refuse_words-in_default-offers.ensures.replied.room rest
    (subst (λ (r : Reply). g.W.Sink.has_room c.args.output.now (length r.text + rest)) (usage_of_others _ _ _ file reply c.in-Some.ensures.form c.in_default-offers.ensures.offers not) has) (status_is _ _ e)

pub returns-in_default-offers-clause-statuses : goal.returns-in_default-offers-clause-statuses
returns-in_default-offers-clause-statuses g c = refuses _ _ _ _ c.in-Some.ensures.form c.in_default-offers.ensures.offers c.refuse_words-in_default-offers.ensures.statuses

pub returns-in_default-offers-clause-unread : goal.returns-in_default-offers-clause-unread
returns-in_default-offers-clause-unread g c = λ e. absurd (usage_no_read _ c.refuse_words-in_default-offers.ensures.statuses (status_is _ ReadFault e))

pub returns-in_default-offers-clause-memory : goal.returns-in_default-offers-clause-memory
returns-in_default-offers-clause-memory g c = λ e. absurd (usage_no_memory _ c.refuse_words-in_default-offers.ensures.statuses (status_is _ NoMemory e))

pub returns-in_default-offers-clause-read : goal.returns-in_default-offers-clause-read
returns-in_default-offers-clause-read g c = λ e. absurd (usage_no_read _ c.refuse_words-in_default-offers.ensures.statuses (status_is _ ReadFault e))

pub returns-in_default-offers-clause-steady : goal.returns-in_default-offers-clause-steady
returns-in_default-offers-clause-steady g c = λ files e. usage_no_read _ c.refuse_words-in_default-offers.ensures.statuses (status_is _ ReadFault e)

pub returns-in_default-offers-clause-write : goal.returns-in_default-offers-clause-write
returns-in_default-offers-clause-write g c = λ e. c.refuse_words-in_default-offers.ensures.replied.write (status_is _ _ e)

pub returns-in_default-offers-clause-quiet_output : goal.returns-in_default-offers-clause-quiet_output
returns-in_default-offers-clause-quiet_output g c = λ none. c.refuse_words-in_default-offers.ensures.replied.quiet (λ e. none (ap Err e))

pub returns-in-Ok-clause-begins : goal.returns-in-Ok-clause-begins
returns-in-Ok-clause-begins g c = λ file told.
    let here = subst (λ (f : Option Form). AreFiles c.args.limits f (g.F.Files.content c.args.files.now) file) (sym c.in-Some.ensures.form) told in
    begins-counted _ _ _ file _ c.in-Ok.taken.case c.begin_counted.result (g.W.Sink.written c.args.output.now) c.in-Some.ensures.form c.in-Some-offers.ensures.offers (c.in-Ok.ensures.stated file here).0
    c.begin_counted.ensures.case c.begin_counted.ensures.offered c.begin_counted.ensures.memory

pub returns-in-Ok-clause-room : goal.returns-in-Ok-clause-room
returns-in-Ok-clause-room g c = λ file told reply rest not has e. no_write c.begin_counted.result c.begin_counted.ensures.memory e

pub returns-in-Ok-clause-statuses : goal.returns-in-Ok-clause-statuses
returns-in-Ok-clause-statuses g c = refuses-counted _ _ _ c.begin_counted.result c.in-Some.ensures.form c.in-Some-offers.ensures.offers c.begin_counted.ensures.memory

pub returns-in-Ok-clause-unread : goal.returns-in-Ok-clause-unread
returns-in-Ok-clause-unread g c = λ e. absurd (no_read c.begin_counted.result c.begin_counted.ensures.memory e)

pub returns-in-Ok-clause-read : goal.returns-in-Ok-clause-read
returns-in-Ok-clause-read g c = λ e. absurd (no_read c.begin_counted.result c.begin_counted.ensures.memory e)

pub returns-in-Ok-clause-steady : goal.returns-in-Ok-clause-steady
returns-in-Ok-clause-steady g c = λ files e. no_read c.begin_counted.result c.begin_counted.ensures.memory e

pub returns-in-Ok-clause-quiet_files : goal.returns-in-Ok-clause-quiet_files
returns-in-Ok-clause-quiet_files g c = λ none w. c.in-Ok.ensures.quiet (ok_not_read _) w

pub returns-in-Ok-clause-write : goal.returns-in-Ok-clause-write
returns-in-Ok-clause-write g c = λ e. absurd (no_write c.begin_counted.result c.begin_counted.ensures.memory e)

pub returns-in-Err-clause-begins : goal.returns-in-Err-clause-begins
returns-in-Err-clause-begins g c = λ file told.
    let here = subst (λ (f : Option Form). AreFiles c.args.limits f (g.F.Files.content c.args.files.now) file) (sym c.in-Some.ensures.form) told in
    let refused = c.refuse_files.ensures in
    begins-refused _ _ _ file _ c.in-Err.why c.refuse_files.result _ _ c.in-Some.ensures.form c.in-Some-offers.ensures.offers (c.in-Err.ensures.stated file here)
    refused.ends refused.unanswered refused.unread refused.starved refused.memory

pub returns-in-Err-clause-room : goal.returns-in-Err-clause-room
returns-in-Err-clause-room g c = λ file told reply rest not has e.
    let here = subst (λ (f : Option Form). AreFiles c.args.limits f (g.F.Files.content c.args.files.now) file) (sym c.in-Some.ensures.form) told in
    c.refuse_files.ensures.room _ reply rest (c.in-Err.ensures.stated file here) (refused_by_files _ _ _ file _ reply c.in-Some.ensures.form c.in-Some-offers.ensures.offers not) has (status_is _ _ e)

pub returns-in-Err-clause-statuses : goal.returns-in-Err-clause-statuses
returns-in-Err-clause-statuses g c = refuses _ _ _ _ c.in-Some.ensures.form c.in-Some-offers.ensures.offers c.refuse_files.ensures.statuses

pub returns-in-Err-clause-unread : goal.returns-in-Err-clause-unread
returns-in-Err-clause-unread g c = λ e. c.refuse_files.ensures.unread (status_is _ _ e)

pub returns-in-Err-clause-memory : goal.returns-in-Err-clause-memory
returns-in-Err-clause-memory g c = λ e. c.refuse_files.ensures.memory (status_is _ _ e)

pub returns-in-Err-clause-read : goal.returns-in-Err-clause-read
returns-in-Err-clause-read g c = λ e.
    subst (λ (f : Option Form). ReadFailed c.args.limits (file_words f) (g.F.Files.content c.args.files.now) (g.F.Files.faults c.args.files.now) (g.F.Files.faults c.take_case.new.files)) c.in-Some.ensures.form
    (c.in-Err.ensures.read (ap Err (c.refuse_files.ensures.read (status_is _ _ e))))

pub returns-in-Err-clause-steady : goal.returns-in-Err-clause-steady
returns-in-Err-clause-steady g c = λ files e.
    c.in-Err.ensures.steady (λ w i. files w (subst (λ (f : Option Form). IsFileWord f w) c.in-Some.ensures.form i)) (ap Err (c.refuse_files.ensures.read (status_is _ _ e)))

pub returns-in-Err-clause-quiet_files : goal.returns-in-Err-clause-quiet_files
returns-in-Err-clause-quiet_files g c = λ none w. c.in-Err.ensures.quiet (λ e. none (ap Err (c.refuse_files.ensures.unanswered (read_is _ e)))) w

pub returns-in-Err-clause-write : goal.returns-in-Err-clause-write
returns-in-Err-clause-write g c = λ e. c.refuse_files.ensures.write (status_is _ _ e)

pub returns-in-Err-clause-quiet_output : goal.returns-in-Err-clause-quiet_output
returns-in-Err-clause-quiet_output g c = λ none. c.refuse_files.ensures.quiet (λ e. none (ap Err e))
