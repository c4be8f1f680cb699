use Rattle.std.proofs.Common.{◌∙◌, arith, ap, subst, sym, Err, inl, inr, refl, Some}
use Rattle.obs_engine.specs.Commands.{IsCaseReply}
use Rattle.obs_files.specs.Files.{case_in_files, certificate_in}
use Rattle.obs_files.specs.Limits.{Limits}
use Rattle.obs_files.specs.inner.Taken.{IsCaseError}
use Rattle.obs_engine.specs.Stated.{Tells, Told}
use Rattle.obs_engine.proofs.Commanded.{answered_by, answered_ran, nothing_taken}
use Rattle.obs_engine.proofs.Endings.{behind_of, complete_stated, ends_stated}
use Rattle.obs_engine.proofs.Replied.{nothing_before, refused_reply, stated_no_failure, stated_reply}
use Rattle.obs_files.proofs.Taking.{ok_not_read, read_is}
use Rattle.obs_engine.proofs.Generated.{generated_in_service}
use Rattle.obs_engine.proofs.Summed.{not_for_files}
use Rattle.obs_engine.proofs.command.command.Goals as goal

pub answer_case-requires-clause-inservice : goal.answer_case-requires-clause-inservice
answer_case-requires-clause-inservice g c = generated_in_service c.args.limits (g.F.Files.content c.args.files.now) c.args.form c.in-Ok.taken.case c.in-Ok.taken.certificate.items c.in-Ok.ensures.stated

pub answer_case-requires-clause-bound : goal.answer_case-requires-clause-bound
answer_case-requires-clause-bound g c =
    let same = c.bytes.ensures.bytes in
    let few = c.bytes.ensures.limits.few_bytes in
    omega (arith, same, few)

pub returns-in-Ok-clause-ran : goal.returns-in-Ok-clause-ran
returns-in-Ok-clause-ran g c = answered_ran c.in-Ok.taken.case c.deref.result.now (λ file told. let here = c.in-Ok.ensures.stated file told in (here.0, here.1 ∙ sym c.deref.ensures.value)) (c.in-Ok.ensures.quiet (ok_not_read _))
    (answered_by c.bytes.result c.args.limits.bytes c.bytes.ensures.bytes c.answer_case.ensures.answered)

pub returns-in-Ok-clause-summary : goal.returns-in-Ok-clause-summary
returns-in-Ok-clause-summary g c = λ whole. record {
  case = c.in-Ok.taken.case;
  read = λ file told. (c.in-Ok.ensures.stated file told).0;
  is = c.answer_case.ensures.summary whole;
}

pub returns-in-Err-clause-ran : goal.returns-in-Err-clause-ran
returns-in-Err-clause-ran g c =
    let form = c.args.form in
    let left = g.S.Source.left c.args.input.now in
    let refused = c.refuse_files.ensures in
    let taken = c.in-Err.ensures in
    let error : (told : Told) → Tells c.args.limits (Some form) (g.F.Files.content c.args.files.now) left told → IsCaseError (case_in_files told.limits form told.file) c.in-Err.why =
    λ told tells. subst (λ (l : Limits). IsCaseError (case_in_files l form told.file) c.in-Err.why) (sym tells.limited) (taken.stated told.file tells.files) in
    record {
      stated = λ told tells.
          let s = stated_reply form told in
          ends_stated (Some form) told left s.0 _ _ _ s.1 (stated_no_failure form told s.0 s.1)
          (behind_of _ _ _ _ _ (nothing_before form told left tells.input) (refused.ends _ s.0 (error told tells) (refused_reply (IsCaseReply told.limits.bytes form told.input (certificate_in form told.file)) (case_in_files told.limits form told.file) s.0 s.1)));
      complete = λ told tells files input has.
          let s = stated_reply form told in
          let fits = has s.0 s.1 in
          complete_stated (Some form) told s.0 _ _ _ s.1 (λ e. taken.steady files (ap Err (refused.read e)))
          (refused.room _ s.0 fits.0 (error told tells) (refused_reply (IsCaseReply told.limits.bytes form told.input (certificate_in form told.file)) (case_in_files told.limits form told.file) s.0 s.1) fits.1)
          _ (behind_of _ _ _ _ _ (nothing_before form told left tells.input) (refused.ends _ s.0 (error told tells) (refused_reply (IsCaseReply told.limits.bytes form told.input (certificate_in form told.file)) (case_in_files told.limits form told.file) s.0 s.1)));
      statuses = inr refused.statuses;
      read = λ e. inl (record { file = taken.read (ap Err (refused.read e)); input = refl; input_faults = refl; output = refused.unread e });
      write = refused.write;
      quiet_files = λ none w. taken.quiet (λ e. none (refused.unanswered (read_is _ e))) w;
      quiet_input = λ none. refl;
      quiet_output = refused.quiet;
      memory = refused.memory;
      memory_input = λ e. refl;
      taken = λ takes input is. nothing_taken left refused.statuses input is;
    }

pub returns-in-Err-clause-summary : goal.returns-in-Err-clause-summary
returns-in-Err-clause-summary g c = λ whole. not_for_files c.refuse_files.ensures.statuses whole
