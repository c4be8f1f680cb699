use Rattle.std.proofs.Common.{refl, subst, Option, None}
use Rattle.obs_files.specs.declared.words.Form.{Form}
use Rattle.obs_engine.specs.Forms.{TakesInput}
use Rattle.obs_engine.specs.Summaries.{IsSummed}
use Rattle.obs_engine.proofs.Ran.{ran_at, usage_ran}
use Rattle.obs_engine.proofs.Summed.{not_for_words}
use Rattle.obs_engine.proofs.program.run_with_summary.Goals as goal

pub returns-in_default : goal.returns-in_default
returns-in_default g c =
    let refused = c.refuse_words.ensures in
    record {
      ran = ran_at _ None c.in_default.ensures.form (usage_ran refused.statuses refused.replied);
      input = λ none. refl;
      summary = λ whole. not_for_words refused.statuses whole;
    }

pub returns : goal.returns
returns g c =
    let form = c.in-Some.ensures.form in
    record {
      ran = ran_at _ _ form c.command.ensures.ran;
      input = λ none. c.command.ensures.input (λ takes. none (subst (λ (o : Option Form). TakesInput o) form takes));
      summary = λ whole. subst (λ (o : Option Form). IsSummed c.args.limits o (g.F.Files.content c.args.files.now) c.command.result.1) form (c.command.ensures.summary whole);
    }
