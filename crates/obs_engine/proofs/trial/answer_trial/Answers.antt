use Rattle.std.proofs.Common.{◌∙◌, ap, arith, subst, ℕ}
use Rattle.obs_case.specs.Tables.{Tables}
use Rattle.obs_engine.specs.Asks.{report_status}
use Rattle.obs_engine.specs.inner.Replies.{RepliedAt}
use Rattle.obs_engine.specs.Trials.{trial_reply}
use Rattle.obs_engine.specs.inner.Turns.{AreSearches}
use Rattle.obs_engine.proofs.Asked.{appends_as}
use Rattle.obs_engine.proofs.Replied.{replied_verdict, report_status-is}
use Rattle.obs_engine.proofs.Turned.{rose_by, searches_are, trial_is}
use Rattle.obs_engine.proofs.trial.answer_trial.Goals as goal

pub returns : goal.returns
returns g c =
    let t = c.args.session.now.tables in
    let turned = c.turn_meters-turns.ensures in
    let searches = c.turn_meters-turns.result.searches in
    let rose = rose_by c.args.steps.now c.turn_meters-turns.new.steps searches turned.ticks in
    let text = trial_is c.args.rows c.args.seed t c.turn_meters-turns.new.session.tables c.args.islands c.turn_meters-turns.result.dips searches turned.tables c.requires.islands turned.dips in
    record {
      later = omega (arith, turned.ticks);
      searches = subst (λ (k : ℕ). AreSearches c.args.session.now c.turn_meters-turns.new.session k) rose
          (searches_are c.args.session.now c.turn_meters-turns.new.session c.turn_meters-turns.result.dips searches turned.turns turned.dips turned.least turned.most);
      replied = subst (λ (k : ℕ). RepliedAt (g.W.Sink.written c.args.output.now) (g.W.Sink.written c.print_turns.new.output) (g.W.Sink.faults c.args.output.now) (g.W.Sink.faults c.print_turns.new.output) (g.W.Sink.has_room c.args.output.now) c.printed_status.result (trial_reply c.args.rows c.args.seed t k)) rose
          (replied_verdict (trial_reply c.args.rows c.args.seed t searches) c.print_turns.result c.verdict-status.result c.printed_status.result c.printed_status.ensures.status
          (c.verdict-status.ensures.status ∙ ap (λ (x : Tables). report_status x) turned.tables) (report_status-is t) (appends_as text c.print_turns.ensures.appends));
    }
