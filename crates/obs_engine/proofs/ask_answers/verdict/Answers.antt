use Rattle.std.proofs.Common.{◌∙◌, sym}
use Rattle.obs_engine.proofs.OfNetwork.{verdict_done, verdict_short}
use Rattle.obs_engine.proofs.ask_answers.verdict.Goals as goal

pub returns-then-state : goal.returns-then-state
returns-then-state c = record { status = verdict_done c.args.session.now.tables (sym c.state-state.ensures.computed ∙ (c.if-state.true ∙ c.state-state.ensures.needed)) }

pub returns-else-state : goal.returns-else-state
returns-else-state c =
    record { status = verdict_short c.args.session.now.tables (λ e. c.if-state.false (c.state-state.ensures.computed ∙ (e ∙ sym c.state-state.ensures.needed))) }
