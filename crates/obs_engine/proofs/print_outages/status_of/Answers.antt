use Rattle.std.proofs.Common.{◌∙◌, sym, ap}
use Rattle.obs_engine.specs.OutageReply.{are_met}
use Rattle.obs_engine.proofs.Studied.{outages_met, outages_short}
use Rattle.obs_engine.proofs.print_outages.status_of.Goals as goal

pub returns-then-are_met : goal.returns-then-are_met
returns-then-are_met c =
    let met = ap are_met (sym (c.found.ensures.found ∙ c.requires.found)) ∙ (sym c.are_met.ensures.met ∙ c.if-are_met.true) in
    record { status = outages_met c.args.case.now c.kept_verdict.result met c.kept_verdict.ensures.status }

pub returns-else-are_met : goal.returns-else-are_met
returns-else-are_met c =
    let met = ap are_met (sym (c.found.ensures.found ∙ c.requires.found)) ∙ (sym c.are_met.ensures.met ∙ c.if-are_met.false) in
    record { status = outages_short c.args.case.now met }
