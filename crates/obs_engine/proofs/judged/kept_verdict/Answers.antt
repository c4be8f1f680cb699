use Rattle.std.proofs.Common.{◌∙◌, sym, ap}
use Rattle.obs_network.specs.Network.{Network}
use Rattle.obs_engine.proofs.OfNetwork.{verdict_done, verdict_short}
use Rattle.obs_engine.proofs.Studied.{kept_rank}
use Rattle.obs_engine.proofs.judged.kept_verdict.Goals as goal

pub returns-then-length-needed : goal.returns-then-length-needed
returns-then-length-needed c =
    let t = c.args.case.now in
    let seen = sym (kept_rank t c.args.pairs.now c.nodes-nodes.ensures.valid c.requires.longest) ∙ sym c.length.ensures.length in
    let need = c.needed.ensures.needed ∙ ap (λ (n : Network). n.needed) c.requires.network in
    record { status = verdict_done t (seen ∙ (c.if-length-needed.true ∙ need)) }

pub returns-else-length-needed : goal.returns-else-length-needed
returns-else-length-needed c =
    let t = c.args.case.now in
    let seen = sym (kept_rank t c.args.pairs.now c.nodes-nodes.ensures.valid c.requires.longest) ∙ sym c.length.ensures.length in
    let need = c.needed.ensures.needed ∙ ap (λ (n : Network). n.needed) c.requires.network in
    record { status = verdict_short t (λ e. c.if-length-needed.false (sym seen ∙ (e ∙ sym need))) }
