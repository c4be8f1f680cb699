use Rattle.std.proofs.Common.{◌∙◌}
use Rattle.obs_engine.proofs.Summed.{crowded_of}
use Rattle.obs_engine.proofs.summary.count_crowded.Goals as goal

pub returns : goal.returns
returns c =
    let counted = c.count_injections.ensures in
    record { crowded = c.count_several.ensures.several ∙ crowded_of c.args.case.now c.count_injections.new.counts counted.buses counted.counts }
