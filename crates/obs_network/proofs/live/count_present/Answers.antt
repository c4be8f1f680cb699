use Rattle.std.proofs.Common.{◌∙◌, arith}
use Rattle.obs_network.proofs.Counted.{present_of_first}
use Rattle.obs_network.proofs.live.count_present.Goals as goal

pub returns : goal.returns
returns c =
    let end = c.min-e-end.ensures in
    let all = c.positions.ensures.count in
    record { count = c.loop-e.invariant.counted ∙ present_of_first c.args.graph.now.ends c.args.rows c.loop-e.e (omega (arith, end, all)) (omega (arith, end, all)) (λ less. omega (arith, end, all, less)) }
