use Rattle.std.proofs.Common.{arith}
use Rattle.obs_outage.proofs.Losing.{few_of, low_of}
use Rattle.obs_outage.proofs.dead.count_lost.Goals as goal

pub count_at-requires-clause-few : goal.count_at-requires-clause-few
count_at-requires-clause-few c =
    let few = c.requires.few_branches in
    omega (arith, few, few_of c.args.g.now.ends _ c.branches_at.result.now c.branches_at.ensures.branches)

pub count_at-requires-clause-low : goal.count_at-requires-clause-low
count_at-requires-clause-low c = low_of c.args.g.now.ends _ c.branches_at.result.now c.branches_at.ensures.branches
