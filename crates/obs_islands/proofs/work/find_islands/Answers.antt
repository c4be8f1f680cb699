use Rattle.std.proofs.Common.{arith}
use Rattle.obs_islands.proofs.Remaining.{most_items}
use Rattle.obs_islands.proofs.work.find_islands.Goals as goal

pub regrow-requires-clause-most : goal.regrow-requires-clause-most
regrow-requires-clause-most g c = λ B b. let few = most_items c.args.g.now.ends c.args.ms.now.touches B b in omega (arith, few, c.count.ensures.count)
