use Rattle.std.proofs.Common.{rules}
use Rattle.std.specs.Prelude.{nat_lt}
use Rattle.std.proofs.lemmas.List.Sorted.{IsPartitionPoint-from_clause}
use Rattle.obs_network.proofs.Fronts.{parted_by}
use Rattle.obs_network.proofs.touching.count_below.Goals as goal

pub returns-clause-point : goal.returns-clause-point
returns-clause-point c =
    IsPartitionPoint-from_clause (λ e. nat_lt e c.args.bound) _ _ c.partition_point.ensures.partitioned (parted_by c.args.rising.now c.args.bound c.requires.rising) (λ a r q k. search rules)
