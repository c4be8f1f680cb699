use Rattle.std.proofs.Common.{rules, sym, ltb}
use Rattle.std.proofs.lemmas.List.Sorted.{IsPartitionPoint-from_clause}
use Rattle.obs_graph.proofs.LaidParts.{count_at_point}
use Rattle.obs_graph.proofs.setting.place_in.Goals as goal

pub returns-clause-place : goal.returns-clause-place
returns-clause-place c =
    let point = IsPartitionPoint-from_clause (λ p. ltb p c.args.i) _ _ c.partition_point.ensures.partitioned c.requires.parted (λ a r q k. search rules) in
    sym (count_at_point (λ p. ltb p c.args.i) _ _ c.partition_point.ensures.bound point)
