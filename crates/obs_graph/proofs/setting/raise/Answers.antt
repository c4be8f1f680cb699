use Rattle.std.proofs.Common.{◌+◌, arith}
use Rattle.std.proofs.lemmas.List.{get_or_default}
use Rattle.std.proofs.lemmas.List.Edits.{map_over_more}
use Rattle.obs_graph.proofs.setting.raise.Goals as goal

pub loop-number-preserved : goal.loop-number-preserved
loop-number-preserved c = map_over_more (λ n. n + 1) c.args.numbers.now c.loop-number.numbers c.loop-number.number-index _ (omega arith) c.loop-number.invariant (get_or_default c.loop-number.numbers c.loop-number.number-index 0 _ (omega arith))
