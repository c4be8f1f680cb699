use Rattle.std.proofs.Common.{not, eqb, get_or, arith}
use Rattle.obs_graph.proofs.Counts.{count_below-le-n}
use Rattle.obs_graph.proofs.rank.count_moved.Goals as goal

pub overflow_add-count : goal.overflow_add-count
overflow_add-count c = omega (arith, count_below-le-n (λ v. not (eqb (get_or c.args.piece.now v 0) v)) c.loop-v.v)
