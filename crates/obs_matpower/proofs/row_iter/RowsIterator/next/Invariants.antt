use Rattle.std.proofs.Common.{◌≡◌, ◌+◌, ◌*◌, length}
use Rattle.obs_matpower.specs.inner.Left.{rows_left}
use Rattle.obs_matpower.proofs.row_iter.RowsIterator.next.Given as goal

abbrev pub invariant-loop-code : goal.invariant-loop-code
invariant-loop-code l = rows_left l.self ≡ rows_left l.fn.self

abbrev pub decreases-loop-code : goal.decreases-loop-code
decreases-loop-code l = length l.self.code.now + 2 * length l.self.rest.now
