use Rattle.std.proofs.Common.{◌≡◌, length}
use Rattle.obs_matpower.specs.Rows.{values_of}
use Rattle.obs_matpower.proofs.value_iter.ValuesIterator.next.Given as goal

abbrev pub invariant-loop-value : goal.invariant-loop-value
invariant-loop-value l = values_of l.self.rest.now ≡ values_of l.fn.self.rest.now

abbrev pub decreases-loop-value : goal.decreases-loop-value
decreases-loop-value l = length l.self.rest.now
