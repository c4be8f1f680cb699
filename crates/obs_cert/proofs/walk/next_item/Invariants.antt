use Rattle.std.proofs.Common.{◌≡◌, length}
use Rattle.obs_cert.specs.inner.Walked.{items_of_sort, lines_in, parts_in}
use Rattle.obs_cert.proofs.walk.next_item.Given as goal

abbrev pub invariant-loop-line : goal.invariant-loop-line
invariant-loop-line l = items_of_sort l.sort (parts_in l.rest) ≡ items_of_sort l.fn.sort (parts_in l.bytes)

abbrev pub decreases-loop-line : goal.decreases-loop-line
decreases-loop-line l = length (lines_in l.rest)
