use Rattle.std.proofs.Common.{length}
use Rattle.obs_text.specs.Lines.{lines_of}
use Rattle.obs_bus_branch.proofs.SearchLemmas.{Searched}
use Rattle.obs_matpower.specs.inner.Table.{is_sought}
use Rattle.obs_matpower.proofs.find.find_line.Given as goal

abbrev pub invariant-loop-line : goal.invariant-loop-line
invariant-loop-line l = Searched (is_sought l.sought) l.bytes l.rest l.passed

abbrev pub decreases-loop-line : goal.decreases-loop-line
decreases-loop-line l = length (lines_of l.rest)
