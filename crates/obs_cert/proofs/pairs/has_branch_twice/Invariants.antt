use Rattle.obs_matroid.specs.Assignments.{branches}
use Rattle.obs_cert.specs.Numbered.{pairs_of}
use Rattle.obs_cert.proofs.MarkLemmas.{Seeing}
use Rattle.obs_cert.proofs.pairs.has_branch_twice.Given as goal

abbrev pub invariant-loop-pair : goal.invariant-loop-pair
invariant-loop-pair l = Seeing (branches (pairs_of l.case l.fn.pairs)) (branches (pairs_of l.case l.pair-iterator)) l.twice l.stamp l.marks
