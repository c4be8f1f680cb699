use Rattle.std.proofs.Common.{◌≡◌, length}
use Rattle.obs_matpower.specs.Lines.{without_gaps}
use Rattle.obs_matpower.proofs.cut.without_gaps.Given as goal

abbrev pub invariant-loop-rest : goal.invariant-loop-rest
invariant-loop-rest l = without_gaps l.rest ≡ without_gaps l.bytes

abbrev pub decreases-loop-rest : goal.decreases-loop-rest
decreases-loop-rest l = length l.rest
