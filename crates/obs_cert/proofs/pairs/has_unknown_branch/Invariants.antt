use Rattle.std.proofs.Common.{◌≡◌}
use Rattle.obs_cert.specs.Flaws.{unknown_branch}
use Rattle.obs_cert.proofs.pairs.has_unknown_branch.Given as goal

abbrev pub invariant-loop-pair : goal.invariant-loop-pair
invariant-loop-pair l = unknown_branch l.case l.pair-iterator ≡ unknown_branch l.case l.fn.pairs
