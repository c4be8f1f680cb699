use Rattle.std.proofs.Common.{◌≡◌, take, count_by}
use Rattle.std.specs.Prelude.{◌==◌}
use Rattle.obs_switch.proofs.regroup.count_of.Given as goal

abbrev pub invariant-loop-k : goal.invariant-loop-k
invariant-loop-k l = l.count ≡ count_by (λ x. x == l.key) (take l.k-index l.keys)
