use Rattle.std.proofs.Common.{◌≡◌, ◌≤◌, length, filter, take}
use Rattle.std.specs.Prelude.{is_some}
use Rattle.obs_assign.specs.inner.Assignment.{branch_at}
use Rattle.obs_repair.proofs.components.count_paired.Given as goal

abbrev pub invariant-loop-m : goal.invariant-loop-m
invariant-loop-m l = (l.count ≤ l.m-index) × (l.count ≡ length (filter (λ m. is_some (branch_at l.a m)) (take l.m-index l.meters)))
