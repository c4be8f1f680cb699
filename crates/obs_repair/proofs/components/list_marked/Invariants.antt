use Rattle.std.proofs.Common.{◌≡◌, ◌≤◌, length, filter, take}
use Rattle.obs_assign.specs.inner.Assignment.{has_flag}
use Rattle.obs_repair.proofs.components.list_marked.Given as goal

abbrev pub invariant-loop-m : goal.invariant-loop-m
invariant-loop-m l = (l.count ≤ l.m-index) × (length l.list ≡ length l.fn.list) × (take l.count l.list ≡ filter (has_flag l.marks) (take l.m-index l.meters))
