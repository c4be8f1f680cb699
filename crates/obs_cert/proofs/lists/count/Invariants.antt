use Rattle.std.proofs.Common.{◌≡◌, ◌≤◌, ◌+◌, min, length}
use Rattle.obs_cert.proofs.lists.count.Given as goal

abbrev pub invariant-loop-item : goal.invariant-loop-item
invariant-loop-item l = (l.count ≤ 4294967295) × (min (l.count + length l._item-iterator) 4294967295 ≡ min (l.before + length l.fn.items) 4294967295)
