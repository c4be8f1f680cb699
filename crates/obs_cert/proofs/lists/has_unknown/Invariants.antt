use Rattle.std.proofs.Common.{◌≡◌}
use Rattle.obs_cert.specs.Flaws.{unknown_item}
use Rattle.obs_cert.proofs.lists.has_unknown.Given as goal

abbrev pub invariant-loop-item : goal.invariant-loop-item
invariant-loop-item l = unknown_item l.case l.item-iterator ≡ unknown_item l.case l.fn.items
