use Rattle.std.proofs.Common.{◌≡◌}
use Rattle.obs_cert.specs.Flaws.{not_inside}
use Rattle.obs_cert.specs.inner.InScope.{in_scope}
use Rattle.obs_cert.specs.Numbered.{items_of}
use Rattle.obs_cert.proofs.lists.has_outside.Given as goal

abbrev pub invariant-loop-item : goal.invariant-loop-item
invariant-loop-item l = not_inside (in_scope l.present l.scope) (items_of l.present l.item-iterator) ≡ not_inside (in_scope l.present l.scope) (items_of l.present l.fn.items)
