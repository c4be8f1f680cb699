use Rattle.std.proofs.Common.{◌≡◌, ◌≤◌, ◌+◌, ◌-◌, ◌^◌, min}
use Rattle.std.specs.List.{sum_by}
use Rattle.obs_cert.specs.Numbered.{items_of}
use Rattle.obs_cert.specs.Scopes.{price_at}
use Rattle.obs_cert.proofs.lists.cost.Given as goal

abbrev pub invariant-loop-item : goal.invariant-loop-item
invariant-loop-item l =
    (l.cost ≤ 2 ^ 128 - 1)
    × (min (l.cost + sum_by (price_at l.case) (items_of l.case l.item-iterator)) (2 ^ 128 - 1) ≡ min (sum_by (price_at l.case) (items_of l.case l.fn.items)) (2 ^ 128 - 1))
