use Rattle.std.proofs.Common.{◌≡◌, ◌≤◌, ◌+◌, ◌-◌, ◌^◌, min}
use Rattle.std.specs.List.{sum_by}
use Rattle.obs_cert.specs.Flaws.{shows}
use Rattle.obs_cert.proofs.layers.shown_cost.Given as goal

abbrev pub invariant-loop-layer : goal.invariant-loop-layer
invariant-loop-layer l =
    (l.sum ≤ 2 ^ 128 - 1) × (min (l.sum + sum_by (shows l.need) l.layer-iterator) (2 ^ 128 - 1) ≡ min (sum_by (shows l.need) l.fn.layers) (2 ^ 128 - 1))
