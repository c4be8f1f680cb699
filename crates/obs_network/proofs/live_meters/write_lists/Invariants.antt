use Rattle.std.proofs.Common.{◌≡◌, ◌<◌, ◌≤◌, ℕ, length, get_or, take, map}
use Rattle.obs_network.specs.Located.{touch_component}
use Rattle.obs_network.specs.inner.Kept.{list_of}
use Rattle.obs_network.proofs.live_meters.write_lists.Given as goal

-- the lists of the meters so far
abbrev pub invariant-loop-m : goal.invariant-loop-m
invariant-loop-m l =
    (take l.m l.lists ≡ map (λ touch. list_of (length l.components.first_buses) (touch_component l.components.of_buses l.graph.ends touch)) (take l.m l.meters.touches))
    × ((k : ℕ) → k < l.m → get_or l.lists k 0 ≤ length l.components.first_buses)
