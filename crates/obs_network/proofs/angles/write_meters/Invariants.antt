use Rattle.std.proofs.Common.{◌≡◌, take, map}
use Rattle.obs_case.specs.declared.rows.Meter.{Meter}
use Rattle.obs_network.specs.Angles.{item_angle}
use Rattle.obs_network.proofs.angles.write_meters.Given as goal

abbrev pub invariant-loop-i : goal.invariant-loop-i
invariant-loop-i l =
    take l.i l.places ≡ map (λ (row : Meter). item_angle l.buses.buses l.components.of_buses l.components.energised l.components.absolute row.kind row.at) (take l.i l.meters)
