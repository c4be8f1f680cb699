use Rattle.std.proofs.Common.{◌≡◌, drop, map}
use Rattle.std.specs.List.{list_any}
use Rattle.obs_case.specs.declared.rows.Meter.{Meter}
use Rattle.obs_case.specs.Items.{is_angle_kind}
use Rattle.obs_network.proofs.angles.any_meter.Given as goal

abbrev pub invariant-loop-row : goal.invariant-loop-row
invariant-loop-row l = list_any (λ b. b) (map (λ (row : Meter). is_angle_kind row.kind) (drop l.row-index l.meters)) ≡ list_any (λ b. b) (map (λ (row : Meter). is_angle_kind row.kind) l.meters)
