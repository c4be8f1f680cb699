use Rattle.std.proofs.Common.{◌≡◌, take, map}
use Rattle.obs_case.specs.declared.rows.Switch.{Switch}
use Rattle.obs_station.proofs.membership.write_links.Given as goal

abbrev pub invariant-loop-i : goal.invariant-loop-i
invariant-loop-i l = take l.i l.links ≡ map (λ (s : Switch). record { from = s.from; to = s.to }) (take l.i l.switches)
