use Rattle.std.proofs.Common.{◌≡◌, ◌<◌, ℕ, get_or, take}
use Rattle.obs_case.specs.declared.rows.Meter.{Meter}
use Rattle.obs_meter.specs.declared.Touch.TheVariants.{Nothing}
use Rattle.obs_network.specs.Touching.{meter_touch}
use Rattle.obs_network.proofs.touching.write_meters.Given as goal

abbrev pub invariant-loop-i : goal.invariant-loop-i
invariant-loop-i l = (d : Meter) (k : ℕ) → k < l.i → get_or l.touches k Nothing ≡ meter_touch (take l.rows l.graph.ends) l.buses.buses k (get_or l.meters k d)
