use Rattle.std.proofs.Common.{length, ap, ◌∙◌, arith}
use Rattle.obs_meter.specs.Held.{Meters}
use Rattle.obs_network.proofs.OfCase.{length-case_meters}
use Rattle.obs_station.proofs.membership.station_key.Goals as goal

pub live-requires-clause-item : goal.live-requires-clause-item
live-requires-clause-item c =
    let low = c.requires.meter in
    let all = ap (λ (m : Meters). length m.touches) c.meters.ensures.meters ∙ length-case_meters c.args.present.now in
    omega (arith, low, all)
