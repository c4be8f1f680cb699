use Rattle.std.proofs.Common.{length, ap, ◌∙◌, arith}
use Rattle.obs_meter.specs.Held.{Meters}
use Rattle.obs_network.specs.Network.{Network}
use Rattle.obs_network.proofs.OfCase.{length-case_meters}
use Rattle.obs_engine.proofs.summary.is_live_injection.Goals as goal

pub live-requires-clause-item : goal.live-requires-clause-item
live-requires-clause-item c =
    let same = ap (λ (x : Meters). length x.touches) (c.meters-in-Injection.ensures.meters ∙ ap (λ (n : Network). n.meters) c.requires.network) in
    omega (arith, same, length-case_meters c.args.case.now, c.requires.meter)
