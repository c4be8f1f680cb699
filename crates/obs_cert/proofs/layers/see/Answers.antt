use Rattle.std.proofs.Common.{◌∙◌, sym, ap}
use Rattle.obs_case.specs.Tables.{Tables}
use Rattle.obs_network.specs.Network.{is_meter}
use Rattle.obs_cert.specs.Scopes.{price_at}
use Rattle.obs_cert.proofs.LayerLemmas.{tells_idle, tells_meter, tells_price}
use Rattle.obs_cert.proofs.layers.see.Goals as goal

pub returns-then-not-is_live : goal.returns-then-not-is_live
returns-then-not-is_live c = record { tells = λ list tells. tells_idle c.args.present.now c.args.m c.args.seen list tells (sym c.is_live.ensures.live ∙ c.if-not-is_live.true) }

pub returns-then-is_meter : goal.returns-then-is_meter
returns-then-is_meter c =
    let meter = c.is_meter.ensures.meter ∙ ap (λ (t : Tables). is_meter t c.args.m) c.case-case.ensures.case in
    record { tells = λ list tells. tells_meter c.args.present.now c.args.m c.args.seen list tells (sym c.is_live.ensures.live ∙ c.if-not-is_live.false) (sym meter ∙ c.if-is_meter.true) }

pub returns : goal.returns
returns c =
    let meter = c.is_meter.ensures.meter ∙ ap (λ (t : Tables). is_meter t c.args.m) c.case-case.ensures.case in
    let price = c.price_at.ensures.price ∙ ap (λ (t : Tables). price_at t c.args.m) c.case-case.ensures.case in
    record {
      tells = λ list tells. tells_price c.args.present.now c.args.m c.args.seen list tells c.dearer.result c.price_at.result
          (sym c.is_live.ensures.live ∙ c.if-not-is_live.false) (sym meter ∙ c.if-is_meter.false) price c.dearer.ensures.dearer;
    }
