use Rattle.std.proofs.Common.{◌∙◌, sym, ap}
use Rattle.obs_network.specs.Network.{Network}
use Rattle.obs_engine.specs.StationReply.{are_borne}
use Rattle.obs_engine.proofs.Studied.{stations_met, stations_short}
use Rattle.obs_engine.proofs.station_reply.status_of.Goals as goal

pub returns-then-are_borne : goal.returns-then-are_borne
returns-then-are_borne c =
    let need = c.needed.ensures.needed ∙ ap (λ (n : Network). n.needed) c.requires.network in
    let borne = ap (are_borne c.needed.result) (sym c.requires.found) ∙ (sym c.are_borne.ensures.borne ∙ c.if-are_borne.true) in
    record { status = stations_met c.args.case.now c.needed.result c.kept_verdict.result need borne c.kept_verdict.ensures.status }

pub returns-else-are_borne : goal.returns-else-are_borne
returns-else-are_borne c =
    let need = c.needed.ensures.needed ∙ ap (λ (n : Network). n.needed) c.requires.network in
    let borne = ap (are_borne c.needed.result) (sym c.requires.found) ∙ (sym c.are_borne.ensures.borne ∙ c.if-are_borne.false) in
    record { status = stations_short c.args.case.now c.needed.result need borne }
