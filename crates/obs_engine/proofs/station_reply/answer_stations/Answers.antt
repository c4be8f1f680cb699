use Rattle.std.proofs.Common.{◌∙◌, ◌<◌, ℕ, All, List, ap, length, subst, sym}
use Rattle.obs_network.specs.Network.{Network, case_needed}
use Rattle.obs_station.specs.Stations.{losses_of}
use Rattle.obs_station.specs.declared.losses.Loss.{Loss}
use Rattle.obs_engine.specs.StationReply.{losses_text, stations_reply}
use Rattle.obs_engine.proofs.Asked.{appends_as}
use Rattle.obs_engine.proofs.Endings.{replied_memory}
use Rattle.obs_engine.proofs.Replied.{replied_verdict, stations_status-is}
use Rattle.obs_engine.proofs.Studied.{losses_below}
use Rattle.obs_engine.proofs.Summed.{not_for_memory}
use Rattle.obs_engine.proofs.station_reply.answer_stations.Goals as goal

pub print_losses-outcome-requires : goal.print_losses-outcome-requires
print_losses-outcome-requires g c =
    let t = c.args.case.now in
    record { nodes = subst (λ (ls : List Loss). All (λ (l : Loss). l.node < length t.nodes) ls) (sym (c.list-2.ensures.list ∙ (c.find_losses.ensures.losses ∙ ap losses_of c.of-present.ensures.case))) (losses_below t) }

pub returns-in_default : goal.returns-in_default
returns-in_default g c = record { replied = replied_memory (stations_reply c.args.case.now); summary = λ whole. not_for_memory whole }

pub returns-in_default-make : goal.returns-in_default-make
returns-in_default-make g c = record { replied = replied_memory (stations_reply c.args.case.now); summary = λ whole. not_for_memory whole }

pub returns-in_default-sum_up : goal.returns-in_default-sum_up
returns-in_default-sum_up g c = record { replied = replied_memory (stations_reply c.args.case.now); summary = λ whole. not_for_memory whole }

pub returns-clause-replied : goal.returns-clause-replied
returns-clause-replied g c =
    let t = c.args.case.now in
    let listed = c.list-2.ensures.list ∙ (c.find_losses.ensures.losses ∙ ap losses_of c.of-present.ensures.case) in
    let need = c.needed.ensures.needed ∙ ap (λ (n : Network). n.needed) c.in-Ok.ensures.network in
    let text = ap (λ (n : ℕ). losses_text t n c.list-2.result.now) need ∙ ap (λ (ls : List Loss). losses_text t (case_needed t) ls) listed in
    replied_verdict (stations_reply t) c.print_losses-outcome.result c.status_of-status.result c.printed_status.result c.printed_status.ensures.status
    c.status_of-status.ensures.status (stations_status-is t) (appends_as text c.print_losses-outcome.ensures.appends)
