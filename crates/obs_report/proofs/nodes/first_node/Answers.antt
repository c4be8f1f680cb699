use Rattle.std.proofs.Common.{◌≡◌, ◌<◌, length, get_or, ap, sym, ◌∙◌, subst, arith}
use Rattle.std.proofs.lemmas.List.FromFn.{length-map-range_with_len}
use Rattle.obs_network.specs.Switched.{closed_links}
use Rattle.obs_switch.specs.Buses.{bus_of, buses_of, members_of}
use Rattle.obs_switch.proofs.FirstNodes.{buses_of-at, first_member, first_node-le}
use Rattle.obs_report.proofs.nodes.first_node.Goals as goal
use Rattle.obs_report.proofs.nodes.first_node.Goals.{After-members}

pub bus-requires : goal.bus-requires
bus-requires c =
    record { node = omega (arith, ap length c.requires.buses, length-map-range_with_len (bus_of (closed_links c.args.case.now.switches)) 0 (length c.args.case.now.nodes)) }

-- the members of the node's bus
members : (c : After-members) → c.members.result.now ≡ members_of (buses_of (length c.args.case.now.nodes) (closed_links c.args.case.now.switches)) (bus_of (closed_links c.args.case.now.switches) c.args.node)
members c =
    let nodes = length c.args.case.now.nodes in
    let links = closed_links c.args.case.now.switches in
    let bus : c.bus.result ≡ bus_of links c.args.node = c.bus.ensures.bus ∙ (ap (λ bs. get_or bs c.args.node 0) c.requires.buses ∙ buses_of-at nodes links c.args.node c.requires.node) in
    c.members.ensures.members ∙ (ap (λ bs. members_of bs c.bus.result) c.requires.buses ∙ ap (members_of (buses_of nodes links)) bus)

pub first_of-requires : goal.first_of-requires
first_of-requires c =
    let found = first_member (length c.args.case.now.nodes) (closed_links c.args.case.now.switches) c.args.node c.requires.node in
    record { some = subst (λ t. 0 < length t) (sym (members c)) found.0 }

pub returns-clause-first : goal.returns-clause-first
returns-clause-first c =
    let found = first_member (length c.args.case.now.nodes) (closed_links c.args.case.now.switches) c.args.node c.requires.node in
    c.first_of.ensures.first ∙ (ap (λ t. get_or t 0 0) (members (goal.at.returns-clause-first c).After-members) ∙ found.1)

pub returns-clause-within : goal.returns-clause-within
returns-clause-within c = omega (arith, returns-clause-first c, first_node-le (closed_links c.args.case.now.switches) c.args.node, c.requires.node)
