use Rattle.std.proofs.Common.{length, ap, ◌∙◌, subst}
use Rattle.obs_case.specs.Tables.{Tables}
use Rattle.obs_graph.specs.Graph.{Graph}
use Rattle.obs_meter.specs.Held.{Meters}
use Rattle.obs_network.specs.Network.{Network, case_offered}
use Rattle.obs_assign.specs.inner.Assignment.{StandsOver}
use Rattle.obs_placement.specs.Placed.{placement_of}
use Rattle.obs_edit.specs.Planned.{placed_pairs}
use Rattle.obs_edit.proofs.Offered.{at_case, offered_count, room_of_offered}
use Rattle.obs_edit.proofs.placing.place.Goals as goal

pub find-requires-clause-items : goal.find-requires-clause-items
find-requires-clause-items g c =
    offered_count c.args.present.now c.network-network.result.now c.graph.result.now c.offered.result.now c.network-network.ensures.network c.graph.ensures.graph c.offered.ensures.offered
    (length c.meters.result.now) c.args.placing.now.prices (ap length c.meters.ensures.rows ∙ ap (λ (t : Tables). length t.meters) c.case.ensures.case) c.requires.prices

pub find-requires-clause-room : goal.find-requires-clause-room
find-requires-clause-room g c =
    room_of_offered c.args.present.now c.network-network.result.now c.graph.result.now c.offered.result.now c.network-network.ensures.network c.graph.ensures.graph c.offered.ensures.offered
    c.args.placing.now.sizes c.requires.sizes

pub returns-clause-pairs : goal.returns-clause-pairs
returns-clause-pairs g c =
    c.find.ensures.pairs
    ∙ at_case c.args.present.now c.network-network.result.now c.graph.result.now c.offered.result.now c.network-network.ensures.network c.graph.ensures.graph c.offered.ensures.offered
    placed_pairs (length c.meters.result.now) c.needed.result c.args.placing.now.prices (ap length c.meters.ensures.rows ∙ ap (λ (t : Tables). length t.meters) c.case.ensures.case) c.needed.ensures.needed c.requires.prices

pub returns-clause-placed : goal.returns-clause-placed
returns-clause-placed g c =
    c.find.ensures.placed
    ∙ at_case c.args.present.now c.network-network.result.now c.graph.result.now c.offered.result.now c.network-network.ensures.network c.graph.ensures.graph c.offered.ensures.offered
    placement_of (length c.meters.result.now) c.needed.result c.args.placing.now.prices (ap length c.meters.ensures.rows ∙ ap (λ (t : Tables). length t.meters) c.case.ensures.case) c.needed.ensures.needed c.requires.prices

pub returns-clause-stands : goal.returns-clause-stands
returns-clause-stands g c =
    let a = c.find.new.self.pairs in
    let offered = c.offered.ensures.offered ∙ ap (λ (n : Network). n.offered) c.network-network.ensures.network in
    subst (λ (x : Graph). StandsOver a x (case_offered c.args.present.now)) c.graph.ensures.graph (subst (λ (i : Meters). StandsOver a c.graph.result.now i.touches) offered c.find.ensures.stands)
