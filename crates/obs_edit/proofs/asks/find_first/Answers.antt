use Rattle.std.proofs.Common.{◌∙◌, subst, sym}
use Rattle.obs_graph.specs.Graph.{Graph}
use Rattle.obs_assign.specs.inner.Assignment.{StandsOver}
use Rattle.obs_meter.specs.Held.{Meters}
use Rattle.obs_network.specs.Network.{case_meters}
use Rattle.obs_edit.proofs.Answered.{IsLongest-first, first_of_network}
use Rattle.obs_repair.proofs.OfNetwork.{room_of_rows}
use Rattle.obs_edit.proofs.asks.find_first.Goals as goal

pub first-requires-clause-stands : goal.first-requires-clause-stands
first-requires-clause-stands g c =
    let t = c.args.present.now in
    let a = c.args.a.now in
    subst (λ (i : Meters). StandsOver a c.graph.result.now i.touches) (sym c.meters.ensures.meters) (subst (λ (x : Graph). StandsOver a x (case_meters t)) (sym c.graph.ensures.graph) c.requires.longest.stands)

pub first-requires-clause-room : goal.first-requires-clause-room
first-requires-clause-room g c =
    room_of_rows c.args.present.now c.args.work.now.sizes c.graph.result.now c.meters.result.now c.graph.ensures.graph c.meters.ensures.meters c.requires.room.work

pub returns-clause-first : goal.returns-clause-first
returns-clause-first g c =
    c.first.ensures.first
    ∙ first_of_network c.args.present.now c.graph.result.now c.meters.result.now c.graph.ensures.graph c.meters.ensures.meters

pub returns-clause-longest : goal.returns-clause-longest
returns-clause-longest g c =
    let t = c.args.present.now in
    let a = c.first.new.a in
    let stands = subst (λ (x : Graph). StandsOver a x (case_meters t)) c.graph.ensures.graph (subst (λ (i : Meters). StandsOver a c.graph.result.now i.touches) c.meters.ensures.meters c.first.ensures.stands) in
    IsLongest-first t c.graph.ensures.valid a stands c.first.ensures.whole c.first.ensures.thawed (c.first.ensures.first ∙ first_of_network t c.graph.result.now c.meters.result.now c.graph.ensures.graph c.meters.ensures.meters)
