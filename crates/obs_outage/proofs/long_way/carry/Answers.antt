use Rattle.std.proofs.Common.{◌≤◌, length, sym, ap, ◌∙◌, subst}
use Rattle.obs_graph.specs.Graph.{Graph}
use Rattle.obs_graph.specs.Positions.{IsForestAt}
use Rattle.obs_matroid.specs.Assignments.{branches}
use Rattle.obs_meter.specs.Held.{Meters}
use Rattle.obs_meter.specs.inner.Touches.{AreInRange}
use Rattle.obs_assign.specs.inner.Assignment.{pairs as pairs_at}
use Rattle.obs_assign.specs.inner.Still.{still}
use Rattle.obs_exchange.specs.inner.Longest.{IsMost}
use Rattle.obs_exchange.proofs.Lengthening.{rooms}
use Rattle.obs_kept.proofs.OfNetwork.{branches_network, fits_network, longest_network, room_network, room_stays}
use Rattle.obs_outage.proofs.Carried.{quiet_by}
use Rattle.obs_outage.proofs.long_way.carry.Goals as goal

pub retain_touching-requires-clause-vertices : goal.retain_touching-requires-clause-vertices
retain_touching-requires-clause-vertices g c =
    (fits_network c.args.network.now c.args.case.now c.requires.network c.graph-g.result.now c.graph-g.ensures.graph c.meters-ms.result.now c.meters-ms.ensures.meters c.args.pairs.now c.args.work.now c.requires.room).vertices

pub retain_touching-requires-clause-meters : goal.retain_touching-requires-clause-meters
retain_touching-requires-clause-meters g c = ap (λ (x : Meters). length x.touches) c.meters-ms.ensures.meters ∙ c.requires.meters

pub retain_touching-requires-clause-positions : goal.retain_touching-requires-clause-positions
retain_touching-requires-clause-positions g c = ap (λ (x : Graph). length x.ends) c.graph-g.ensures.graph ∙ c.requires.positions

pub regrow-requires-clause-stands : goal.regrow-requires-clause-stands
regrow-requires-clause-stands g c = c.retain_touching.ensures.stands

pub regrow-requires-clause-thawed : goal.regrow-requires-clause-thawed
regrow-requires-clause-thawed g c = c.retain_touching.ensures.thawed

pub regrow-requires-clause-in_range : goal.regrow-requires-clause-in_range
regrow-requires-clause-in_range g c = subst (λ (h : Graph). AreInRange h c.meters-ms.result.now.touches) (sym c.graph-g.ensures.graph) c.meters-ms.ensures.in_range

pub regrow-requires-clause-room : goal.regrow-requires-clause-room
regrow-requires-clause-room g c =
    room_network c.args.network.now c.args.case.now c.requires.network c.graph-g.result.now c.graph-g.ensures.graph c.meters-ms.result.now c.meters-ms.ensures.meters c.args.pairs.now c.args.work.now c.requires.room

pub regrow-requires-clause-most : goal.regrow-requires-clause-most
regrow-requires-clause-most g c =
    let n = c.args.network.now in
    subst (λ (h : Graph). IsMost h.ends c.meters-ms.result.now.touches c.args.most) (sym c.graph-g.ensures.graph)
    (subst (λ (i : Meters). IsMost n.graph.ends i.touches c.args.most) (sym c.meters-ms.ensures.meters) c.requires.most)

pub returns-clause-longest : goal.returns-clause-longest
returns-clause-longest g c =
    longest_network c.args.network.now c.args.case.now c.requires.network c.graph-g.result.now c.graph-g.ensures.graph c.meters-ms.result.now c.meters-ms.ensures.meters c.regrow.new.a c.regrow.ensures.longest

pub returns-clause-room : goal.returns-clause-room
returns-clause-room g c =
    let b = c.retain_touching.new.self in
    let same = rooms c.args.pairs.now b c.regrow.new.a c.retain_touching.ensures.same_room c.regrow.ensures.same_room in
    room_stays c.args.network.now c.args.pairs.now c.regrow.new.a c.args.work.now c.regrow.new.work c.requires.room same c.regrow.ensures.same_sizes

pub returns-clause-quiet : goal.returns-clause-quiet
returns-clause-quiet g c = λ forest long.
    let n = c.args.network.now in
    let a = c.args.pairs.now in
    let graph = c.graph-g.result.now in
    let meters = c.meters-ms.result.now in
    let b = c.retain_touching.new.self in
    let e = c.retain_touching.ensures in
    let r = c.regrow.ensures in
    let gg = c.graph-g.ensures.graph in
    let mm = c.meters-ms.ensures.meters in
    quiet_by graph meters.touches a b c.regrow.new.a c.regrow.result.searches c.args.most c.args.steps.now c.regrow.new.steps (branches_network n c.args.case.now c.requires.network graph gg meters mm c.requires.valid)
    e.retained e.stands e.whole e.turns r.lengthened r.bound r.ticks
    (subst (λ (h : Graph). IsForestAt h.ends (branches (still h.ends meters.touches (pairs_at a)))) (sym gg)
    (subst (λ (i : Meters). IsForestAt n.graph.ends (branches (still n.graph.ends i.touches (pairs_at a)))) (sym mm) forest))
    (subst (λ (h : Graph). c.args.most ≤ length (still h.ends meters.touches (pairs_at a))) (sym gg)
    (subst (λ (i : Meters). c.args.most ≤ length (still n.graph.ends i.touches (pairs_at a))) (sym mm) long))
