use Rattle.std.proofs.Common.{sym, subst}
use Rattle.obs_graph.specs.Graph.{Graph}
use Rattle.obs_meter.specs.inner.Touches.{AreInRange}
use Rattle.obs_kept.proofs.OfNetwork.{fits_network, most_network, room_network}
use Rattle.obs_kept.proofs.kept.Kept.make.Goals as goal

pub fill-requires-clause-fits : goal.fill-requires-clause-fits
fill-requires-clause-fits g c =
    let k = c.in_ok-kept.kept in
    fits_network k.network c.args.case.now c.in_ok-kept.ensures.network c.graph.result.now c.graph.ensures.graph c.meters.result.now c.meters.ensures.meters k.pairs k.work c.in_ok-kept.ensures.room

pub fill-requires-clause-room : goal.fill-requires-clause-room
fill-requires-clause-room g c =
    let k = c.in_ok-kept.kept in
    room_network k.network c.args.case.now c.in_ok-kept.ensures.network c.graph.result.now c.graph.ensures.graph c.meters.result.now c.meters.ensures.meters k.pairs k.work c.in_ok-kept.ensures.room

pub fill-requires-clause-most : goal.fill-requires-clause-most
fill-requires-clause-most g c =
    let k = c.in_ok-kept.kept in
    most_network k.network c.args.case.now c.in_ok-kept.ensures.network c.graph.result.now c.graph.ensures.graph c.meters.result.now c.meters.ensures.meters c.needed.result c.in_ok-kept.ensures.valid c.needed.ensures.needed

pub fill-requires-clause-in_range : goal.fill-requires-clause-in_range
fill-requires-clause-in_range g c = subst (λ (x : Graph). AreInRange x c.meters.result.now.touches) (sym c.graph.ensures.graph) c.meters.ensures.in_range
