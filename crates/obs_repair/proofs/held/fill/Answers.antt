use Rattle.std.proofs.Common.{ap, ◌∙◌}
use Rattle.obs_exchange.proofs.Longest.{IsLongest-filled}
use Rattle.obs_network.specs.Network.{Network}
use Rattle.obs_repair.proofs.OfNetwork.{IsLongest-of_network, fits_network, most_of_network}
use Rattle.obs_repair.proofs.held.fill.Goals as goal

pub clear-requires : goal.clear-requires
clear-requires g c = record {
  room = fits_network c.args.present.now c.graph-g.result.now c.meters-ms.result.now c.args.pairs.now c.args.work.now c.graph-g.ensures.graph c.meters-ms.ensures.meters c.requires.room;
}

pub returns-clause-longest : goal.returns-clause-longest
returns-clause-longest g c =
    let t = c.args.present.now in
    let graph = c.graph-g.result.now in
    let meters = c.meters-ms.result.now in
    let e = c.lengthen.ensures in
    let most = most_of_network t graph meters c.needed.result c.graph-g.ensures.valid c.graph-g.ensures.graph c.meters-ms.ensures.meters (c.needed.ensures.needed ∙ ap (λ (n : Network). n.needed) c.network.ensures.network) in
    IsLongest-of_network t graph meters c.lengthen.new.a c.graph-g.ensures.graph c.meters-ms.ensures.meters
    (IsLongest-filled graph meters.touches c.clear.new.self c.lengthen.new.a c.lengthen.result.searches c.lengthen.new.work.reached c.needed.result c.lengthen.result.closed
    c.graph-g.ensures.branches c.clear.ensures.whole c.clear.ensures.no_pair e.lengthened e.stands e.whole most e.ended)
