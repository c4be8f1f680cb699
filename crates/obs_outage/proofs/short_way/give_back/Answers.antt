use Rattle.std.proofs.Common.{sym, subst}
use Rattle.obs_graph.specs.Graph.{Graph}
use Rattle.obs_meter.specs.Held.{Meters}
use Rattle.obs_meter.specs.inner.Sizes.{HasRoomFor}
use Rattle.obs_meter.specs.inner.Touches.{AreInRange}
use Rattle.obs_assign.specs.inner.Assignment.{StandsOver}
use Rattle.obs_exchange.specs.declared.Sources.TheVariants.{One}
use Rattle.obs_exchange.specs.inner.Found.{IsFound}
use Rattle.obs_outage.proofs.Alone.{bare, found_longest, low_there}
use Rattle.obs_outage.proofs.short_way.give_back.Goals as goal

pub search-requires-clause-stands : goal.search-requires-clause-stands
search-requires-clause-stands g c =
    subst (λ (x : Graph). StandsOver c.args.pairs.now x c.meters-ms.result.now.touches) (sym c.graph-g.ensures.graph)
    (subst (λ (i : Meters). StandsOver c.args.pairs.now c.args.network.now.graph i.touches) (sym c.meters-ms.ensures.meters) c.requires.stands)

pub search-requires-clause-in_range : goal.search-requires-clause-in_range
search-requires-clause-in_range g c = subst (λ (x : Graph). AreInRange x c.meters-ms.result.now.touches) (sym c.graph-g.ensures.graph) c.meters-ms.ensures.in_range

pub search-requires-clause-room : goal.search-requires-clause-room
search-requires-clause-room g c =
    subst (λ (x : Graph). HasRoomFor c.args.work.now.sizes x c.meters-ms.result.now.touches) (sym c.graph-g.ensures.graph)
    (subst (λ (i : Meters). HasRoomFor c.args.work.now.sizes c.args.network.now.graph i.touches) (sym c.meters-ms.ensures.meters) c.requires.room)

pub search-requires-clause-begins : goal.search-requires-clause-begins
search-requires-clause-begins g c =
    let l = c.requires.lost in
    (low_there c.args.network.now l.0 c.args.pairs.now c.args.m l.1 l.2, bare c.args.network.now l.0 c.args.pairs.now c.args.m l.1 l.2)

pub returns-clause-longest : goal.returns-clause-longest
returns-clause-longest g c =
    let l = c.requires.lost in
    let n = c.args.network.now in
    let found = subst (λ (x : Graph). IsFound x.ends n.meters.touches (One c.args.m) c.args.pairs.now c.search.new.a c.search.new.work.reached c.search.result) c.graph-g.ensures.graph
    (subst (λ (i : Meters). IsFound c.graph-g.result.now.ends i.touches (One c.args.m) c.args.pairs.now c.search.new.a c.search.new.work.reached c.search.result) c.meters-ms.ensures.meters c.search.ensures.found) in
    let stands = subst (λ (x : Graph). StandsOver c.search.new.a x n.meters.touches) c.graph-g.ensures.graph
    (subst (λ (i : Meters). StandsOver c.search.new.a c.graph-g.result.now i.touches) c.meters-ms.ensures.meters c.search.ensures.stands) in
    found_longest n l.0 c.args.pairs.now c.args.m l.1 l.2 c.search.new.a c.search.new.work.reached c.search.result found stands c.search.ensures.whole
