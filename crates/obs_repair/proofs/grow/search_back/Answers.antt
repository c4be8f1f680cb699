use Rattle.std.proofs.Common.{[], false, subst, arith}
use Rattle.obs_graph.specs.Graph.{Graph}
use Rattle.obs_meter.specs.Held.{Meters}
use Rattle.obs_assign.specs.inner.Assignment.{StandsOver}
use Rattle.obs_exchange.specs.declared.Sources.TheVariants.{One}
use Rattle.obs_exchange.specs.inner.Found.{HasClosed, HasGrown}
use Rattle.obs_exchange.proofs.Longest.{IsLongest-ended}
use Rattle.obs_network.specs.Network.{network_of}
use Rattle.obs_network.proofs.OfCase.{case_branches-are}
use Rattle.obs_repair.proofs.CameBack.{longest-closed, longest-grown}
use Rattle.obs_repair.proofs.grow.search_back.Goals as goal

pub returns-then-length-most-clause-longest : goal.returns-then-length-most-clause-longest
returns-then-length-most-clause-longest g c =
    let n = network_of c.args.present.now in
    IsLongest-ended n.graph n.meters.touches c.args.a.now [] c.args.most false (case_branches-are c.args.present.now c.graph-g.ensures.valid) c.requires.stands c.length.ensures.whole c.requires.thawed c.requires.most
    (let full = c.if-length-most.true in let many = c.length.ensures.length in omega (arith, full, many))

pub returns-in-Grown-clause-longest : goal.returns-in-Grown-clause-longest
returns-in-Grown-clause-longest g c =
    let n = network_of c.args.present.now in
    let e = c.in-Grown.ensures in
    longest-grown n.graph n.meters.touches (case_branches-are c.args.present.now c.graph-g.ensures.valid) c.args.m c.args.a.now c.requires.back c.requires.stands c.requires.thawed c.search.new.a c.in-Grown.field-0 e.whole
    (subst (λ (x : Graph). StandsOver c.search.new.a x n.meters.touches) c.graph-g.ensures.graph
    (subst (λ (x : Meters). StandsOver c.search.new.a c.graph-g.result.now x.touches) c.meters-ms.ensures.meters e.stands))
    (subst (λ (x : Graph). HasGrown x.ends n.meters.touches (One c.args.m) c.args.a.now c.search.new.a c.in-Grown.field-0) c.graph-g.ensures.graph
    (subst (λ (x : Meters). HasGrown c.graph-g.result.now.ends x.touches (One c.args.m) c.args.a.now c.search.new.a c.in-Grown.field-0) c.meters-ms.ensures.meters e.found))

pub returns-in-Closed-clause-longest : goal.returns-in-Closed-clause-longest
returns-in-Closed-clause-longest g c =
    let n = network_of c.args.present.now in
    let e = c.in-Closed.ensures in
    longest-closed n.graph n.meters.touches (case_branches-are c.args.present.now c.graph-g.ensures.valid) c.args.m c.args.a.now c.requires.back c.requires.stands c.requires.thawed c.length.ensures.whole c.search.new.a c.search.new.work.reached
    (subst (λ (x : Graph). HasClosed x.ends n.meters.touches (One c.args.m) c.args.a.now c.search.new.a c.search.new.work.reached) c.graph-g.ensures.graph
    (subst (λ (x : Meters). HasClosed c.graph-g.result.now.ends x.touches (One c.args.m) c.args.a.now c.search.new.a c.search.new.work.reached) c.meters-ms.ensures.meters e.found))
