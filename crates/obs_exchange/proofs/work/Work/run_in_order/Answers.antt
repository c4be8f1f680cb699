use Rattle.std.proofs.Common.{ℕ, length, ap, sym, ◌∙◌, subst, arith}
use Rattle.obs_graph.specs.Graph.{Graph}
use Rattle.obs_exchange.specs.inner.Found.{Work}
use Rattle.obs_exchange.specs.inner.Ordered.{IsOrder}
use Rattle.obs_exchange.proofs.work.Work.run_in_order.Goals as goal

pub spread_in_order-requires : goal.spread_in_order-requires
spread_in_order-requires c =
    let n = c.new-over.ensures.over in
    let v = c.self.view_is in
    let room = c.requires.room in
    let count = ap length n.touches in
    record {
      sound = n.sound;
      longest = rw (n.graph, n.touches, n.assignment) c.requires.longest;
      sources = n.sources;
      meters = omega (arith, count, ap (λ (w : Work). w.sizes.meters) v, room.meters);
      branches = omega (arith, ap (λ (x : Graph). length x.ends) n.graph, ap (λ (w : Work). w.sizes.branches) v, room.branches);
      vertices = omega (arith, ap (λ (x : Graph). x.vertices) n.graph, ap (λ (w : Work). w.sizes.vertices) v, room.vertices);
      room = n.room ∙ c.vertices-room.ensures.vertices;
      order = subst (λ (k : ℕ). IsOrder k c.args.order.now) (sym count) c.requires.order;
      places = c.requires.places ∙ sym count;
    }

pub returns-clause-reached : goal.returns-clause-reached
returns-clause-reached c = let n = c.new-over.ensures.over in rw (n.graph, n.touches, n.assignment) at c.spread_in_order.ensures.reached

pub returns-clause-same_sizes : goal.returns-clause-same_sizes
returns-clause-same_sizes c =
    let f = c.spread_in_order.ensures in
    rw (f.same_meters, f.same_branches, f.same_vertices) (ap (λ (w : Work). w.sizes) c.self.view_is)

pub invariant_of-self : goal.invariant_of-self
invariant_of-self c =
    let i = c.self.invariant in
    let same = c.spread_in_order.ensures.same_meters in
    (omega (arith, i.0, same), omega (arith, i.1, same), i.2 ∙ sym same, i.3 ∙ sym same, i.4 ∙ sym same)
