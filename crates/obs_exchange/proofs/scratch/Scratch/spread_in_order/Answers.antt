use Rattle.std.proofs.Common.{length, ap, sym, ◌∙◌, arith}
use Rattle.obs_exchange.specs.inner.Trail.{Scratch}
use Rattle.obs_exchange.proofs.scratch.Scratch.spread_in_order.Goals as goal

pub spread_in_order-requires : goal.spread_in_order-requires
spread_in_order-requires c =
    let r = c.requires in
    let v = c.self.view_is in
    record {
      sound = r.sound;
      longest = r.longest;
      sources = r.sources;
      room = record {
        meters = omega (arith, r.meters, ap (λ (s : Scratch). length s.trail.marks) v);
        branches = omega (arith, r.branches, ap (λ (s : Scratch). length s.trail.walked) v);
        stars = omega (arith, r.vertices, ap (λ (s : Scratch). s.vertices) v);
        tops = c.self.invariant.1 ∙ (ap (λ (s : Scratch). s.vertices) v ∙ sym r.room);
        fits = omega (arith, r.vertices, r.room);
      };
      order = r.order;
      places = r.places;
    }

pub returns : goal.returns
returns c =
    let v = c.self.view_is in
    let f = c.spread_in_order.ensures in
    record {
      reached = f.reached;
      same_meters = f.as_large.meters ∙ ap (λ (s : Scratch). length s.trail.marks) v;
      same_branches = f.as_large.branches ∙ ap (λ (s : Scratch). length s.trail.walked) v;
      same_vertices = f.as_large.stars ∙ ap (λ (s : Scratch). s.vertices) v;
    }

pub invariant_of-self : goal.invariant_of-self
invariant_of-self c =
    let i = c.self.invariant in
    let f = c.spread_in_order.ensures.as_large in
    (i.0 ∙ sym f.meters, f.tops ∙ i.1 ∙ sym f.stars)
