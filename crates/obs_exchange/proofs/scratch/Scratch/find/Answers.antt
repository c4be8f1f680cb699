use Rattle.std.specs.Prelude.{MatchResult}
use Rattle.std.proofs.Common.{◌≡◌, List, length, ap, sym, subst, ◌∙◌, arith}
use Rattle.obs_graph.proofs.Stored.{written_back}
use Rattle.obs_assign.specs.declared.Move.{Move}
use Rattle.obs_exchange.specs.inner.Searching.{HasPath, HasReached}
use Rattle.obs_exchange.specs.inner.Trail.{Scratch}
use Rattle.obs_exchange.proofs.scratch.Scratch.find.Goals as goal

pub find-requires : goal.find-requires
find-requires c =
    let r = c.requires in
    let is = c.self.view_is in
    record {
      can = r.can;
      room = record {
        meters = omega (arith, r.meters, ap (λ (s : Scratch). length s.trail.marks) is);
        branches = omega (arith, r.branches, ap (λ (s : Scratch). length s.trail.walked) is);
        stars = omega (arith, r.vertices, ap (λ (s : Scratch). s.vertices) is);
        tops = c.self.invariant.1 ∙ (ap (λ (s : Scratch). s.vertices) is ∙ sym r.room);
        fits = omega (arith, r.vertices, r.room);
      };
      path = omega (arith, ap length c.deref_mut.ensures.value, c.self.invariant.0);
    }

pub invariant_of-self : goal.invariant_of-self
invariant_of-self c =
    let ins = c.self.inside in
    let i = c.self.invariant in
    let f = c.find in
    let large = f.ensures.as_large in
    let path : length f.new.path ≡ length ins.path.items = f.auto.path ∙ ap length c.deref_mut.ensures.value in (
      ap length (written_back ins.path.len f.new.path ins.path.items path ins.path.ok.0) ∙ path ∙ i.0 ∙ sym large.meters,
      large.tops ∙ i.1 ∙ sym large.stars,
    )

pub returns : goal.returns
returns c =
    let ins = c.self.inside in
    let is = c.self.view_is in
    let f = c.find in
    let large = f.ensures.as_large in
    let path : length f.new.path ≡ length ins.path.items = f.auto.path ∙ ap length c.deref_mut.ensures.value in
    record {
      found = subst (λ (p : List Move). MatchResult f.result (HasPath c.args.over.now p) (HasReached c.args.over.now f.new.search.trail)) (sym (written_back ins.path.len f.new.path ins.path.items path ins.path.ok.0)) f.ensures.found;
      same_meters = large.meters ∙ ap (λ (s : Scratch). length s.trail.marks) is;
      same_branches = large.branches ∙ ap (λ (s : Scratch). length s.trail.walked) is;
      same_vertices = large.stars ∙ ap (λ (s : Scratch). s.vertices) is;
    }
