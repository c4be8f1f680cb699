use Rattle.std.proofs.Common.{◌≤◌, ◌-◌, length, sym, ap, ◌∙◌, subst, arith}
use Rattle.obs_graph.specs.Graph.{Graph}
use Rattle.obs_graph.proofs.Present.{AreBranches-more}
use Rattle.obs_graph.proofs.Stored.{IsStored-filled, written_back}
use Rattle.obs_graph.proofs.graph.Graph.refill.Goals as goal

pub store-requires-clause-held : goal.store-requires-clause-held
store-requires-clause-held c = omega (arith, ap (λ (g : Graph). g.most_branches) c.self.view_is, ap length c.deref_mut.ensures.value, c.requires.few)

pub store-requires-clause-branches : goal.store-requires-clause-branches
store-requires-clause-branches c = AreBranches-more _ _ c.args.ends.now (omega (arith, ap (λ (g : Graph). g.most_vertices) c.self.view_is, ap length c.deref_mut-2.ensures.value, c.requires.vertices)) c.requires.branches

pub invariant_of-self : goal.invariant_of-self
invariant_of-self c =
    let s = c.self.inside in
    let ends_len = c.store.auto.ends ∙ ap length c.deref_mut.ensures.value in
    let starts_len = c.store.auto.starts ∙ ap length c.deref_mut-2.ensures.value in
    let at_len = c.store.auto.at ∙ ap length c.deref_mut-3.ensures.value in
    let low : c.args.vertices ≤ length s.starts.items - 1 = subst (λ (g : Graph). c.args.vertices ≤ g.most_vertices) (sym c.self.view_is) c.requires.vertices in
    let held : length c.args.ends.now ≤ length s.ends.items = subst (λ (g : Graph). length c.args.ends.now ≤ g.most_branches) (sym c.self.view_is) c.requires.few in
    rw (written_back s.ends.len c.store.new.ends s.ends.items ends_len s.ends.ok.0, written_back s.starts.len c.store.new.starts s.starts.items starts_len s.starts.ok.0, written_back s.at.len c.store.new.at s.at.items at_len s.at.ok.0)
    (IsStored-filled s.vertices s.positions c.args.vertices s.ends.items c.args.ends.now c.store.new.ends s.itself.items s.starts.items s.at.items c.store.new.starts c.store.new.at c.self.invariant
    low held c.requires.branches ends_len starts_len at_len c.store.ensures.ends
    (λ v l. c.store.ensures.starts v (omega (arith, ap length c.deref_mut-2.ensures.value))) (λ v l. c.store.ensures.parts v (omega (arith, ap length c.deref_mut-2.ensures.value))))

pub returns : goal.returns
returns c =
    let s = c.self.inside in
    let ends_len = c.store.auto.ends ∙ ap length c.deref_mut.ensures.value in
    let starts_len = c.store.auto.starts ∙ ap length c.deref_mut-2.ensures.value in
    record {
      whole = rw (written_back s.starts.len c.store.new.starts s.starts.items starts_len s.starts.ok.0, starts_len, written_back s.ends.len c.store.new.ends s.ends.items ends_len s.ends.ok.0, c.store.ensures.ends, ends_len)
          (ap (λ (g : Graph). record g { vertices = c.args.vertices; ends = c.args.ends.now }) c.self.view_is);
    }
