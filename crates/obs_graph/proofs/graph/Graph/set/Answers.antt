use Rattle.std.proofs.Common.{◌<◌, length, set, sym, ap, ◌∙◌, subst, arith}
use Rattle.std.proofs.Math.Seq.{take-set-lt}
use Rattle.std.proofs.lemmas.List.{length-set, length-take}
use Rattle.std.specs.Prelude.{IfSome, ◌≢◌}
use Rattle.obs_graph.specs.Graph.{Graph}
use Rattle.obs_graph.proofs.Stored.{IsStored-set, written_back}
use Rattle.obs_graph.proofs.graph.Graph.set.Goals as goal

pub invariant_of-self : goal.invariant_of-self
invariant_of-self c =
    let s = c.self.inside in
    let low : c.args.e < s.positions = omega (arith, length-take s.positions s.ends.items, ap (λ (g : Graph). length g.ends) c.self.view_is) in
    let ends_len = c.set_branch.auto.branches ∙ ap length c.deref_mut.ensures.value in
    let starts_len = c.set_branch.auto.starts ∙ ap length c.deref_mut-2.ensures.value in
    let at_len = c.set_branch.auto.at ∙ ap length c.deref_mut-3.ensures.value in
    rw (written_back s.ends.len c.set_branch.new.branches s.ends.items ends_len s.ends.ok.0, written_back s.starts.len c.set_branch.new.starts s.starts.items starts_len s.starts.ok.0, written_back s.at.len c.set_branch.new.at s.at.items at_len s.at.ok.0)
    (IsStored-set s.vertices s.positions s.ends.items c.set_branch.new.branches s.itself.items s.starts.items s.at.items c.set_branch.new.starts c.set_branch.new.at c.self.invariant c.args.e c.args.ends low
    (subst (λ (g : Graph). IfSome c.args.ends (λ x. (x.a < g.vertices) × (x.b < g.vertices) × (x.a ≢ x.b))) (sym c.self.view_is) c.requires.ends)
    (c.set_branch.ensures.set ∙ ap (λ l. set l c.args.e c.args.ends) c.deref_mut.ensures.value) starts_len at_len
    (λ v l. c.set_branch.ensures.starts v (omega (arith, ap length c.deref_mut-2.ensures.value))) (λ v l. c.set_branch.ensures.parts v (omega (arith, ap length c.deref_mut-2.ensures.value))))

pub returns : goal.returns
returns c =
    let s = c.self.inside in
    let low : c.args.e < s.positions = omega (arith, length-take s.positions s.ends.items, ap (λ (g : Graph). length g.ends) c.self.view_is) in
    let ends_len = c.set_branch.auto.branches ∙ ap length c.deref_mut.ensures.value in
    let starts_len = c.set_branch.auto.starts ∙ ap length c.deref_mut-2.ensures.value in
    let is = c.set_branch.ensures.set ∙ ap (λ l. set l c.args.e c.args.ends) c.deref_mut.ensures.value in
    record {
      whole = rw (written_back s.starts.len c.set_branch.new.starts s.starts.items starts_len s.starts.ok.0, starts_len, written_back s.ends.len c.set_branch.new.branches s.ends.items ends_len s.ends.ok.0, is, take-set-lt s.positions s.ends.items c.args.e c.args.ends low, length-set s.ends.items c.args.e c.args.ends)
          (ap (λ (g : Graph). record g { ends = set g.ends c.args.e c.args.ends }) c.self.view_is);
    }
