use Rattle.std.proofs.Common.{◌∙◌, ℕ, ap, sym, subst, refl}
use Rattle.obs_forest.specs.Forest.{Forest}
use Rattle.obs_meter.specs.Held.{Meters}
use Rattle.obs_islands.specs.inner.Rounds.{AreFirsts, noted}
use Rattle.obs_islands.proofs.Settling.{Named-begun, Settling-begun, Settling-ended, Settling-next, Settling-smaller}
use Rattle.obs_islands.proofs.settle.settle.Goals as goal

pub loop-used-init : goal.loop-used-init
loop-used-init c =
    let g = c.args.over.now.graph.now in
    let a = c.args.over.now.pairs.now in
    let new = c.name_pieces.new.firsts in
    let named : AreFirsts g.vertices a.forest.held new =
    subst (λ (n : ℕ). AreFirsts n a.forest.held new) (sym c.requires.longest.stands.forest.vertices)
    (subst (λ (f : Forest). AreFirsts f.vertices f.held new) c.forest.ensures.forest c.name_pieces.ensures.firsts) in
    record {
      settling = Settling-begun g c.args.used.now.touches a c.requires.in_range;
      named = Named-begun g c.args.used.now.touches a new c.requires.longest named;
      most = refl;
      room = refl;
    }

pub loop-used-smaller : goal.loop-used-smaller
loop-used-smaller c =
    Settling-smaller c.args.over.now.graph.now c.args.used.now.touches c.args.over.now.pairs.now c.requires.numbered.branches c.requires.longest c.loop-used.used.touches c.loop-used.invariant.settling
    c.loop-used.firsts c.loop-used.invariant.named (noted c.discard.new.lowest) c.discard.ensures.gives_up
    c.discard.new.used.touches (ap (λ (m : Meters). m.touches) c.discard.ensures.remaining) (sym c.discard.ensures.some ∙ c.loop-used-test.true)

pub loop-used-preserved : goal.loop-used-preserved
loop-used-preserved c = record {
  settling = Settling-next c.args.over.now.graph.now c.args.used.now.touches c.args.over.now.pairs.now c.requires.numbered.branches c.requires.longest c.loop-used.used.touches c.loop-used.invariant.settling
      c.loop-used.firsts c.loop-used.invariant.named (noted c.discard.new.lowest) c.discard.ensures.gives_up
      c.discard.new.used.touches (ap (λ (m : Meters). m.touches) c.discard.ensures.remaining);
  named = record { held = c.name_left.new.held; left = c.name_left.ensures.left; named = c.name_left.ensures.firsts };
  most = ap (λ (m : Meters). m.most) c.discard.ensures.remaining ∙ c.loop-used.invariant.most;
  room = c.name_left.ensures.room ∙ c.loop-used.invariant.room;
}

pub returns-clause-firsts : goal.returns-clause-firsts
returns-clause-firsts c =
    Settling-ended c.args.over.now.graph.now c.args.used.now.touches c.args.over.now.pairs.now c.requires.numbered.branches c.requires.longest c.loop-used.used.touches c.loop-used.invariant.settling
    c.loop-used.firsts c.loop-used.invariant.named (noted c.discard.new.lowest) c.discard.ensures.gives_up (sym c.discard.ensures.some ∙ c.loop-used-test.false)
