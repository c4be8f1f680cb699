use Rattle.std.proofs.Common.{◌+◌, ◌<◌, All, List, ℕ, length, sym, ap, ◌∙◌, subst, arith}
use Rattle.obs_meter.specs.inner.Sizes.{HasRoomFor, Sizes}
use Rattle.obs_placement.specs.Placed.{placement_of}
use Rattle.obs_edit.specs.inner.Planned.{Planning}
use Rattle.obs_edit.proofs.PlanFirst.{chosen_offered}
use Rattle.obs_edit.proofs.placing.Placing.find.Goals as goal

pub pair-requires-clause-chosen : goal.pair-requires-clause-chosen
pair-requires-clause-chosen g c =
    let shape = c.args.g.now in
    let touches = c.args.offered.now.touches in
    let view = ap (λ (p : Planning). length p.prices) c.self.view_is in
    let read = ap length c.deref.ensures.value in
    let all = c.requires.items in
    subst (All (λ k. c.args.meters + k < length touches)) (sym c.find_placement.ensures.chosen)
    (chosen_offered shape.vertices shape.ends touches c.args.meters c.deref.result.now (omega (arith, all, view, read)))

pub find_placement-requires-clause-cheap : goal.find_placement-requires-clause-cheap
find_placement-requires-clause-cheap g c = rw c.deref.ensures.value c.self.invariant.cheap

pub find_placement-requires-clause-items : goal.find_placement-requires-clause-items
find_placement-requires-clause-items g c =
    let view = ap (λ (p : Planning). length p.prices) c.self.view_is in
    let read = ap length c.deref.ensures.value in
    let all = c.requires.items in
    omega (arith, all, view, read)

pub pair-requires-clause-room : goal.pair-requires-clause-room
pair-requires-clause-room g c =
    subst (λ (s : Sizes). HasRoomFor s c.args.g.now c.args.offered.now.touches) (sym (c.self.invariant.paired ∙ ap (λ (p : Planning). p.sizes) c.self.view_is)) c.requires.room

pub invariant_of-self : goal.invariant_of-self
invariant_of-self g c = record {
  few = c.self.invariant.few;
  cheap = c.self.invariant.cheap;
  paired = c.pair.ensures.same_sizes ∙ (c.self.invariant.paired ∙ sym c.find_placement.ensures.same_sizes);
}

pub returns-clause-placed : goal.returns-clause-placed
returns-clause-placed g c =
    let shape = c.args.g.now in
    c.find_placement.ensures.placed
    ∙ ap (λ (xs : List ℕ). placement_of shape.vertices shape.ends c.args.offered.now.touches c.args.meters xs c.args.needed) (c.deref.ensures.value ∙ ap (λ (p : Planning). p.prices) c.self.view_is)

pub returns-clause-same_prices : goal.returns-clause-same_prices
returns-clause-same_prices g c = ap (λ (p : Planning). p.prices) c.self.view_is

pub pair-requires-clause-one_each : goal.pair-requires-clause-one_each
pair-requires-clause-one_each g c = sym c.find_placement.ensures.standing.stands.meters
