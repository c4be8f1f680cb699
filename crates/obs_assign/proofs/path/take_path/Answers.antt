use Rattle.std.proofs.Common.{◌≡◌, ◌<◌, List, Option, ℕ, length, sym, subst}
use Rattle.std.specs.Prelude.{All}
use Rattle.obs_graph.specs.Positions.{IsForestAt}
use Rattle.obs_matroid.specs.Assignments.{branches}
use Rattle.obs_matroid.specs.inner.Slots.{pairs_of}
use Rattle.obs_assign.specs.declared.Move.{Move}
use Rattle.obs_assign.specs.inner.Kept.{with_slots}
use Rattle.obs_assign.specs.inner.Moves.{HandsOn}
use Rattle.std.specs.Prelude.{None}
use Rattle.obs_assign.proofs.Over.{IsOver-new, over-next}
use Rattle.obs_assign.proofs.path.take_path.Goals as goal

pub hands_on-requires : goal.hands_on-requires
hands_on-requires c = record { low = subst (λ (s : List (Option ℕ)). All (λ (x : Move). x.meter < length s) c.args.path.now) (sym c.slots.ensures.slots) c.requires.low }

pub hand_on-requires-clause-hands : goal.hand_on-requires-clause-hands
hand_on-requires-clause-hands c = subst (λ (s : List (Option ℕ)). HandsOn s None c.args.path.now) c.slots.ensures.slots (c.hands_on.ensures.hands c.if-hands_on.true)

pub add_pairs-requires-clause-over : goal.add_pairs-requires-clause-over
add_pairs-requires-clause-over c = let new = c.lose_pairs.new.kept in IsOver-new c.args.kept.now new c.args.g.now new.slots c.lose_pairs.ensures.held

pub add_pairs-requires-clause-low : goal.add_pairs-requires-clause-low
add_pairs-requires-clause-low c = subst (λ (n : ℕ). All (λ (x : Move). x.meter < n) c.args.path.now) (sym c.lose_pairs.ensures.meters) c.requires.low

pub add_pairs-requires-clause-forest : goal.add_pairs-requires-clause-forest
add_pairs-requires-clause-forest c = subst (λ (s : List (Option ℕ)). IsForestAt c.args.g.now.ends (branches (pairs_of s))) (sym c.lose_pairs.ensures.moved) c.requires.forest

pub returns : goal.returns
returns c =
    let a = c.args in
    record {
      moved = subst (λ (s : List (Option ℕ)). c.add_pairs.new.kept ≡ with_slots a.kept.now a.g.now s) c.lose_pairs.ensures.moved
          (over-next a.kept.now c.lose_pairs.new.kept c.add_pairs.new.kept a.g.now _ c.lose_pairs.ensures.held c.add_pairs.ensures.moved);
    }
