-- Kept pairs over a graph.
use Rattle.std.proofs.Common.{◌≡◌, ℕ, Bool, List, Option, refl, sym, ap, subst}
use Rattle.obs_graph.specs.Graph.{Graph}
use Rattle.obs_graph.specs.Positions.{IsForestAt}
use Rattle.obs_matroid.specs.Assignments.{branches}
use Rattle.obs_matroid.specs.inner.Slots.{pairs_of}
use Rattle.obs_forest.specs.Forest.{Forest}
use Rattle.obs_forest.specs.inner.Forest.{StandsOver, taken}
use Rattle.obs_forest.proofs.Refilled.{StandsOver-taken}
use Rattle.obs_assign.specs.inner.Assignment.{HasRoomOf, HoldsPairs}
use Rattle.obs_assign.specs.inner.Kept.{IsListed, IsOver, Kept, seen, with_slots}
use Rattle.obs_assign.proofs.Keeping.{held_listed}
use Rattle.obs_assign.proofs.Listed.{IsListed-all}
use Rattle.obs_assign.proofs.Losing.{held_over}
use Rattle.obs_assign.proofs.Slotted.{IsForestAt-over}

-- what is held by a list of the branches is held by the pairs
pub IsOver-made : (k : Kept) (g : Graph) → StandsOver k.forest g → HoldsPairs k.slots k.forest.held → IsOver k g
IsOver-made k g stands holds =
    let list = branches (pairs_of k.slots) in
    let held = held_listed k.forest g k.slots list stands holds (IsListed-all k.forest.held k.slots holds.forest) in
    ap (λ (f : Forest). let x : Kept = record { slots = k.slots; forest = f; most_meters = k.most_meters } in x) (held_over k.forest g (taken g.ends list) stands held)

pub IsOver-new : (k after : Kept) (g : Graph) (slots : List (Option ℕ)) → after ≡ with_slots k g slots → IsOver after g
IsOver-new k after g slots is = subst (λ (x : Kept). IsOver x g) (sym is) refl

-- one change after the other
pub over-next : (k now after : Kept) (g : Graph) (slots : List (Option ℕ)) → now ≡ with_slots k g now.slots → after ≡ with_slots now g slots → after ≡ with_slots k g slots
over-next k now after g slots first next = subst (λ (x : Kept). after ≡ with_slots x g slots) first next

-- the sizes stay
pub HasRoomOf-with : (k after : Kept) (g : Graph) (slots : List (Option ℕ)) (frozen frozen2 : List Bool) (turns turns2 : ℕ) → after ≡ with_slots k g slots → HasRoomOf (seen k frozen turns) (seen after frozen2 turns2)
HasRoomOf-with k after g slots frozen frozen2 turns turns2 is =
    subst (λ (x : Kept). HasRoomOf (seen k frozen turns) (seen x frozen2 turns2)) (sym is) (record { meters = refl; vertices = refl; branches = refl })

module _ (k : Kept) (g : Graph) (over : IsOver k g) where
  pub over_stands : StandsOver k.forest g
  over_stands = subst (λ (x : Kept). StandsOver x.forest g) (sym over) (StandsOver-taken k.forest g (branches (pairs_of k.slots)))

  pub over_forest : HoldsPairs k.slots k.forest.held → IsForestAt g.ends (branches (pairs_of k.slots))
  over_forest holds = IsForestAt-over k.forest.held g.ends (branches (pairs_of k.slots)) over_stands.held holds.forest

  pub over_listed : (list : List ℕ) → HoldsPairs k.slots k.forest.held → IsListed k.slots list → k.forest.held ≡ taken g.ends list
  over_listed list holds listed = held_listed k.forest g k.slots list over_stands holds listed
