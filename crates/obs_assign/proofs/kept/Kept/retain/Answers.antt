use Rattle.std.proofs.Common.{◌≡◌, ◌<◌, ◌≤◌, ◌++◌, ℕ, Option, None, Some, List, length, take, drop, get_or, refl, sym, ap, ◌∙◌, subst, arith}
use Rattle.std.proofs.lemmas.List.{length-take-le}
use Rattle.obs_graph.specs.inner.Search.{room_of}
use Rattle.obs_forest.proofs.Lent.{lent_back, lent_len}
use Rattle.obs_matroid.specs.inner.Slots.{pairs_of}
use Rattle.obs_assign.specs.inner.Kept.{Kept, SlotsApart}
use Rattle.obs_assign.specs.inner.Still.{AreRetained}
use Rattle.obs_assign.proofs.Slotted.{branch_low, slots_apart}
use Rattle.obs_assign.proofs.Storing.{IsStored, IsStored-made, stored}
use Rattle.obs_assign.proofs.kept.Kept.retain.Goals as goal
use Rattle.obs_assign.proofs.kept.Kept.retain.Goals.{After-retain_pairs-self-inside}

pub retain_pairs-self-inside-requires-clause-low : goal.retain_pairs-self-inside-requires-clause-low
retain_pairs-self-inside-requires-clause-low c =
    let ins = c.self.inside in
    let k = c.self.invariant in
    let n : ins.meters ≡ length c.args.ms.now.touches =
    omega (arith, c.requires.meters, ap (λ (x : Kept). length x.slots) c.self.view_is, length-take-le ins.meters ins.slots.items k.meters_low) in
    subst (λ (s : List (Option ℕ)). (m e : ℕ) → get_or (take (length c.args.ms.now.touches) s) m None ≡ Some e → e < length c.args.g.now.ends) (sym c.deref_mut.ensures.value)
    (subst (λ (j : ℕ). (m e : ℕ) → get_or (take j ins.slots.items) m None ≡ Some e → e < length c.args.g.now.ends) n
    (λ m e h. omega (arith, branch_low ins.forest.held (take ins.meters ins.slots.items) k.holds.forest m e h, c.requires.positions, ap (λ (x : Kept). length x.forest.held) c.self.view_is)))

pub retain_pairs-self-inside-requires-clause-apart : goal.retain_pairs-self-inside-requires-clause-apart
retain_pairs-self-inside-requires-clause-apart c =
    let ins = c.self.inside in
    let k = c.self.invariant in
    let n : ins.meters ≡ length c.args.ms.now.touches =
    omega (arith, c.requires.meters, ap (λ (x : Kept). length x.slots) c.self.view_is, length-take-le ins.meters ins.slots.items k.meters_low) in
    subst (λ (s : List (Option ℕ)). SlotsApart (take (length c.args.ms.now.touches) s)) (sym c.deref_mut.ensures.value)
    (subst (λ (j : ℕ). SlotsApart (take j ins.slots.items)) n (slots_apart ins.forest.held (take ins.meters ins.slots.items) k.holds.forest))

-- the meters are those of the touches
meters_are : (c : After-retain_pairs-self-inside) → length c.args.ms.now.touches ≡ c.self.inside.meters
meters_are c =
    let ins = c.self.inside in
    omega (arith, c.requires.meters, ap (λ (x : Kept). length x.slots) c.self.view_is, length-take-le ins.meters ins.slots.items c.self.invariant.meters_low)

-- the slots, as the vector has them
slots_back : (c : After-retain_pairs-self-inside) → take c.self.inside.slots.len (c.retain_pairs-self-inside.new.slots ++ drop (length c.retain_pairs-self-inside.new.slots) c.self.inside.slots.items) ≡ c.retain_pairs-self-inside.new.slots
slots_back c =
    let slots = c.self.inside.slots in
    let call = c.retain_pairs-self-inside in
    lent_back slots.len call.new.slots slots.items call.auto.slots c.deref_mut.ensures.value slots.ok.0

made : (c : After-retain_pairs-self-inside)
    → IsStored c.args.self.now c.args.g.now (take c.self.inside.meters c.retain_pairs-self-inside.new.slots)
    (stored c.self.inside.meters c.retain_pairs-self-inside.new.slots c.retain_pairs-self-inside.new.forest) c.self.inside.meters c.retain_pairs-self-inside.result
    c.retain_pairs-self-inside.new.owners c.retain_pairs-self-inside.new.list
made c =
    let ins = c.self.inside in
    let k = c.self.invariant in
    let call = c.retain_pairs-self-inside in
    let n = meters_are c in
    IsStored-made c.args.self.now c.args.g.now ins.meters ins.slots.items call.new.slots (take ins.meters call.new.slots) ins.forest call.new.forest call.result call.new.owners call.new.list
    c.self.view_is k.few k.meters_low (omega (arith, c.requires.positions, ap (λ (x : Kept). length x.forest.held) c.self.view_is, k.positions)) refl
    (lent_len call.new.slots call.auto.slots c.deref_mut.ensures.value) (rw (sym n) call.ensures.is_forest) (rw (sym n) call.ensures.forest) (rw (sym n) call.ensures.count) (rw (sym n) call.ensures.inverse)
    (lent_len call.new.owners call.auto.owners c.deref_mut-2.ensures.value ∙ k.owners_len) (lent_len call.new.list call.auto.list c.deref_mut-3.ensures.value ∙ k.list_len) (rw (sym n) call.ensures.listed)

pub invariant_of-self : goal.invariant_of-self
invariant_of-self c =
    let a = (goal.at.invariant_of-self c).After-retain_pairs-self-inside in
    let ins = c.self.inside in
    let call = c.retain_pairs-self-inside in
    let back_owners = lent_back ins.owners.len call.new.owners ins.owners.items call.auto.owners c.deref_mut-2.ensures.value ins.owners.ok.0 in
    let back_list = lent_back ins.list.len call.new.list ins.list.items call.auto.list c.deref_mut-3.ensures.value ins.list.ok.0 in
    rw (slots_back a, back_owners, back_list) (made a).kept

pub returns-clause-retained : goal.returns-clause-retained
returns-clause-retained c =
    let a = (goal.at.returns-clause-retained c).After-retain_pairs-self-inside in
    let ins = c.self.inside in
    let call = c.retain_pairs-self-inside in
    let P : ℕ → List (Option ℕ) → Type 0 = λ n s. AreRetained c.args.g.now.ends c.args.ms.now.touches (pairs_of s) (pairs_of (take n call.new.slots)) in
    rw (slots_back a) (subst (λ (s : List (Option ℕ)). P ins.meters s) (ap (λ (k : Kept). k.slots) c.self.view_is)
    (subst (λ (n : ℕ). P n (take n ins.slots.items)) (meters_are a) (subst (λ (s : List (Option ℕ)). P (length c.args.ms.now.touches) (take (length c.args.ms.now.touches) s)) c.deref_mut.ensures.value call.ensures.retained)))

pub returns-clause-forest : goal.returns-clause-forest
returns-clause-forest c =
    let a = (goal.at.returns-clause-forest c).After-retain_pairs-self-inside in
    let n = meters_are a in
    rw (slots_back a) (rw (sym n) c.retain_pairs-self-inside.ensures.is_forest)

pub returns-clause-held : goal.returns-clause-held
returns-clause-held c = let a = (goal.at.returns-clause-held c).After-retain_pairs-self-inside in rw (slots_back a) (made a).is

pub retain_pairs-self-inside-requires-clause-meters : goal.retain_pairs-self-inside-requires-clause-meters
retain_pairs-self-inside-requires-clause-meters c =
    let ins = c.self.inside in
    let k = c.self.invariant in
    let n : ins.meters ≡ length c.args.ms.now.touches =
    omega (arith, c.requires.meters, ap (λ (x : Kept). length x.slots) c.self.view_is, length-take-le ins.meters ins.slots.items k.meters_low) in
    omega (arith, n, k.meters_low, ap (λ xs. length xs) c.deref_mut.ensures.value)

pub retain_pairs-self-inside-requires-clause-list : goal.retain_pairs-self-inside-requires-clause-list
retain_pairs-self-inside-requires-clause-list c =
    let ins = c.self.inside in
    let k = c.self.invariant in
    let n : ins.meters ≡ length c.args.ms.now.touches =
    omega (arith, c.requires.meters, ap (λ (x : Kept). length x.slots) c.self.view_is, length-take-le ins.meters ins.slots.items k.meters_low) in
    omega (arith, n, k.meters_low, k.list_len, ap (λ xs. length xs) c.deref_mut-3.ensures.value)

pub retain_pairs-self-inside-requires-clause-owners : goal.retain_pairs-self-inside-requires-clause-owners
retain_pairs-self-inside-requires-clause-owners c = omega (arith, c.requires.positions, ap (λ (x : Kept). length x.forest.held) c.self.view_is, c.self.invariant.positions, c.self.invariant.owners_len, ap (λ xs. length xs) c.deref_mut-2.ensures.value)

pub retain_pairs-self-inside-requires-clause-room : goal.retain_pairs-self-inside-requires-clause-room
retain_pairs-self-inside-requires-clause-room c = subst (λ (x : Kept). room_of c.args.search.now ≡ x.forest.most_vertices) (sym c.self.view_is) c.requires.room

pub retain_pairs-self-inside-requires-clause-vertices : goal.retain_pairs-self-inside-requires-clause-vertices
retain_pairs-self-inside-requires-clause-vertices c = subst (λ (x : Kept). c.args.g.now.vertices ≤ x.forest.most_vertices) (sym c.self.view_is) c.requires.vertices

pub retain_pairs-self-inside-requires-clause-branches : goal.retain_pairs-self-inside-requires-clause-branches
retain_pairs-self-inside-requires-clause-branches c = omega (arith, c.requires.positions, ap (λ (x : Kept). length x.forest.held) c.self.view_is, c.self.invariant.positions)
