use Rattle.std.proofs.Common.{◌≡◌, ◌-◌, ◌++◌, length, take, drop, refl, sym, ◌∙◌, arith}
use Rattle.std.proofs.lemmas.List.{length-take-le}
use Rattle.obs_forest.proofs.Lent.{lent_back, lent_len}
use Rattle.obs_assign.proofs.Losing.{IsLosable, IsLost}
use Rattle.obs_assign.proofs.Storing.{held_here, lost, may_lose, stands_here, stored-lost}
use Rattle.obs_assign.proofs.kept.Kept.lose_branch.Goals as goal
use Rattle.obs_assign.proofs.kept.Kept.lose_branch.Goals.{After-index_mut, After-unlist}

may : (c : After-index_mut) → IsLosable c.args.g.now.ends c.self.inside.meters c.self.inside.slots.items c.self.inside.owners.items (take c.self.inside.count c.self.inside.list.items) c.self.inside.count c.args.m c.args.e
may c =
    let ins = c.self.inside in
    may_lose c.args.self.now ins.meters ins.slots.items ins.forest ins.count ins.owners.items ins.list.items c.self.view_is c.self.invariant c.args.g.now c.requires.over c.args.m c.args.e c.requires.e

pub index_mut-requires-2 : goal.index_mut-requires-2
index_mut-requires-2 c = let o = c.self.inside.owners.ok.0 in let m = (may (goal.at.index_mut-requires-2 c).After-index_mut).room in omega (arith, m, o)

pub unlist-requires-clause-room : goal.unlist-requires-clause-room
unlist-requires-clause-room c =
    let m = (may (goal.at.unlist-requires-clause-room c).After-index_mut).few in
    let k = c.self.invariant in
    rw c.deref_mut.ensures.value (omega (arith, m, k.meters_low, k.list_len))

pub unlist-requires-clause-listed : goal.unlist-requires-clause-listed
unlist-requires-clause-listed c = rw c.deref_mut.ensures.value (may (goal.at.unlist-requires-clause-listed c).After-index_mut).listed

pub overflow_sub-self : goal.overflow_sub-self
overflow_sub-self c = let m = (may (goal.at.overflow_sub-self c).After-index_mut).some in omega (arith, m)

-- the list as the vector has it, and as it is read
list_back : (c : After-unlist) → take c.self.inside.list.len (c.unlist.new.list ++ drop (length c.unlist.new.list) c.self.inside.list.items) ≡ c.unlist.new.list
list_back c = let list = c.self.inside.list in lent_back list.len c.unlist.new.list list.items c.unlist.auto.list c.deref_mut.ensures.value list.ok.0

list_len : (c : After-unlist) → length c.unlist.new.list ≡ length c.self.inside.list.items
list_len c = lent_len c.unlist.new.list c.unlist.auto.list c.deref_mut.ensures.value

gone : (c : After-unlist) → IsLost c.args.g.now.ends c.self.inside.meters c.self.inside.slots.items c.self.inside.owners.items (take c.self.inside.count c.self.inside.list.items) (take (c.self.inside.count - 1) c.unlist.new.list) c.self.inside.count c.args.m c.args.e
gone c =
    let ins = c.self.inside in
    lost c.args.self.now ins.meters ins.slots.items ins.forest ins.count ins.owners.items ins.list.items c.self.view_is c.self.invariant c.args.g.now c.requires.over c.args.m c.args.e c.requires.e
    (take (ins.count - 1) c.unlist.new.list) c.unlist.ensures.different (rw (sym c.deref_mut.ensures.value) c.unlist.ensures.exactly)

pub slice_bounds-refill_without-end : goal.slice_bounds-refill_without-end
slice_bounds-refill_without-end c =
    let ins = c.self.inside in
    let k = c.self.invariant in
    let u = (goal.at.slice_bounds-refill_without-end c).After-unlist in
    let m = (may (goal.at.slice_bounds-refill_without-end c).After-index_mut).few in
    rw (c.deref.ensures.value, list_back u) (sym (length-take-le (ins.count - 1) c.unlist.new.list (omega (arith, m, k.meters_low, k.list_len, list_len u))))

pub refill_without-requires-clause-forest : goal.refill_without-requires-clause-forest
refill_without-requires-clause-forest c = let u = (goal.at.refill_without-requires-clause-forest c).After-unlist in rw (c.deref.ensures.value, list_back u) (gone u).forest

pub refill_without-requires-clause-stands : goal.refill_without-requires-clause-stands
refill_without-requires-clause-stands c =
    let ins = c.self.inside in
    stands_here c.args.self.now ins.meters ins.slots.items ins.forest ins.count ins.owners.items ins.list.items c.self.view_is c.self.invariant c.args.g.now c.requires.over

pub refill_without-requires-clause-known : goal.refill_without-requires-clause-known
refill_without-requires-clause-known c =
    let ins = c.self.inside in
    let u = (goal.at.refill_without-requires-clause-known c).After-unlist in
    rw (c.deref.ensures.value, list_back u)
    (held_here c.args.self.now ins.meters ins.slots.items ins.forest ins.count ins.owners.items ins.list.items c.self.view_is c.self.invariant c.args.g.now c.requires.over ∙ (gone u).same)

pub invariant_of-self : goal.invariant_of-self
invariant_of-self c =
    let ins = c.self.inside in
    let r = c.requires in
    let u = (goal.at.invariant_of-self c).After-unlist in
    let less = take (ins.count - 1) c.unlist.new.list in
    rw (list_back u) (stored-lost c.args.self.now ins.meters ins.slots.items ins.forest ins.count ins.owners.items ins.list.items c.self.view_is c.self.invariant c.args.g.now r.over c.args.m c.args.e r.e
    less c.unlist.ensures.different (rw (sym c.deref_mut.ensures.value) c.unlist.ensures.exactly) c.refill_without.new.self c.unlist.new.list (rw (sym (list_back u), sym c.deref.ensures.value) c.refill_without.ensures.whole) refl (list_len u)).kept

pub returns : goal.returns
returns c =
    let ins = c.self.inside in
    let r = c.requires in
    let u = (goal.at.returns c).After-unlist in
    let less = take (ins.count - 1) c.unlist.new.list in
    record {
      lost = (stored-lost c.args.self.now ins.meters ins.slots.items ins.forest ins.count ins.owners.items ins.list.items c.self.view_is c.self.invariant c.args.g.now r.over c.args.m c.args.e r.e
          less c.unlist.ensures.different (rw (sym c.deref_mut.ensures.value) c.unlist.ensures.exactly) c.refill_without.new.self c.unlist.new.list (rw (sym (list_back u), sym c.deref.ensures.value) c.refill_without.ensures.whole) refl (list_len u)).is;
    }
