use Rattle.std.proofs.Common.{◌+◌, set, sym, ap, ◌∙◌, arith}
use Rattle.std.proofs.lemmas.List.{length-take-le}
use Rattle.obs_forest.specs.inner.Forest.{taken}
use Rattle.obs_assign.proofs.Listed.{IsAdded}
use Rattle.obs_assign.proofs.Storing.{added, held_here, stands_here, stored-added}
use Rattle.obs_assign.proofs.kept.Kept.add.Goals as goal
use Rattle.obs_assign.proofs.kept.Kept.add.Goals.{After-index_mut}

-- the slots and the list as they become
more : (c : After-index_mut) → IsAdded c.args.g.now.ends c.self.inside.meters c.self.inside.slots.items c.self.inside.owners.items c.self.inside.list.items c.self.inside.count c.args.x.meter c.args.x.branch
more c =
    let ins = c.self.inside in
    let r = c.requires in
    added c.args.self.now ins.meters ins.slots.items ins.forest ins.count ins.owners.items ins.list.items c.self.view_is c.self.invariant c.args.g.now r.over c.args.x.meter c.args.x.branch r.meter r.bare r.forest

pub index_mut-requires-2 : goal.index_mut-requires-2
index_mut-requires-2 c = let o = c.self.inside.owners.ok.0 in let m = (more (goal.at.index_mut-requires-2 c).After-index_mut).room in omega (arith, m, o)

pub index_mut-requires-3 : goal.index_mut-requires-3
index_mut-requires-3 c =
    let o = c.self.inside.list.ok.0 in
    let m = (more (goal.at.index_mut-requires-3 c).After-index_mut).few in
    let k = c.self.invariant in
    omega (arith, m, o, k.meters_low, k.list_len)

pub overflow_add-self : goal.overflow_add-self
overflow_add-self c =
    let m = (more (goal.at.overflow_add-self c).After-index_mut).few in
    let k = c.self.invariant in
    omega (arith, m, k.meters_low, k.few)

pub slice_bounds-refill_from-end : goal.slice_bounds-refill_from-end
slice_bounds-refill_from-end c =
    let ins = c.self.inside in
    rw c.deref.ensures.value (sym (length-take-le (ins.count + 1) (set ins.list.items ins.count c.args.x.branch) (more (goal.at.slice_bounds-refill_from-end c).After-index_mut).long))

pub refill_from-requires-clause-forest : goal.refill_from-requires-clause-forest
refill_from-requires-clause-forest c = rw c.deref.ensures.value (more (goal.at.refill_from-requires-clause-forest c).After-index_mut).forest

pub refill_from-requires-clause-stands : goal.refill_from-requires-clause-stands
refill_from-requires-clause-stands c =
    let ins = c.self.inside in
    stands_here c.args.self.now ins.meters ins.slots.items ins.forest ins.count ins.owners.items ins.list.items c.self.view_is c.self.invariant c.args.g.now c.requires.over

pub refill_from-requires-clause-last : goal.refill_from-requires-clause-last
refill_from-requires-clause-last c =
    let ins = c.self.inside in
    rw c.deref.ensures.value (length-take-le (ins.count + 1) (set ins.list.items ins.count c.args.x.branch) (more (goal.at.refill_from-requires-clause-last c).After-index_mut).long)

pub refill_from-requires-clause-known : goal.refill_from-requires-clause-known
refill_from-requires-clause-known c =
    let ins = c.self.inside in
    rw c.deref.ensures.value
    (held_here c.args.self.now ins.meters ins.slots.items ins.forest ins.count ins.owners.items ins.list.items c.self.view_is c.self.invariant c.args.g.now c.requires.over
    ∙ ap (taken c.args.g.now.ends) (sym (more (goal.at.refill_from-requires-clause-known c).After-index_mut).front))

pub invariant_of-self : goal.invariant_of-self
invariant_of-self c =
    let ins = c.self.inside in
    let r = c.requires in
    (stored-added c.args.self.now ins.meters ins.slots.items ins.forest ins.count ins.owners.items ins.list.items c.self.view_is c.self.invariant c.args.g.now r.over c.args.x.meter c.args.x.branch r.meter r.bare r.forest
    c.refill_from.new.self (rw (sym c.deref.ensures.value) c.refill_from.ensures.whole)).kept

pub returns : goal.returns
returns c =
    let ins = c.self.inside in
    let r = c.requires in
    record {
      added = (stored-added c.args.self.now ins.meters ins.slots.items ins.forest ins.count ins.owners.items ins.list.items c.self.view_is c.self.invariant c.args.g.now r.over c.args.x.meter c.args.x.branch r.meter r.bare r.forest
          c.refill_from.new.self (rw (sym c.deref.ensures.value) c.refill_from.ensures.whole)).is;
    }
