use Rattle.std.proofs.Common.{◌≡◌, ◌++◌, None, length, take, drop, replicate, ap, arith}
use Rattle.obs_forest.proofs.Lent.{filled_back}
use Rattle.obs_assign.specs.inner.Kept.{Kept}
use Rattle.obs_assign.proofs.Slotted.{IsForestAt-nil}
use Rattle.obs_assign.proofs.Storing.{IsStored, stored, stored-cleared}
use Rattle.obs_assign.proofs.kept.Kept.clear.Goals as goal
use Rattle.obs_assign.proofs.kept.Kept.clear.Goals.{After-refill}

pub refill-requires-clause-forest : goal.refill-requires-clause-forest
refill-requires-clause-forest c = IsForestAt-nil c.args.g.now.ends

slots_back : (c : After-refill) → take c.self.inside.slots.len (c.empty.new.slots ++ drop (length c.empty.new.slots) c.self.inside.slots.items) ≡ replicate (length c.self.inside.slots.items) None
slots_back c = let slots = c.self.inside.slots in filled_back None slots.len c.empty.new.slots slots.items c.empty.ensures.empty c.deref_mut.ensures.value slots.ok.0

owners_back : (c : After-refill) → take c.self.inside.owners.len (c.empty-2.new.slots ++ drop (length c.empty-2.new.slots) c.self.inside.owners.items) ≡ replicate (length c.self.inside.owners.items) None
owners_back c = let owners = c.self.inside.owners in filled_back None owners.len c.empty-2.new.slots owners.items c.empty-2.ensures.empty c.deref_mut-2.ensures.value owners.ok.0

made : (c : After-refill)
    → IsStored c.args.self.now c.args.g.now (replicate c.args.meters None) (stored c.args.meters (replicate (length c.self.inside.slots.items) None) c.refill.new.self) c.args.meters 0 (replicate (length c.self.inside.owners.items) None) c.self.inside.list.items
made c =
    let ins = c.self.inside in
    let k = c.self.invariant in
    stored-cleared c.args.self.now c.args.g.now ins.meters c.args.meters ins.slots.items ins.forest ins.count ins.owners.items ins.list.items c.self.view_is k
    (omega (arith, c.requires.meters, ap (λ (x : Kept). x.most_meters) c.self.view_is)) (omega (arith, c.requires.branches, ap (λ (x : Kept). x.forest.most_branches) c.self.view_is)) c.refill.new.self c.refill.ensures.whole

pub invariant_of-self : goal.invariant_of-self
invariant_of-self c = let a = (goal.at.invariant_of-self c).After-refill in rw (slots_back a, owners_back a) (made a).kept

pub returns : goal.returns
returns c = let a = (goal.at.returns c).After-refill in record { cleared = rw (slots_back a) (made a).is }
