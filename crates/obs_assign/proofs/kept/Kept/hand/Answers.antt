use Rattle.std.proofs.Common.{arith}
use Rattle.obs_assign.proofs.Storing.{hand_wide, kept-handed, stored-handed}
use Rattle.obs_assign.proofs.kept.Kept.hand.Goals as goal

pub index_mut-requires-3 : goal.index_mut-requires-3
index_mut-requires-3 c =
    let ins = c.self.inside in
    let r = c.requires in
    let o = ins.owners.ok.0 in
    let l = hand_wide c.args.self.now ins.meters ins.slots.items ins.forest ins.count ins.owners.items ins.list.items c.self.view_is c.self.invariant c.args.x.meter c.args.x.branch c.args.next r.meter r.next r.bare in
    omega (arith, l, o)

pub invariant_of-self : goal.invariant_of-self
invariant_of-self c =
    let ins = c.self.inside in
    let r = c.requires in
    kept-handed c.args.self.now ins.meters ins.slots.items ins.forest ins.count ins.owners.items ins.list.items c.self.view_is c.self.invariant c.args.x.meter c.args.x.branch c.args.next r.meter r.next r.bare

pub returns : goal.returns
returns c =
    let ins = c.self.inside in
    let r = c.requires in
    record { handed = stored-handed c.args.self.now ins.meters ins.slots.items ins.forest ins.count ins.owners.items ins.list.items c.self.view_is c.self.invariant c.args.x.meter c.args.x.branch c.args.next r.meter r.next r.bare }
