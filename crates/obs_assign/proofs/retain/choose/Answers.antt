use Rattle.std.proofs.Common.{arith}
use Rattle.obs_assign.proofs.Choosing.{Choosing-ended, Choosing-none, Choosing-put}
use Rattle.obs_assign.proofs.retain.choose.Goals as goal
use Rattle.obs_assign.proofs.retain.choose.Goals.{in-Some, in_default}

pub put_back-requires : goal.put_back-requires
put_back-requires c = record { low = let l = c.requires.low c.in-Some.x.branch c.in-Some.x.meter c.in-Some.ensures.pair.owned in omega arith }

pub loop-up-preserved : goal.loop-up-preserved
loop-up-preserved c =
    let l = c.loop-up in
    elim c.match-pair_up.branch [
      | in-Some w ↦ rw (w.slots-is, w.put_back.ensures.put)
          (Choosing-put c.args.ups.now c.args.owners.now l.slots l.up-index l.invariant c.args.slots.now c.requires.inverse w.in-Some.x w.in-Some.ensures.pair
          (let low = c.requires.low w.in-Some.x.branch w.in-Some.x.meter w.in-Some.ensures.pair.owned in omega arith))
      | in_default w ↦ rw w.slots-is (Choosing-none c.args.ups.now c.args.owners.now l.slots l.up-index l.invariant w.in_default.ensures.pair)
    ]

pub returns : goal.returns
returns c = record { chosen = Choosing-ended c.args.ups.now c.args.owners.now c.loop-up.slots c.loop-up.up-index c.loop-up.invariant c.args.slots.now c.requires.inverse (omega arith) }
