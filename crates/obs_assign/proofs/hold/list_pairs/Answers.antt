use Rattle.std.proofs.Common.{arith}
use Rattle.obs_assign.proofs.Listing.{Listing-none, Listing-some}
use Rattle.obs_assign.proofs.hold.list_pairs.Goals as goal
use Rattle.obs_assign.proofs.hold.list_pairs.Goals.{in-Some, in_default}

pub loop-m-preserved : goal.loop-m-preserved
loop-m-preserved c =
    let slots = c.args.slots.now in
    let l = c.loop-m in
    elim c.match-slot.branch [
      | in-Some w ↦ rw (w.owners-is, w.list-is, w.count-is)
          (let low = c.requires.low l.m w.in-Some.e w.in-Some.is in
          Listing-some slots l.owners l.list l.count l.m c.loop-m-test.true l.invariant w.in-Some.e w.in-Some.is (omega arith) (omega arith) c.requires.apart)
      | in_default w ↦ rw (w.owners-is, w.list-is, w.count-is)
          (Listing-none slots l.owners l.list l.count l.m c.loop-m-test.true l.invariant w.in_default.is)
    ]
