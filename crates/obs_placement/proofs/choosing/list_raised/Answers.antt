use Rattle.std.proofs.Common.{◌<◌, length, arith}
use Rattle.obs_placement.specs.inner.Taking.{is_raised}
use Rattle.obs_placement.proofs.Listing.{AreListed-more, AreListed-over}
use Rattle.obs_placement.proofs.choosing.list_raised.Goals as goal
use Rattle.obs_placement.proofs.choosing.list_raised.Goals.{then-raised-offer, else-raised-offer}

pub loop-k-preserved : goal.loop-k-preserved
loop-k-preserved c =
    let o = c.args.offer.now in
    let l = c.loop-k in
    let passes = is_raised c.args.raised.now o.meters in
    let low : l.k < length o.prices.now = c.loop-k-test.true in
    elim c.if-raised-offer.branch [
      | then-raised-offer w ↦ rw (w.list-is, w.count-is, w.cost-is)
          (AreListed-more passes o.prices.now l.list l.count l.cost l.k l.invariant low (let r = c.requires.room in let e = l.auto.list in omega (arith, r, e)) w.if-raised-offer.true (c.requires.offer.cheap l.k 0 low))
      | else-raised-offer w ↦ rw (w.list-is, w.count-is, w.cost-is) (AreListed-over passes o.prices.now l.list l.count l.cost l.k l.invariant low w.if-raised-offer.false)
    ]
