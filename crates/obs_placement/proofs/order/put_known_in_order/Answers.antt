use Rattle.std.proofs.Common.{length, drop}
use Rattle.obs_placement.specs.inner.Taking.{since_at}
use Rattle.obs_placement.proofs.Listing.{front}
use Rattle.obs_placement.proofs.Ordered.{IsOrder-sorted}
use Rattle.obs_placement.proofs.order.put_known_in_order.Goals as goal

pub returns : goal.returns
returns c =
    let s = c.args.since.now in
    let order = IsOrder-sorted (since_at s) (length s) c.number_known.new.keys c.sort_unstable.new.self c.number_known.ensures.numbered c.sort_unstable.ensures.permutation c.sort_unstable.ensures.sorted in
    record { order = rw (front (length s) c.sort_unstable.new.self (drop (length s) c.args.keys.now) order.count) order }
