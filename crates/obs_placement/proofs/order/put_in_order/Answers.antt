use Rattle.std.proofs.Common.{length}
use Rattle.obs_placement.specs.inner.Offer.{price_in}
use Rattle.obs_placement.proofs.Ordered.{IsOrder-sorted}
use Rattle.obs_placement.proofs.order.put_in_order.Goals as goal

pub returns : goal.returns
returns c =
    let o = c.args.offer.now in
    record {
      order = IsOrder-sorted (price_in o) (length o.items.now.touches) c.number.new.keys c.sort_unstable.new.self c.number.ensures.numbered c.sort_unstable.ensures.permutation c.sort_unstable.ensures.sorted;
    }
