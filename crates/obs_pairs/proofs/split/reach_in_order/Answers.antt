use Rattle.std.proofs.Common.{◌<◌, ◌^◌, ℕ, length, sym, subst}
use Rattle.obs_pairs.specs.inner.Split.{AreInOrder}
use Rattle.obs_pairs.proofs.Splitting.{IsOrder-numbers}
use Rattle.obs_pairs.proofs.split.reach_in_order.Goals as goal

pub write_order-requires : goal.write_order-requires
write_order-requires g c = record { few = subst (λ (n : ℕ). n < 2 ^ 32) (sym c.requires.order) c.requires.may.few }

pub close_in_order-requires : goal.close_in_order-requires
close_in_order-requires g c =
    let may = c.requires.may in
    record {
      longest = may.longest;
      in_range = may.in_range;
      room = may.room;
      order = IsOrder-numbers c.args.falls (length c.args.over.now.meters.now.touches) c.write_order.new.order
          (subst (λ (n : ℕ). AreInOrder c.args.falls n c.write_order.new.order) c.requires.order c.write_order.ensures.order);
      places = c.requires.places;
    }

pub returns : goal.returns
returns g c = record {
  order = subst (λ (n : ℕ). AreInOrder c.args.falls n c.write_order.new.order) c.requires.order c.write_order.ensures.order;
  reached = c.close_in_order.ensures.reached;
  same_sizes = c.close_in_order.ensures.same_sizes;
}
