use Rattle.std.proofs.Common.{◌≡◌, ◌≤◌, length, take, drop, sym, ap, ◌∙◌, subst, arith}
use Rattle.std.proofs.lemmas.List.{length-take-le}
use Rattle.obs_meter.specs.inner.Sizes.{Sizes}
use Rattle.obs_placement.specs.Answer.{cost_of}
use Rattle.obs_placement.specs.inner.Holding.{Known, Taking}
use Rattle.obs_placement.specs.inner.Offer.{HasRoomForOffer, price_in}
use Rattle.obs_placement.specs.inner.Taking.{since_at}
use Rattle.obs_placement.proofs.Going.{IsUnderWay-begun}
use Rattle.obs_placement.proofs.Listing.{chosen_list, front, only_chosen, rank_of_all, replicated, thawed_standing, unset_at}
use Rattle.obs_placement.proofs.choosing.choose_in.Goals as goal

pub take_all-requires-clause-begun : goal.take_all-requires-clause-begun
take_all-requires-clause-begun g c =
    let o = c.args.offer.now in
    let T = o.items.now.touches in
    let n = c.count-n.result in
    let count = c.count-n.ensures.count in
    let room : n ≤ length c.args.raised.now = let m = c.requires.room.meters in let r = c.requires.raised in omega (arith, count, m, r) in
    let t = c.begin.new.self in
    let beside = c.begin.ensures.beside in
    record {
      way = IsUnderWay-begun o.graph.now T (price_in o) c.put_in_order.new.keys c.requires.offer.branches t.pairs t.known.since c.clear.new.flags
          beside.count (c.clear.auto.flags ∙ (length-take-le n c.args.raised.now room ∙ count)) (λ m. ap (λ (k : Known). since_at k.since m) c.begin.ensures.nothing_known ∙ replicated (length T) m)
          (unset_at (length (take n c.args.raised.now)) c.clear.new.flags c.clear.ensures.clear) beside.standing c.begin.ensures.no_pair c.put_in_order.ensures.order;
      flags = beside.flags;
    }

pub returns-clause-chosen : goal.returns-clause-chosen
returns-clause-chosen g c =
    let o = c.args.offer.now in
    let G = o.graph.now in
    let T = o.items.now.touches in
    let ok = c.requires.offer.branches in
    let size = c.requires.offer.items in
    let n = c.count-n.result in
    let count = c.count-n.ensures.count in
    let room : n ≤ length c.args.raised.now = let m = c.requires.room.meters in let r = c.requires.raised in omega (arith, count, m, r) in
    let t = c.take_all.new.taking in
    let raised = c.take_all.new.raised in
    let h = c.take_all.ensures.taken in
    let flags : length raised ≡ length T = c.take_all.auto.raised ∙ (c.clear.auto.flags ∙ (length-take-le n c.args.raised.now room ∙ count)) in
    rw (c.thaw.ensures.thawed, front (length T) c.put_in_order.new.keys (drop n c.args.keys.now) c.put_in_order.ensures.order.count, front (length T) raised (drop n c.args.raised.now) flags) (record {
      order = c.put_in_order.ensures.order;
      raised_count = flags;
      raised = h.taken.chosen;
      chosen = c.list_raised.ensures.listed ∙ chosen_list G T o.meters o.prices.now t.pairs t.known.since raised ok h.taken size;
      cost = c.list_raised.ensures.cost ∙ ap (cost_of o.prices.now) (chosen_list G T o.meters o.prices.now t.pairs t.known.since raised ok h.taken size);
      known = record { count = h.count; known = h.taken.known };
      longest = rank_of_all G T o.meters o.prices.now t.pairs t.known.since raised ok h.taken size;
      standing = thawed_standing G T t.pairs t.known.since h.standing;
      only_chosen = only_chosen G T o.meters o.prices.now t.pairs t.known.since raised ok h.taken size;
    })

pub put_in_order-requires-clause-offer : goal.put_in_order-requires-clause-offer
put_in_order-requires-clause-offer g c = c.requires.offer

pub begin-requires-clause-offer : goal.begin-requires-clause-offer
begin-requires-clause-offer g c = c.requires.offer

pub begin-requires-clause-room : goal.begin-requires-clause-room
begin-requires-clause-room g c = c.requires.room

pub take_all-requires-clause-offer : goal.take_all-requires-clause-offer
take_all-requires-clause-offer g c = c.requires.offer

pub take_all-requires-clause-room : goal.take_all-requires-clause-room
take_all-requires-clause-room g c = subst (λ (s : Sizes). HasRoomForOffer s c.args.offer.now) (sym c.begin.ensures.same_sizes) c.requires.room

pub take_all-requires-clause-order : goal.take_all-requires-clause-order
take_all-requires-clause-order g c = c.put_in_order.ensures.order

pub list_raised-requires-clause-offer : goal.list_raised-requires-clause-offer
list_raised-requires-clause-offer g c = c.requires.offer

pub returns-clause-same_sizes : goal.returns-clause-same_sizes
returns-clause-same_sizes g c = ap (λ (t : Taking). t.sizes) c.thaw.ensures.thawed ∙ (c.take_all.ensures.same_sizes ∙ c.begin.ensures.same_sizes)

pub put_in_order-requires-clause-count : goal.put_in_order-requires-clause-count
put_in_order-requires-clause-count g c =
    let count = c.count-n.ensures.count in
    let room : c.count-n.result ≤ length c.args.keys.now = let m = c.requires.room.meters in let k = c.requires.keys in omega (arith, count, m, k) in
    length-take-le c.count-n.result c.args.keys.now room ∙ count

pub list_raised-requires-clause-raised : goal.list_raised-requires-clause-raised
list_raised-requires-clause-raised g c =
    let count = c.count-n.ensures.count in
    let room : c.count-n.result ≤ length c.args.raised.now = let m = c.requires.room.meters in let r = c.requires.raised in omega (arith, count, m, r) in
    c.take_all.auto.raised ∙ (c.clear.auto.flags ∙ (length-take-le c.count-n.result c.args.raised.now room ∙ count))

pub list_raised-requires-clause-room : goal.list_raised-requires-clause-room
list_raised-requires-clause-room g c = let m = c.requires.room.meters in let i = c.requires.offer.items in let l = c.requires.list in omega (arith, m, i, l)
