use Rattle.std.proofs.Common.{length, ap, sym, subst, arith}
use Rattle.obs_meter.specs.inner.Sizes.{Sizes}
use Rattle.obs_assign.specs.Assignment.{Assignment}
use Rattle.obs_assign.specs.inner.Assignment.{pairs}
use Rattle.obs_placement.specs.inner.Offer.{HasRoomForOffer}
use Rattle.obs_placement.proofs.Lacking.{placed_cheap, placed_short}
use Rattle.obs_placement.proofs.Listing.{cheap_price}
use Rattle.obs_placement.proofs.placing.place_in.Goals as goal

pub returns-then-length-needed-clause-placed : goal.returns-then-length-needed-clause-placed
returns-then-length-needed-clause-placed g c =
    let o = c.args.offer.now in
    let b = c.measure-bound in
    let m = b.ensures.measured in
    placed_short o.graph.now.vertices o.graph.now.ends o.items.now.touches o.meters o.prices.now c.args.needed
    (cheap_price o.meters o.prices.now c.requires.offer.cheap)
    (let t = c.if-length-needed.true in let l = c.length.ensures.length in let p = ap (λ (a : Assignment). length (pairs a)) c.pairs.ensures.pairs in let r = c.choose.ensures.chosen.longest in omega (arith, t, l, p, r))
    b.new.self.inside b.result.rank b.result.outside m.inside_is m.rank_is m.outside_is

pub choose-requires-clause-offer : goal.choose-requires-clause-offer
choose-requires-clause-offer g c = c.requires.offer

pub choose-requires-clause-room : goal.choose-requires-clause-room
choose-requires-clause-room g c = c.requires.room

pub add_layers-requires-clause-offer : goal.add_layers-requires-clause-offer
add_layers-requires-clause-offer g c = c.requires.offer

pub add_layers-requires-clause-chosen : goal.add_layers-requires-clause-chosen
add_layers-requires-clause-chosen g c = c.choose.ensures.chosen

pub add_layers-requires-clause-room : goal.add_layers-requires-clause-room
add_layers-requires-clause-room g c = c.requires.laying

pub returns-then-length-needed-clause-chosen : goal.returns-then-length-needed-clause-chosen
returns-then-length-needed-clause-chosen g c = c.choose.ensures.chosen

pub returns-then-length-needed-clause-same_sizes : goal.returns-then-length-needed-clause-same_sizes
returns-then-length-needed-clause-same_sizes g c = c.choose.ensures.same_sizes

pub returns-else-length-needed-clause-placed : goal.returns-else-length-needed-clause-placed
returns-else-length-needed-clause-placed g c =
    let o = c.args.offer.now in
    let chosen = c.choose.ensures.chosen in
    rw (chosen.chosen, chosen.cost, c.add_layers.ensures.layers, c.add_layers.ensures.inside) (
    placed_cheap o.graph.now.vertices o.graph.now.ends o.items.now.touches o.meters o.prices.now c.args.needed
    (let t = c.if-length-needed.false in let l = c.length.ensures.length in let p = ap (λ (a : Assignment). length (pairs a)) c.pairs.ensures.pairs in let r = chosen.longest in omega (arith, t, l, p, r))
    )

pub measure-bound-requires-clause-offer : goal.measure-bound-requires-clause-offer
measure-bound-requires-clause-offer g c = c.requires.offer

pub measure-bound-requires-clause-known : goal.measure-bound-requires-clause-known
measure-bound-requires-clause-known g c = rw c.since.ensures.since c.choose.ensures.chosen.known

pub measure-bound-requires-clause-room : goal.measure-bound-requires-clause-room
measure-bound-requires-clause-room g c = subst (λ (s : Sizes). HasRoomForOffer s c.args.offer.now) (sym c.requires.measuring) c.requires.room

pub returns-else-length-needed-clause-chosen : goal.returns-else-length-needed-clause-chosen
returns-else-length-needed-clause-chosen g c = c.choose.ensures.chosen

pub returns-else-length-needed-clause-same_sizes : goal.returns-else-length-needed-clause-same_sizes
returns-else-length-needed-clause-same_sizes g c = c.choose.ensures.same_sizes

pub returns-then-length-needed-clause-same_measuring : goal.returns-then-length-needed-clause-same_measuring
returns-then-length-needed-clause-same_measuring g c = c.measure-bound.ensures.same_sizes
