use Rattle.std.proofs.Common.{◌<◌, ℕ, length, arith, ap, refl, sym, ◌∙◌}
use Rattle.obs_matroid.proofs.Lists.{clash}
use Rattle.obs_assign.specs.inner.Assignment.{has_flag}
use Rattle.obs_placement.specs.inner.Counting.{live_below, raised_below}
use Rattle.obs_placement.specs.inner.Offer.{price_in}
use Rattle.obs_placement.specs.inner.Order.{item_at}
use Rattle.obs_placement.proofs.LaidOut.{AreFirstBelow-none, IsLaying-begun, IsLaying-inside, IsLaying-layers, IsLaying-more, IsLaying-over}
use Rattle.obs_placement.proofs.Tallied.{AreCounted-none}
use Rattle.obs_placement.proofs.layering.add_layers.Goals as goal
use Rattle.obs_placement.proofs.layering.add_layers.Goals.{then-last-price+then-raised, else-last-price, else-last-price-via-then-last-price+else-raised, else-last-price-via-else-last-price}

pub loop-k-init : goal.loop-k-init
loop-k-init c =
    let o = c.args.offer.now in
    let chosen = c.args.choosing.now in
    let e = c.begin.ensures in
    rw (e.begun, c.nothing_counted-tally.ensures.value) (
      IsLaying-begun o.graph.now.vertices o.graph.now.ends o.items.now.touches o.meters o.prices.now chosen.keys chosen.since,
      AreCounted-none o.graph.now o.items.now.touches (price_in o) chosen.keys,
      refl,
      rw (← c.since.ensures.since) e.order,
      AreFirstBelow-none chosen.since c.begin.new.self.keys,
    )

pub loop-k-preserved : goal.loop-k-preserved
loop-k-preserved c =
    let o = c.args.offer.now in
    let G = o.graph.now in
    let T = o.items.now.touches in
    let t = c.args.choosing.now in
    let chosen = c.requires.chosen in
    let order = chosen.order in
    let l = c.loop-k in
    let h = l.invariant.0 in
    let counted = c.count_item-tally.ensures.counted in
    let low : l.k < length T = let t = c.loop-k-test.true in let n = c.count-k-end.ensures.count in omega (arith, t, n) in
    let key = ap (λ (x : ℕ × ℕ). x.0) c.key-price.ensures.key ∙ order.priced l.k low in
    let flag = ap (λ (x : ℕ × ℕ). has_flag t.raised x.1) c.key-price.ensures.key ∙ chosen.raised (item_at t.keys l.k) (order.low l.k low) in
    elim c.if-last-price.branch [
      | then-last-price+then-raised w ↦
          let e = w.add_layer.ensures in
          rw (w.laying-is, w.last-is) (
            IsLaying-more G.vertices G.ends T o.meters o.prices.now t.keys t.since order c.requires.offer.items l.k l.last l.laying.layers l.laying.inside h low
                (sym (w.raised.ensures.raised ∙ flag) ∙ w.if-raised.true) c.key-price.result.0 key w.if-last-price.true
                w.add_layer.new.laying.layers w.add_layer.new.laying.inside e.layer (rw w.since-then-raised.ensures.since at e.upto) e.listed,
            counted,
            e.room ∙ l.invariant.2,
            rw e.keys l.invariant.3,
            rw e.keys (rw (← w.since-then-raised.ensures.since) e.first),
          )
      | else-last-price w ↦ rw (w.laying-is, w.last-is) (
        IsLaying-over G.vertices G.ends T o.meters o.prices.now t.keys t.since order c.requires.offer.items l.k l.last l.laying.layers l.laying.inside h
            (elim w.else-last-price.branch [
              | else-last-price-via-then-last-price+else-raised v ↦ λ t. clash t (sym (v.raised.ensures.raised ∙ flag) ∙ v.if-raised.false)
              | else-last-price-via-else-last-price v ↦ λ t. let k = v.if-last-price.false in omega (arith, k, key)
            ]),
        counted,
        l.invariant.2,
        l.invariant.3,
        l.invariant.4,
      )
    ]

pub returns-clause-layers : goal.returns-clause-layers
returns-clause-layers c =
    let o = c.args.offer.now in
    let t = c.args.choosing.now in
    let l = c.loop-k in
    IsLaying-layers o.graph.now.vertices o.graph.now.ends o.items.now.touches o.meters o.prices.now t.keys t.since c.requires.chosen.order c.requires.offer.items
    l.k l.last l.laying.layers l.laying.inside l.invariant.0 (let t = c.loop-k-test.false in let n = c.count-k-end.ensures.count in omega (arith, t, n))

pub returns-clause-inside : goal.returns-clause-inside
returns-clause-inside c =
    let o = c.args.offer.now in
    let t = c.args.choosing.now in
    let l = c.loop-k in
    IsLaying-inside o.graph.now.vertices o.graph.now.ends o.items.now.touches o.meters o.prices.now t.keys t.since c.requires.chosen.order c.requires.offer.items
    l.k l.last l.laying.layers l.laying.inside l.invariant.0 (let t = c.loop-k-test.false in let n = c.count-k-end.ensures.count in omega (arith, t, n))

pub returns-clause-room : goal.returns-clause-room
returns-clause-room c = c.loop-k.invariant.2

pub count_item-tally-requires-clause-offer : goal.count_item-tally-requires-clause-offer
count_item-tally-requires-clause-offer c = c.requires.offer

pub count_item-tally-requires-clause-chosen : goal.count_item-tally-requires-clause-chosen
count_item-tally-requires-clause-chosen c = c.requires.chosen

pub count_item-tally-requires-clause-counted : goal.count_item-tally-requires-clause-counted
count_item-tally-requires-clause-counted c = c.loop-k.invariant.1

pub add_layer-requires-clause-offer : goal.add_layer-requires-clause-offer
add_layer-requires-clause-offer c = c.requires.offer

pub add_layer-requires-clause-known : goal.add_layer-requires-clause-known
add_layer-requires-clause-known c = rw c.since-then-raised.ensures.since c.requires.chosen.known

pub add_layer-requires-clause-live : goal.add_layer-requires-clause-live
add_layer-requires-clause-live c =
    let o = c.args.offer.now in
    let low : c.loop-k.k < length o.items.now.touches = let t = c.loop-k-test.true in let n = c.count-k-end.ensures.count in omega (arith, t, n) in
    let key = ap (λ (x : ℕ × ℕ). x.0) c.key-price.ensures.key ∙ c.requires.chosen.order.priced c.loop-k.k low in
    c.count_item-tally.ensures.counted.below ∙ ap (live_below o.graph.now.ends o.items.now.touches (price_in o)) (c.count_item-tally.ensures.price ∙ sym key)

pub add_layer-requires-clause-raised : goal.add_layer-requires-clause-raised
add_layer-requires-clause-raised c =
    let o = c.args.offer.now in
    let low : c.loop-k.k < length o.items.now.touches = let t = c.loop-k-test.true in let n = c.count-k-end.ensures.count in omega (arith, t, n) in
    let key = ap (λ (x : ℕ × ℕ). x.0) c.key-price.ensures.key ∙ c.requires.chosen.order.priced c.loop-k.k low in
    c.count_item-tally.ensures.counted.below_raised ∙ ap (raised_below o.graph.now.vertices o.graph.now.ends o.items.now.touches (price_in o)) (c.count_item-tally.ensures.price ∙ sym key)

pub add_layer-requires-clause-layers : goal.add_layer-requires-clause-layers
add_layer-requires-clause-layers c =
    let t = c.loop-k-test.true in
    let n = c.count-k-end.ensures.count in
    let b = c.loop-k.invariant.0.bound in
    let e = c.loop-k.invariant.2 in
    omega (arith, t, n, b, e, c.requires.room)

pub add_layer-requires-clause-inside : goal.add_layer-requires-clause-inside
add_layer-requires-clause-inside c = let e = c.loop-k.invariant.2 in omega (arith, e, c.requires.room)

pub add_layer-requires-clause-upto : goal.add_layer-requires-clause-upto
add_layer-requires-clause-upto c = rw c.since-then-raised.ensures.since c.loop-k.invariant.0.known

pub add_layer-requires-clause-order : goal.add_layer-requires-clause-order
add_layer-requires-clause-order c = rw c.since-then-raised.ensures.since c.loop-k.invariant.3

pub add_layer-requires-clause-first : goal.add_layer-requires-clause-first
add_layer-requires-clause-first c = rw c.since-then-raised.ensures.since c.loop-k.invariant.4
