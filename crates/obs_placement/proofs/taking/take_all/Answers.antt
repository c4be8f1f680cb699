use Rattle.std.proofs.Common.{◌<◌, length, refl, sym, ◌∙◌, subst, arith, slice_index_or}
use Rattle.obs_meter.specs.inner.Sizes.{Sizes}
use Rattle.obs_meter.specs.Touches.{is_live}
use Rattle.obs_placement.specs.inner.Offer.{HasRoomForOffer, price_in}
use Rattle.obs_placement.specs.inner.Order.{item_at}
use Rattle.obs_placement.proofs.Going.{AreTaken-ended, cheap_items, earlier_taken, idle_step, live_step}
use Rattle.obs_placement.proofs.Listing.{cheap_price}
use Rattle.obs_placement.proofs.taking.take_all.Goals as goal
use Rattle.obs_placement.proofs.taking.take_all.Goals.{then-live, else-live}

pub take-requires-clause-item : goal.take-requires-clause-item
take-requires-clause-item g c =
    let o = c.args.offer.now in
    let keys = c.args.keys.now in
    let order = c.requires.order in
    let l = c.loop-k in
    let h = l.invariant.0 in
    let low : l.k < length o.items.now.touches = let t = c.loop-k-test.true in let n = order.count in omega (arith, t, n) in
    record {
      low = order.low l.k low;
      live = sym {b = is_live o.graph.now.ends o.items.now.touches (item_at keys l.k)} c.live.ensures.live ∙ c.if-live.true;
      cheap = cheap_items (price_in o) (length o.items.now.touches) keys order (cheap_price o.meters o.prices.now c.requires.offer.cheap) l.k low;
      before = record {
        taken = earlier_taken o.graph.now o.items.now.touches (price_in o) keys c.requires.offer.branches order l.k l.taking.pairs l.taking.known.since l.raised low h.way;
        held = h.way.held;
        bounded = h.way.bounded;
        beside = record { count = h.way.since_count; standing = h.way.standing; flags = h.flags };
      };
    }

pub loop-k-preserved : goal.loop-k-preserved
loop-k-preserved g c =
    let o = c.args.offer.now in
    let G = o.graph.now in
    let T = o.items.now.touches in
    let price = price_in o in
    let keys = c.args.keys.now in
    let ok = c.requires.offer.branches in
    let order = c.requires.order in
    let l = c.loop-k in
    let h = l.invariant.0 in
    let cheap = cheap_price o.meters o.prices.now c.requires.offer.cheap in
    let low : l.k < length T = let t = c.loop-k-test.true in let n = order.count in omega (arith, t, n) in
    elim c.if-live.branch [
      | then-live b ↦
          let e = b.take.ensures.taken in
          let after = b.take.new.self in
          rw (b.taking-is, b.raised-is) (
            record {
              way = live_step G T price keys ok order l.k l.taking.pairs l.taking.known.since l.raised low h.way after.pairs after.known.since (slice_index_or keys l.k (0, 0)).0 b.take.result
                  (cheap_items price (length T) keys order cheap l.k low) (order.priced l.k low) (e.taken.beside.count ∙ sym h.way.since_count) e.taken.beside.standing e.taken.held e.taken.taken e.added e.chosen
                  (sym {b = is_live G.ends T (item_at keys l.k)} c.live.ensures.live ∙ b.if-live.true);
              flags = e.taken.beside.flags;
            },
            b.take.ensures.same_sizes ∙ l.invariant.1,
          )
      | else-live b ↦ rw (b.taking-is, b.raised-is) (
        record {
          way = idle_step G T price keys ok order l.k l.taking.pairs l.taking.known.since l.raised low h.way (cheap (item_at keys l.k)) (sym {b = is_live G.ends T (item_at keys l.k)} c.live.ensures.live ∙ b.if-live.false);
          flags = h.flags;
        },
        l.invariant.1,
      )
    ]

pub returns-clause-taken : goal.returns-clause-taken
returns-clause-taken g c =
    let o = c.args.offer.now in
    let l = c.loop-k in
    let way = l.invariant.0.way in
    record {
      count = way.since_count;
      taken = AreTaken-ended o.graph.now o.items.now.touches (price_in o) c.args.keys.now c.requires.offer.branches c.requires.order
          l.k l.taking.pairs l.taking.known.since l.raised (let t = c.loop-k-test.false in let n = c.requires.order.count in omega (arith, t, n)) way;
      standing = way.standing;
    }

pub take-requires-clause-offer : goal.take-requires-clause-offer
take-requires-clause-offer g c = c.requires.offer

pub take-requires-clause-room : goal.take-requires-clause-room
take-requires-clause-room g c = subst (λ (s : Sizes). HasRoomForOffer s c.args.offer.now) (sym c.loop-k.invariant.1) c.requires.room

pub loop-k-init : goal.loop-k-init
loop-k-init g c = (c.requires.begun, refl)

pub returns-clause-same_sizes : goal.returns-clause-same_sizes
returns-clause-same_sizes g c = c.loop-k.invariant.1

pub bounds-raised-c : goal.bounds-raised-c
bounds-raised-c g c =
    let order = c.requires.order in
    let t = c.loop-k-test.true in
    let n = order.count in
    let low = order.low c.loop-k.k (omega (arith, t, n)) in
    let all = c.loop-k.invariant.0.way.raised_count in
    omega (arith, low, all)

pub live-requires-clause-item : goal.live-requires-clause-item
live-requires-clause-item g c =
    let t = c.loop-k-test.true in
    let n = c.requires.order.count in
    c.requires.order.low c.loop-k.k (omega (arith, t, n))

pub live-requires-clause-in_range : goal.live-requires-clause-in_range
live-requires-clause-in_range g c = c.requires.offer.in_range _ _ (live-requires-clause-item g c)
