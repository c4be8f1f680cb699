use Rattle.std.proofs.Common.{◌≡◌, ◌+◌, ◌-◌, ◌++◌, ℕ, List, refl, sym, ap, ◌∙◌, subst, arith, length}
use Rattle.std.specs.Prelude.{filter}
use Rattle.std.specs.List.{range_with_len}
use Rattle.std.proofs.lemmas.List.{length-append}
use Rattle.obs_placement.specs.inner.Choosing.{AreFirstBelow, Laying}
use Rattle.obs_placement.specs.Layers.{layer_outside, layer_rank}
use Rattle.obs_placement.specs.inner.Layers.{count_known, is_added}
use Rattle.obs_placement.specs.inner.Offer.{price_in}
use Rattle.obs_placement.proofs.Adding.{added_same, known_listed, known_most}
use Rattle.obs_placement.proofs.Tallied.{layer_live, layer_raised}
use Rattle.obs_placement.proofs.layering.add_layer.Goals as goal
use Rattle.obs_placement.proofs.layering.add_layer.Goals.{After-list_next}

-- what was laid out before, with the items of the layer listed
listed : (c : After-list_next)
    → c.list_next.new.self ≡ record c.args.laying.now {
      inside = c.args.laying.now.inside ++ filter (is_added c.args.since.now c.args.from c.args.to) (range_with_len 0 (length c.args.since.now));
    }
listed c = c.list_next.ensures.listed c.args.since.now c.args.from c.requires.order c.requires.first c.requires.rising

upto_is : (c : After-list_next) → length c.list_next.new.self.inside ≡ count_known c.args.since.now c.args.to
upto_is c =
    known_listed c.args.since.now c.args.from c.args.to c.requires.rising c.args.laying.now.inside c.list_next.new.self.inside c.requires.upto
    (ap (λ (x : Laying). x.inside) (listed c))

pub overflow_cast-listed : goal.overflow_cast-listed
overflow_cast-listed c =
    let e = ap length c.inside.ensures.inside ∙ upto_is (goal.at.overflow_cast-listed c).After-list_next in
    let most = known_most c.args.since.now c.args.to in
    let s = c.requires.known.count in
    let k = c.requires.offer.small in
    omega (arith, e, most, s, k)

pub overflow_sub-outside : goal.overflow_sub-outside
overflow_sub-outside c =
    let o = c.args.offer.now in
    let e = ap length c.inside.ensures.inside ∙ upto_is (goal.at.overflow_sub-outside c).After-list_next in
    let live = layer_live o.graph.now.vertices o.graph.now.ends o.items.now.touches o.meters o.prices.now c.requires.offer.branches c.args.to c.args.since.now c.requires.known.count
    (λ m. c.requires.known.known c.args.to m (let b = c.ranges.to.fits in omega (arith, b))) in
    let l = c.requires.live in
    omega (arith, e, live, l)

pub overflow_sub-tally : goal.overflow_sub-tally
overflow_sub-tally c =
    let o = c.args.offer.now in
    let e = ap length c.inside.ensures.inside ∙ upto_is (goal.at.overflow_sub-tally c).After-list_next in
    let live = layer_live o.graph.now.vertices o.graph.now.ends o.items.now.touches o.meters o.prices.now c.requires.offer.branches c.args.to c.args.since.now c.requires.known.count
    (λ m. c.requires.known.known c.args.to m (let b = c.ranges.to.fits in omega (arith, b))) in
    let raised = layer_raised o.graph.now.vertices o.graph.now.ends o.items.now.touches o.meters o.prices.now c.requires.offer.branches c.args.to in
    let l = c.requires.live in
    let r = c.requires.raised in
    omega (arith, e, live, raised, l, r)

pub returns-clause-layer : goal.returns-clause-layer
returns-clause-layer c =
    let o = c.args.offer.now in
    let before = c.args.laying.now.inside in
    let e = ap length c.inside.ensures.inside ∙ upto_is (goal.at.returns-clause-layer c).After-list_next in
    let live = layer_live o.graph.now.vertices o.graph.now.ends o.items.now.touches o.meters o.prices.now c.requires.offer.branches c.args.to c.args.since.now c.requires.known.count
    (λ m. c.requires.known.known c.args.to m (let b = c.ranges.to.fits in omega (arith, b))) in
    let raised = layer_raised o.graph.now.vertices o.graph.now.ends o.items.now.touches o.meters o.prices.now c.requires.offer.branches c.args.to in
    let l = c.requires.live in
    let r = c.requires.raised in
    let outside : c.args.tally.live_below - length c.inside.result.now ≡ layer_outside o.graph.now.vertices o.graph.now.ends o.items.now.touches (price_in o) c.args.to = omega (arith, e, live, l) in
    let rank : c.args.tally.raised_below - layer_outside o.graph.now.vertices o.graph.now.ends o.items.now.touches (price_in o) c.args.to
    ≡ layer_rank o.graph.now.vertices o.graph.now.ends o.items.now.touches (price_in o) c.args.to = omega (arith, raised, r) in
    let upto = ap length c.inside.ensures.inside
    ∙ (ap (λ (x : Laying). length x.inside) (listed (goal.at.returns-clause-layer c).After-list_next)
    ∙ (length-append before (filter (is_added c.args.since.now c.args.from c.args.to) (range_with_len 0 (length c.args.since.now)))
    ∙ ap (λ xs. length before + length xs) (added_same o.graph.now o.items.now.touches (price_in o) c.args.since.now c.args.from c.args.to c.requires.known.known c.requires.known.count
    (let b = c.ranges.from.fits in omega (arith, b)) (let b = c.ranges.to.fits in omega (arith, b))))) in
    rw (c.add.ensures.added, listed (goal.at.returns-clause-layer c).After-list_next, outside, rank, upto) refl

pub returns-clause-upto : goal.returns-clause-upto
returns-clause-upto c = ap (λ (x : Laying). length x.inside) c.add.ensures.added ∙ upto_is (goal.at.returns-clause-upto c).After-list_next

pub add-requires : goal.add-requires
add-requires c =
    let at = (goal.at.add-requires c).After-list_next in
    let layers = ap (λ (x : Laying). length x.layers) (listed at) in
    let room = ap (λ (x : Laying). x.room) (listed at) in
    let l = c.requires.layers in
    record { room = omega (arith, layers, room, l) }

pub returns-clause-listed : goal.returns-clause-listed
returns-clause-listed c =
    let o = c.args.offer.now in
    ap (λ (x : Laying). x.inside) c.add.ensures.added
    ∙ (ap (λ (x : Laying). x.inside) (listed (goal.at.returns-clause-listed c).After-list_next)
    ∙ ap (λ xs. c.args.laying.now.inside ++ xs) (added_same o.graph.now o.items.now.touches (price_in o) c.args.since.now c.args.from c.args.to c.requires.known.known c.requires.known.count
    (let b = c.ranges.from.fits in omega (arith, b)) (let b = c.ranges.to.fits in omega (arith, b))))

pub returns-clause-first : goal.returns-clause-first
returns-clause-first c =
    let r = c.requires in
    let e = listed (goal.at.returns-clause-first c).After-list_next in
    let below = c.list_next.ensures.below c.args.since.now c.args.from r.order r.first r.rising in
    subst (λ (n : ℕ). AreFirstBelow c.args.since.now c.args.laying.now.keys n c.args.to) (sym (ap (λ (x : Laying). length x.inside) c.add.ensures.added))
    (subst (λ (ks : List (ℕ × ℕ)). AreFirstBelow c.args.since.now ks (length c.list_next.new.self.inside) c.args.to) (ap (λ (x : Laying). x.keys) e) below)

pub returns-clause-keys : goal.returns-clause-keys
returns-clause-keys c = ap (λ (x : Laying). x.keys) c.add.ensures.added ∙ ap (λ (x : Laying). x.keys) (listed (goal.at.returns-clause-keys c).After-list_next)

pub returns-clause-room : goal.returns-clause-room
returns-clause-room c = ap (λ (x : Laying). x.room) c.add.ensures.added ∙ ap (λ (x : Laying). x.room) (listed (goal.at.returns-clause-room c).After-list_next)
