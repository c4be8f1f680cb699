use Rattle.std.proofs.Common.{◌≡◌, ℕ, arith, ap, ◌∙◌}
use Rattle.std.specs.Prelude.{if◌then◌else◌}
use Rattle.obs_meter.specs.Touches.{is_live}
use Rattle.obs_assign.specs.inner.Assignment.{has_flag}
use Rattle.obs_placement.specs.inner.Offer.{price_in}
use Rattle.obs_placement.specs.inner.Order.{item_at}
use Rattle.obs_placement.proofs.Tallied.{AreCounted-fewer, AreCounted-more, AreCounted-price, one_most}
use Rattle.obs_placement.proofs.counting.count_item.Goals as goal

pub overflow_add-result-2 : goal.overflow_add-result-2
overflow_add-result-2 c =
    let o = c.args.offer.now in
    let r = c.requires in
    let keys = c.args.choosing.now.keys in
    let order = r.chosen.order in
    let priced = ap (λ (x : ℕ × ℕ). x.0) c.key-price.ensures.key ∙ order.priced c.args.k r.k in
    let h = (AreCounted-price o.graph.now o.items.now.touches (price_in o) keys order c.args.k r.k c.args.tally r.counted r.offer.branches c.key-price.result.0 priced
    c.at_price-before.result c.at_price-before.ensures.same c.at_price-before.ensures.higher).0 in
    let fewer = AreCounted-fewer o.graph.now o.items.now.touches (price_in o) keys c.args.k c.at_price-before.result h in
    let few = h.few in
    let low = r.k in
    let most = r.offer.small in
    let one = one_most c.raised.result c.one_where-more.result c.one_where-more.ensures.value in
    omega (arith, fewer, few, low, most, one)

pub returns-clause-counted : goal.returns-clause-counted
returns-clause-counted c =
    let o = c.args.offer.now in
    let r = c.requires in
    let keys = c.args.choosing.now.keys in
    let order = r.chosen.order in
    let priced = ap (λ (x : ℕ × ℕ). x.0) c.key-price.ensures.key ∙ order.priced c.args.k r.k in
    let item : c.key-price.result.1 ≡ item_at keys c.args.k = ap (λ (x : ℕ × ℕ). x.1) c.key-price.ensures.key in
    let before = c.at_price-before.result in
    let h = AreCounted-price o.graph.now o.items.now.touches (price_in o) keys order c.args.k r.k c.args.tally r.counted r.offer.branches c.key-price.result.0 priced
    before c.at_price-before.ensures.same c.at_price-before.ensures.higher in
    let more = AreCounted-more o.graph.now o.items.now.touches (price_in o) keys order c.args.k r.k before h.0 h.1 in
    let live = c.one_where-live.ensures.value ∙ ap (λ b. if b then 1 else 0) (c.live.ensures.live ∙ ap (is_live o.graph.now.ends o.items.now.touches) item) in
    let raised = c.one_where-more.ensures.value ∙ ap (λ b. if b then 1 else 0) (c.raised.ensures.raised ∙ (ap (has_flag c.args.choosing.now.raised) item ∙ r.chosen.raised (item_at keys c.args.k) (order.low c.args.k r.k))) in
    rw (live, raised) more
