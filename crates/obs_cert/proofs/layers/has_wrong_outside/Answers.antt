use Rattle.std.proofs.Common.{◌∷◌, List, sym, ◌∙◌, subst, arith}
use Rattle.obs_cert.specs.Claims.{Layer}
use Rattle.obs_cert.specs.inner.Given.{layer_said}
use Rattle.obs_cert.proofs.OutsideLemmas.{IsMeasuring, measuring_on, measuring_start, measuring_wrong}
use Rattle.obs_cert.proofs.layers.has_wrong_outside.Goals as goal
use Rattle.obs_cert.proofs.layers.has_wrong_outside.Goals.{After-from}

pub loop-layer-init : goal.loop-layer-init
loop-layer-init c = rw c.into_iter-layer-iterator.ensures.into_iter_gives (measuring_start c.args.case.now c.args.layers c.requires.inside c.requires.once)

here : (c : After-from) → IsMeasuring c.args.case.now (layer_said c.in-Some.layer ∷ c.next.new.self) c.args.layers c.loop-layer.listed
here c = subst (λ (ls : List Layer). IsMeasuring c.args.case.now ls c.args.layers c.loop-layer.listed) c.in-Some.ensures.steps c.loop-layer.invariant

pub loop-layer-preserved : goal.loop-layer-preserved
loop-layer-preserved c =
    measuring_on c.args.case.now (layer_said c.in-Some.layer) c.next.new.self c.args.layers c.loop-layer.listed c.count-listed.result (here (goal.at.loop-layer-preserved c).After-from)
    (rw (sym c.walk_items.ensures.items) c.count-listed.ensures.count)
    c.count_below.result c.count_below.ensures.count (let f = c.count_below.type_inv in omega (arith, f)) (sym (c.from.ensures ∙ c.saturating_sub-outside.ensures) ∙ c.if-from-layer.false)

pub returns-then-from-layer : goal.returns-then-from-layer
returns-then-from-layer c = record {
  outside =
      measuring_wrong c.args.case.now (layer_said c.in-Some.layer) c.next.new.self c.args.layers c.loop-layer.listed c.count-listed.result (here (goal.at.returns-then-from-layer c).After-from)
      (rw (sym c.walk_items.ensures.items) c.count-listed.ensures.count)
      c.count_below.result c.count_below.ensures.count (let f = c.count_below.type_inv in omega (arith, f)) (λ e. c.if-from-layer.true (c.from.ensures ∙ c.saturating_sub-outside.ensures ∙ e));
}
