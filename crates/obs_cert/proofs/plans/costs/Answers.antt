use Rattle.std.proofs.Common.{◌<◌, ◌^◌, sym, ◌∙◌, arith}
use Rattle.std.specs.List.{sum_by}
use Rattle.obs_cert.specs.Flaws.{shows}
use Rattle.obs_cert.specs.Numbered.{items_of}
use Rattle.obs_cert.specs.Scopes.{price_at}
use Rattle.obs_cert.specs.inner.Walked.{cost_of, parts_in}
use Rattle.obs_cert.proofs.ClaimLemmas.{costs_right, counted_right}
use Rattle.obs_cert.proofs.plans.costs.Goals as goal

pub returns : goal.returns
returns c =
    let t = c.args.case.now in
    let parts = parts_in c.args.rest.now in
    let fits : c.args.number < 2 ^ 64 = (let f = c.ranges.number in omega (arith, f)) in
    record {
      flaw =
          costs_right t (cost_of c.args.number parts) c.cost-chosen.result c.shown_cost-shown.result
          (rw (sym c.requires.needed, sym c.walk_layers.ensures.layers) (sym c.if-has_high.ensures.high))
          (rw (sym c.walk_layers-2.ensures.layers) (sym c.run_on.ensures.run ∙ c.if-not-run_on.false))
          (rw (sym c.walk_items.ensures.items) (counted_right (sum_by (price_at t) (items_of t c.walk_items.result)) c.args.number (sym c.cost-chosen.ensures.cost ∙ c.if-chosen-from.false ∙ c.from.ensures) fits))
          (rw (sym c.requires.needed, sym c.walk_layers-3.ensures.layers) (counted_right (sum_by (shows c.args.needed) c.walk_layers-3.result) c.args.number (sym c.shown_cost-shown.ensures.sum ∙ c.if-shown-from.false ∙ c.from-else-chosen-from.ensures) fits));
    }
