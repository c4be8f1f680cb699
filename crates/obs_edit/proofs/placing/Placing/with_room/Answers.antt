use Rattle.std.proofs.Common.{rules, ap, ◌∙◌}
use Rattle.obs_case.specs.Tables.{prices_of}
use Rattle.obs_edit.proofs.Priced.{cheap_prices, few_prices}
use Rattle.obs_edit.proofs.placing.Placing.with_room.Goals as goal

pub invariant_of-result : goal.invariant_of-result
invariant_of-result c =
    let listed = c.in-Ok.ensures.prices ∙ ap prices_of c.candidates.ensures.rows in
    record {
      few = few_prices c.args.case.now c.in-Ok.prices.items c.candidates.ensures.valid listed;
      cheap = cheap_prices c.args.case.now c.in-Ok.prices.items c.candidates.ensures.valid listed;
      paired = search rules;
    }
