use Rattle.std.proofs.Common.{◌≡◌, ◌<◌, ◌+◌, ◌-◌, ◌∙◌, ap, sym, arith}
use Rattle.std.specs.Prelude.{flat_map}
use Rattle.std.specs.List.{range_with_len}
use Rattle.obs_case.specs.Tables.{Tables}
use Rattle.obs_network.specs.Network.{case_component_count}
use Rattle.obs_report.proofs.Printing.{failed_call, then_call}
use Rattle.obs_engine.specs.Asks.{component_claim}
use Rattle.obs_engine.proofs.Asked.{appends_as, claims_are, texts_around, texts_below, texts_more}
use Rattle.obs_network.proofs.OfCase.{count_of}
use Rattle.obs_engine.proofs.print_claims.print_claims.Goals as goal

pub print_claim-requires : goal.print_claim-requires
print_claim-requires g c = record {
  component =
      let n = count_of c.network.result.now c.args.session.now.tables c.network.ensures.network in
      let k = c.components-c-end.ensures.count in
      let t = ap (λ (t : Tables). case_component_count t) c.loop-c.invariant.0 in
      let low = c.loop-c-test.true in
      omega (arith, n, k, t, low);
}

pub loop-c-preserved : goal.loop-c-preserved
loop-c-preserved g c =
    let t = c.args.session.now.tables in
    let text = component_claim c.args.trees c.args.bounds t in (
      c.in-Ok.ensures.tables ∙ c.loop-c.invariant.0,
      c.in-Ok.ensures.offered ∙ c.loop-c.invariant.1,
      appends_as (sym (texts_more text c.loop-c.c))
          (then_call c.loop-c.invariant.2 (appends_as (ap (λ (x : Tables). component_claim c.args.trees c.args.bounds x c.loop-c.c) c.loop-c.invariant.0) c.in-Ok.ensures.appends)),
    )

pub returns-in-Err-clause-appends : goal.returns-in-Err-clause-appends
returns-in-Err-clause-appends g c =
    let t = c.args.session.now.tables in
    let text = component_claim c.args.trees c.args.bounds t in
    let n = count_of c.network.result.now t c.network.ensures.network in
    let k = c.components-c-end.ensures.count in
    let l = c.loop-c-test.true in
    let low : c.loop-c.c < case_component_count t = omega (arith, n, k, l) in
    appends_as (texts_around text c.loop-c.c (case_component_count t) low ∙ claims_are c.args.trees c.args.bounds t)
    (failed_call (flat_map text (range_with_len (c.loop-c.c + 1) (case_component_count t - (c.loop-c.c + 1))))
    (then_call c.loop-c.invariant.2 (appends_as (ap (λ (x : Tables). component_claim c.args.trees c.args.bounds x c.loop-c.c) c.loop-c.invariant.0) c.in-Err.ensures.appends)))

pub returns-clause-appends : goal.returns-clause-appends
returns-clause-appends g c =
    let t = c.args.session.now.tables in
    let text = component_claim c.args.trees c.args.bounds t in
    let n = count_of c.network.result.now t c.network.ensures.network in
    let k = c.components-c-end.ensures.count in
    let up = c.loop-c.auto.c-end in
    let down = c.loop-c-test.false in
    let end : c.loop-c.c ≡ case_component_count t = omega (arith, n, k, up, down) in
    appends_as (ap (texts_below text) end ∙ claims_are c.args.trees c.args.bounds t) c.loop-c.invariant.2
