use Rattle.std.proofs.Common.{◌∙◌, ◌∷◌, [], ap, arith, drop, get_or, List, refl, suc, ℕ}
use Rattle.std.proofs.lemmas.List.{take_all, take_more}
use Rattle.obs_engine.specs.Lines.{ended_after, lines_text}
use Rattle.obs_engine.proofs.Asked.{appends_as, appends_nothing}
use Rattle.obs_engine.proofs.Lined.{fed_failed, fed_more, split_at_byte}
use Rattle.obs_engine.proofs.line_answers.answer_bytes.Goals as goal

pub loop-k-init : goal.loop-k-init
loop-k-init g c = (refl, λ line holds. record { holds = holds; tables = refl; printed = appends_nothing tt _ _ _ })

pub loop-k-preserved : goal.loop-k-preserved
loop-k-preserved g c = (
  c.in-Ok.ensures.offered ∙ c.loop-k.invariant.0,
  λ line holds.
      let bytes = c.args.bytes.now in
      let k = c.loop-k.k in
      fed_more (c.loop-k.invariant.1 line holds) _ c.loop-k.invariant.0 (get_or bytes k 0 ∷ []) c.in-Ok.ensures.held c.in-Ok.ensures.tables c.in-Ok.ensures.appends _ (take_more bytes k 0 c.loop-k-test.true),
)

pub returns-in-Err-clause-offered : goal.returns-in-Err-clause-offered
returns-in-Err-clause-offered g c = c.in-Err.ensures.offered ∙ c.loop-k.invariant.0

pub returns-in-Err-clause-appends : goal.returns-in-Err-clause-appends
returns-in-Err-clause-appends g c = λ line holds.
    let bytes = c.args.bytes.now in
    let k = c.loop-k.k in
    fed_failed (c.loop-k.invariant.1 line holds) _ c.loop-k.invariant.0 (get_or bytes k 0 ∷ []) c.in-Err.ensures.appends (drop (suc k) bytes) bytes (split_at_byte bytes k c.loop-k-test.true)

pub returns-clause-appends : goal.returns-clause-appends
returns-clause-appends g c = λ line holds.
    let bytes = c.args.bytes.now in
    let all = take_all c.loop-k.k bytes (omega (arith, c.loop-k-test.false)) in
    appends_as (ap (λ (bs : List ℕ). lines_text c.args.session.now.offered c.args.session.now.tables (ended_after line bs)) all) (c.loop-k.invariant.1 line holds).printed

pub returns-clause-held : goal.returns-clause-held
returns-clause-held g c = λ line holds. let all = take_all c.loop-k.k c.args.bytes.now (omega (arith, c.loop-k-test.false)) in rw all at (c.loop-k.invariant.1 line holds).holds

pub returns-clause-tables : goal.returns-clause-tables
returns-clause-tables g c = λ line holds. let all = take_all c.loop-k.k c.args.bytes.now (omega (arith, c.loop-k-test.false)) in rw all at (c.loop-k.invariant.1 line holds).tables
