use Rattle.std.proofs.Common.{◌<◌, None, length, ◌∙◌, arith, below_more, get_or-set_same, get_or-set_other}
use Rattle.std.proofs.lemmas.List.{ext_get_or, get_or_default, length-set}
use Rattle.obs_outage.proofs.rowless.copy_ends.Goals as goal

pub loop-e-init : goal.loop-e-init
loop-e-init c = (c.requires.one_each, λ k l. absurd (omega (arith, l)))

pub loop-e-preserved : goal.loop-e-preserved
loop-e-preserved c =
    let l = c.loop-e in
    let len = l.invariant.0 in
    let test = c.loop-e-test.true in
    let count = c.positions-e-end.ensures.count in
    let low : l.e < length l.ends = omega (arith, len, test, count) in (
      length-set l.ends l.e c.ends.result ∙ len,
      below_more _ _ (λ k b. get_or-set_other l.ends l.e k c.ends.result None (omega (arith, b)) ∙ l.invariant.1 k b) (get_or-set_same l.ends l.e c.ends.result None low ∙ c.ends.ensures.ends ∙ get_or_default c.args.g.now.ends l.e c.ends.result None (omega (arith, test, count))),
    )

pub returns : goal.returns
returns c =
    let l = c.loop-e in
    let past = c.loop-e-test.false in
    let count = c.positions-e-end.ensures.count in
    record { ends = ext_get_or None l.ends c.args.g.now.ends l.invariant.0 (λ k b. l.invariant.1 k (let len = l.invariant.0 in omega (arith, b, past, count, len))) }
