use Rattle.std.proofs.Common.{◌<◌, length, subst, sym, ◌∙◌, ap, arith}
use Rattle.std.specs.Prelude.{count_by, ◌==◌}
use Rattle.std.proofs.lemmas.List.{take_all}
use Rattle.obs_network.proofs.Marked.{sized_all, sized_more}
use Rattle.obs_network.proofs.marks.count_sizes.Goals as goal

pub returns : goal.returns
returns c = record {
  sizes = sized_all (length c.args.sizes.now) c.args.numbers.now c.loop-number.sizes (omega arith)
      (λ k l. c.loop-number.invariant k l ∙ ap (count_by (λ x. x == k)) (take_all c.loop-number.number-index c.args.numbers.now (omega arith)));
}

pub loop-number-preserved : goal.loop-number-preserved
loop-number-preserved c = λ k low.
    sized_more c.args.numbers.now c.loop-number.sizes c.loop-number.number-index k c.loop-number-test.true (subst (λ n. k < n) (sym (c.loop-number.auto.sizes ∙ c.fill.ensures.len)) low) (c.loop-number.invariant k low)
