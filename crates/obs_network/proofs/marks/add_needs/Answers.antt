use Rattle.std.proofs.Common.{rules, ◌-◌, true, arith}
use Rattle.std.proofs.lemmas.List.Sums.{sum_by_more}
use Rattle.obs_network.proofs.marks.add_needs.Goals as goal
use Rattle.obs_network.proofs.marks.add_needs.Goals.{then-energised-c, else-energised-c}

pub loop-c-preserved : goal.loop-c-preserved
loop-c-preserved c =
    let before = c.loop-c.invariant.small in
    let more = sum_by_more (λ s. s) c.args.sizes.now c.loop-c.c 0 (omega (arith, c.loop-c-test.true)) in
    elim c.if-energised-c.branch [
      | then-energised-c w ↦ record { added = search rules; small = (let few = w.need_by-needed.ensures.few in omega (arith, before, more, few, w.needed-is)) }
      | else-energised-c w ↦ record { added = search rules; small = omega (arith, before, more, w.needed-is) }
    ]
