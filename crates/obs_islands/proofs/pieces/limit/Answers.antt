use Rattle.std.proofs.Common.{arith}
use Rattle.obs_islands.proofs.Noting.{Above-ended, Above-next}
use Rattle.obs_islands.proofs.pieces.limit.Goals as goal
use Rattle.obs_islands.proofs.pieces.limit.Goals.{then-limit-end, else-limit-end}

pub loop-m-init : goal.loop-m-init
loop-m-init c = record { low = omega arith; above = λ m e h l is i. absurd (omega (arith, l)) }

pub loop-m-preserved : goal.loop-m-preserved
loop-m-preserved c =
    let l = c.loop-m in
    let next = Above-next c.args.g.now.ends c.args.used.now.touches l.m l.limit l.invariant.above c.end_at_hub-end.result in
    elim c.if-limit-end.branch [
      | then-limit-end w ↦ rw w.limit-is (record {
        low = c.end_at_hub-end.ensures.low;
        above = next c.end_at_hub-end.result c.end_at_hub-end.ensures.above (omega (arith, w.if-limit-end.true)) (omega arith);
      })
      | else-limit-end w ↦ rw w.limit-is (record {
        low = l.invariant.low;
        above = next l.limit c.end_at_hub-end.ensures.above (omega arith) (omega (arith, w.if-limit-end.false));
      })
    ]

pub returns-clause-above : goal.returns-clause-above
returns-clause-above c =
    let l = c.loop-m in
    Above-ended c.args.g.now.ends c.args.used.now.touches l.m l.limit l.invariant.above (omega (arith, c.loop-m-test.false, l.auto.m-end, c.count-m-end.ensures.count))
