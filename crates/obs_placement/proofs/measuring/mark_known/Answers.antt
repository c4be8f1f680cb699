use Rattle.std.proofs.Common.{ap, sym, ltb, arith}
use Rattle.std.proofs.lemmas.List.{get_or_default}
use Rattle.obs_placement.specs.inner.Taking.{never}
use Rattle.obs_placement.proofs.Measures.{AreTested-next, AreTested-none}
use Rattle.obs_placement.proofs.measuring.mark_known.Goals as goal

pub bounds-marks-m : goal.bounds-marks-m
bounds-marks-m c = let t = c.loop-m-test.true in let n = c.loop-m.invariant.count in omega (arith, t, n)

pub loop-m-init : goal.loop-m-init
loop-m-init c = AreTested-none _ _ c.args.marks.now c.requires.count

pub loop-m-preserved : goal.loop-m-preserved
loop-m-preserved c =
    let low = c.loop-m-test.true in
    AreTested-next _ _ c.loop-m.m c.loop-m.marks low _ (ap (λ s. ltb s c.args.to) (sym (get_or_default c.args.since.now c.loop-m.m never 0 low))) c.loop-m.invariant

pub returns-clause-marks : goal.returns-clause-marks
returns-clause-marks c = let end = c.loop-m-test.false in λ m l. c.loop-m.invariant.is m (omega (arith, l, end))
