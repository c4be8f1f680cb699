use Rattle.std.proofs.Common.{◌++◌, [], get_or, refl, arith}
use Rattle.obs_network.proofs.OfCase.{length-case_meters}
use Rattle.obs_report.proofs.Listed.{listed_more, listed_all}
use Rattle.obs_report.proofs.OfPairs.{held_branch, meter_branch, slot_lines}
use Rattle.obs_report.proofs.Printing.{nothing_printed, then_printed}
use Rattle.obs_report.proofs.trees.print_pairs.Goals as goal

pub loop-m-init : goal.loop-m-init
loop-m-init g c = ([], nothing_printed c.args.lines.now.outcome, refl)

pub branch_of-requires : goal.branch_of-requires
branch_of-requires g c =
    let low = c.requires.meters c.loop-m.m-index 0 c.loop-m-test.true in
    record { m = omega (arith, low, c.requires.pairs.meters, length-case_meters c.args.case.now) }

pub print_pair-requires-clause-item : goal.print_pair-requires-clause-item
print_pair-requires-clause-item g c = let low = c.requires.meters c.loop-m.m-index 0 c.loop-m-test.true in omega (arith, low)

pub print_pair-requires-clause-branch : goal.print_pair-requires-clause-branch
print_pair-requires-clause-branch g c =
    let t = c.args.case.now in
    rw c.branch_of.ensures.branch
    (held_branch t c.args.pairs.now (λ m e h. meter_branch t c.requires.valid m e (c.requires.pairs.touched m e h)) (get_or c.args.meters.now c.loop-m.m-index 0))

pub loop-m-preserved : goal.loop-m-preserved
loop-m-preserved g c =
    let inv = c.loop-m.invariant in
    let f = slot_lines c.args.case.now c.args.pairs.now in
    let here = rw c.branch_of.ensures.branch at c.print_pair.ensures.printed in (
      inv.0 ++ f (get_or c.args.meters.now c.loop-m.m-index 0),
      then_printed inv.1 here,
      listed_more f c.args.meters.now c.loop-m.m-index _ inv.0 _ c.loop-m-test.true refl inv.2,
    )

pub returns : goal.returns
returns g c =
    let inv = c.loop-m.invariant in
    let f = slot_lines c.args.case.now c.args.pairs.now in
    let done = listed_all f c.args.meters.now c.loop-m.m-index inv.0 _ c.loop-m-test.false inv.2 in
    record { printed = rw done at inv.1 }
