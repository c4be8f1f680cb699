use Rattle.std.proofs.Common.{◌<◌, ◌≤◌, ◌++◌, [], ◌∷◌, None, length, get_or, ap, refl, arith}
use Rattle.std.specs.List.{flat_map}
use Rattle.obs_matroid.specs.inner.Slots.{pairs_from, pairs_of}
use Rattle.obs_report.specs.Items.{pair_line}
use Rattle.obs_report.proofs.OfPairs.{held_branch, offered_branch}
use Rattle.obs_report.proofs.Printing.{nothing_printed, then_printed}
use Rattle.obs_report.proofs.Slotted.{slot_more, slot_none}
use Rattle.obs_report.proofs.placements.print_pairs.Goals as goal

pub loop-m-init : goal.loop-m-init
loop-m-init g c = ([], nothing_printed c.args.lines.now.outcome, refl)

pub branch_of-branch-requires : goal.branch_of-branch-requires
branch_of-branch-requires g c =
    record { m = omega (arith, c.loop-m-test.true, c.requires.pairs.items, ap length c.meters.ensures.rows, ap length c.candidates.ensures.rows) }

pub print_pair-requires-clause-branch : goal.print_pair-requires-clause-branch
print_pair-requires-clause-branch g c =
    let t = c.args.case.now in
    rw c.branch_of-branch.ensures.branch (held_branch t c.args.pairs.now (λ m e h. offered_branch t c.meters.ensures.valid m e (c.requires.pairs.touched m e h)) c.loop-m.m)

pub print_pair-requires-clause-item : goal.print_pair-requires-clause-item
print_pair-requires-clause-item g c = omega (arith, c.loop-m-test.true, ap length c.meters.ensures.rows, ap length c.candidates.ensures.rows)

pub loop-m-preserved : goal.loop-m-preserved
loop-m-preserved g c =
    let inv = c.loop-m.invariant in
    let line = pair_line c.args.case.now in
    let slots = c.args.pairs.now.slots in
    let m = c.loop-m.m in
    let low : m < length slots = omega (arith, c.loop-m-test.true, c.requires.pairs.items, ap length c.meters.ensures.rows, ap length c.candidates.ensures.rows) in
    let here = rw c.branch_of-branch.ensures.branch at c.print_pair.ensures.printed in (
      inv.0 ++ flat_map line (pairs_from m (get_or slots m None ∷ [])),
      then_printed inv.1 here,
      slot_more line slots m inv.0 (flat_map line (pairs_of slots)) low inv.2,
    )

pub returns : goal.returns
returns g c =
    let inv = c.loop-m.invariant in
    let line = pair_line c.args.case.now in
    let slots = c.args.pairs.now.slots in
    let past : length slots ≤ c.loop-m.m = omega (arith, c.loop-m-test.false, c.requires.pairs.items, ap length c.meters.ensures.rows, ap length c.candidates.ensures.rows) in
    let done = slot_none line slots c.loop-m.m inv.0 (flat_map line (pairs_of slots)) past inv.2 in
    record { printed = rw done at inv.1 }
