use Rattle.std.proofs.Common.{◌++◌, [], get_or, refl}
use Rattle.obs_report.specs.Placements.{chosen_line}
use Rattle.obs_report.proofs.Listed.{listed_more, listed_all}
use Rattle.obs_report.proofs.Printing.{nothing_printed, then_printed}
use Rattle.obs_report.proofs.placements.print_chosen.Goals as goal

pub loop-k-init : goal.loop-k-init
loop-k-init g c = ([], nothing_printed c.args.lines.now.outcome, refl)

pub loop-k-preserved : goal.loop-k-preserved
loop-k-preserved g c =
    let inv = c.loop-k.invariant in
    let line = chosen_line c.args.case.now in (
      inv.0 ++ line (get_or c.args.chosen.now c.loop-k.k-index 0),
      then_printed inv.1 c.print_choice.ensures.printed,
      listed_more line c.args.chosen.now c.loop-k.k-index _ inv.0 _ c.loop-k-test.true refl inv.2,
    )

pub returns : goal.returns
returns g c =
    let inv = c.loop-k.invariant in
    let line = chosen_line c.args.case.now in
    let done = listed_all line c.args.chosen.now c.loop-k.k-index inv.0 _ c.loop-k-test.false inv.2 in
    record { printed = rw done at inv.1 }
