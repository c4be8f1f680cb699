use Rattle.std.proofs.Common.{◌++◌, [], get_or, refl}
use Rattle.obs_report.specs.Meters.{critical_line}
use Rattle.obs_report.proofs.Listed.{listed_more, listed_all}
use Rattle.obs_report.proofs.Printing.{nothing_printed, then_printed, finished}
use Rattle.obs_report.proofs.meters.print_critical.Goals as goal

pub loop-m-init : goal.loop-m-init
loop-m-init g c = ([], nothing_printed c.new-lines.result.outcome, refl)

pub loop-m-preserved : goal.loop-m-preserved
loop-m-preserved g c =
    let inv = c.loop-m.invariant in
    let line = critical_line c.args.case.now in (
      inv.0 ++ line (get_or c.args.list.now c.loop-m.m-index 0),
      then_printed inv.1 c.print_meter.ensures.printed,
      listed_more line c.args.list.now c.loop-m.m-index _ inv.0 _ c.loop-m-test.true refl inv.2,
    )

pub returns : goal.returns
returns g c =
    let inv = c.loop-m.invariant in
    let line = critical_line c.args.case.now in
    let done = listed_all line c.args.list.now c.loop-m.m-index inv.0 _ c.loop-m-test.false inv.2 in
    record { appends = finished c.new-lines.ensures.empty (rw done at inv.1) c.finish.ensures.printed }
