use Rattle.std.proofs.Common.{◌++◌, [], get_or, refl}
use Rattle.obs_outage.specs.declared.outages.Outage.{Outage}
use Rattle.obs_report.proofs.Printing.{finished, nothing_printed, then_printed}
use Rattle.obs_engine.specs.OutageReply.{outage_line}
use Rattle.obs_engine.proofs.Studied.{lines_all, lines_more}
use Rattle.obs_engine.proofs.print_outages.print_outages.Goals as goal

-- what an index gives past the end
abbrev none : Outage
none = record { branch = 0; rank = 0; needed = 0 }

pub loop-k-init : goal.loop-k-init
loop-k-init g c = ([], nothing_printed _, refl)

pub loop-k-preserved : goal.loop-k-preserved
loop-k-preserved g c =
    let inv = c.loop-k.invariant in
    let line = outage_line c.args.case.now in (
      inv.0 ++ line (get_or c.args.entries.now c.loop-k.k none),
      then_printed inv.1 c.print_outage.ensures.printed,
      lines_more line c.args.entries.now c.loop-k.k none inv.0 _ c.loop-k-test.true inv.2,
    )

pub returns : goal.returns
returns g c =
    let inv = c.loop-k.invariant in
    let line = outage_line c.args.case.now in
    let done = lines_all line c.args.entries.now c.loop-k.k inv.0 _ c.loop-k-test.false inv.2 in
    record { appends = finished c.new-lines.ensures.empty (then_printed (rw done at inv.1) c.line.ensures.printed) c.finish.ensures.printed }
