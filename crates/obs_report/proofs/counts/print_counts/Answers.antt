use Rattle.obs_report.proofs.Printing.{then_printed, finished}
use Rattle.obs_report.proofs.counts.print_counts.Goals as goal

pub returns : goal.returns
returns g c =
    let buses = rw (c.count-buses.ensures.count, c.buses.ensures.buses) at c.print_count_line.ensures.printed in
    let energised = rw c.count_energised-energised.ensures.energised at c.print_count_line-2.ensures.printed in
    let branches = rw c.live_branches-branches.ensures.count at c.print_count_line-3.ensures.printed in
    let meters = rw (c.count_live-meters.ensures.live, c.graph-graph.ensures.graph, c.meters.ensures.meters) at c.print_count_line-4.ensures.printed in
    let needed = rw c.needed-needed.ensures.needed at c.print_count_line-5.ensures.printed in
    let verdict = rw c.needed-needed.ensures.needed at c.print_verdict.ensures.printed in
    let lines = then_printed buses (then_printed energised (then_printed branches (then_printed meters (then_printed needed (then_printed c.print_count_line-6.ensures.printed verdict))))) in
    record { appends = finished c.new-lines.ensures.empty lines c.finish.ensures.printed }
