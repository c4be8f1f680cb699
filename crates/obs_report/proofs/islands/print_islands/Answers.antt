use Rattle.std.proofs.Common.{◌≡◌, ◌+◌, ◌-◌, ◌<◌, ◌≤◌, ◌∙◌, ◌++◌, [], ◌∷◌, length, ap, arith}
use Rattle.std.specs.List.{range_with_len}
use Rattle.std.specs.Prelude.{slice_index}
use Rattle.obs_switch.specs.Held.{Buses}
use Rattle.obs_network.specs.Network.{Network, case_component_count}
use Rattle.obs_network.specs.Switched.{case_bus_count}
use Rattle.obs_report.specs.Islands.{is_energised_bus, island_line, island_lines, islands_text}
use Rattle.obs_report.proofs.Passed.{row_all, row_more}
use Rattle.obs_report.proofs.Printing.{nothing_printed, then_printed, finished}
use Rattle.obs_report.proofs.islands.print_islands.Goals as goal
use Rattle.obs_report.proofs.islands.print_islands.Given.{Over}
use Rattle.obs_report.proofs.islands.print_islands.Goals.{After-count-bus-end}

-- so many buses are counted
counted : (g : Over) (c : After-count-bus-end g) → c.count-bus-end.result ≡ case_bus_count c.args.case.now
counted g c = c.count-bus-end.ensures.count ∙ (ap (λ (b : Buses). b.count) c.buses.ensures.buses ∙ ap (λ (n : Network). n.buses.count) c.requires.network)

-- each bus has its place among the islands
placed : (g : Over) (c : After-count-bus-end g) → case_bus_count c.args.case.now ≤ length c.args.islands.now
placed g c =
    let t = c.args.case.now in
    let vertices : c.args.network.now.graph.vertices ≡ case_bus_count t + case_component_count t = ap (λ (n : Network). n.graph.vertices) c.requires.network in
    omega (arith, vertices, c.requires.one_each)

pub loop-bus-init : goal.loop-bus-init
loop-bus-init g c =
    let t = c.args.case.now in
    let all : case_bus_count t - 0 ≡ case_bus_count t = omega arith in
    ([], nothing_printed _, ap (λ n. island_lines t c.args.islands.now (range_with_len 0 n)) all)

pub print_bus-requires-clause-bus : goal.print_bus-requires-clause-bus
print_bus-requires-clause-bus g c =
    omega (arith, c.loop-bus-test.true, counted g (goal.at.print_bus-requires-clause-bus g c).After-count-bus-end, ap case_bus_count c.of-present.ensures.case)

pub print_bus-requires-clause-place : goal.print_bus-requires-clause-place
print_bus-requires-clause-place g c =
    let after = (goal.at.print_bus-requires-clause-place g c).After-count-bus-end in
    omega (arith, c.loop-bus-test.true, counted g after, placed g after)

pub print_bus-requires-clause-low : goal.print_bus-requires-clause-low
print_bus-requires-clause-low g c =
    let after = (goal.at.print_bus-requires-clause-low g c).After-count-bus-end in
    c.requires.low c.loop-bus.bus (omega (arith, c.loop-bus-test.true, counted g after, placed g after))

pub loop-bus-preserved : goal.loop-bus-preserved
loop-bus-preserved g c =
    let inv = c.loop-bus.invariant in
    let t = c.args.case.now in
    let islands = c.args.islands.now in
    let low : c.loop-bus.bus < case_bus_count t = omega (arith, c.loop-bus-test.true, counted g (goal.at.loop-bus-preserved g c).After-count-bus-end) in (
      inv.0 ++ island_lines t islands (c.loop-bus.bus ∷ []),
      then_printed inv.1 (rw c.of-present.ensures.case at c.print_bus.ensures.printed),
      row_more (λ bus. island_line t (slice_index islands bus) bus) (is_energised_bus t) c.loop-bus.bus (case_bus_count t) inv.0 (islands_text t islands) low inv.2,
    )

pub returns : goal.returns
returns g c =
    let inv = c.loop-bus.invariant in
    let t = c.args.case.now in
    let islands = c.args.islands.now in
    let past : case_bus_count t ≤ c.loop-bus.bus = omega (arith, c.loop-bus-test.false, counted g (goal.at.returns g c).After-count-bus-end) in
    let done = row_all (λ bus. island_line t (slice_index islands bus) bus) (is_energised_bus t) c.loop-bus.bus (case_bus_count t) inv.0 (islands_text t islands) past inv.2 in
    record { appends = finished c.new-lines.ensures.empty (rw done at inv.1) c.finish.ensures.printed }
