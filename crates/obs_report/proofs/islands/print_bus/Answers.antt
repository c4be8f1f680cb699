use Rattle.std.proofs.Common.{ℕ, ◌≡◌, ◌∙◌, ◌<◌, ◌≤◌, false, get_or, sym, ap, subst, append-nil, arith}
use Rattle.std.specs.Prelude.{slice_index, slice_index_or}
use Rattle.obs_network.specs.Network.{Network}
use Rattle.obs_report.specs.Islands.{is_energised_bus, island_line}
use Rattle.obs_report.proofs.Passed.{passed, passed_over}
use Rattle.obs_report.proofs.Printing.{nothing_printed, then_line}
use Rattle.obs_report.proofs.islands.print_bus.Goals as goal
use Rattle.obs_report.proofs.islands.print_bus.Given.{Over}
use Rattle.obs_report.proofs.islands.print_bus.Goals.{After-energised}

-- whether the bus is one of an energised component
energised_bus : (g : Over) (c : After-energised g) → is_energised_bus c.args.present.now c.args.bus ≡ c.energised.result
energised_bus g c =
    let here = ap (λ k. slice_index_or c.network-network.result.now.components.energised k false) c.component.ensures.component in
    let there = ap (λ (n : Network). slice_index_or n.components.energised (slice_index n.components.of_buses c.args.bus) false) c.network-network.ensures.network in
    sym (c.energised.ensures.energised ∙ (here ∙ there))

pub component-requires : goal.component-requires
component-requires g c = record { bus = subst (λ (n : Network). c.args.bus < n.buses.count) (sym c.network-network.ensures.network) c.requires.bus }

pub energised-requires : goal.energised-requires
energised-requires g c = record { component = c.component.ensures.below }

pub print_island-requires-clause-first : goal.print_island-requires-clause-first
print_island-requires-clause-first g c =
    let low : get_or c.args.islands.now c.args.bus 0 ≤ c.args.bus = c.requires.low in
    omega (arith, low, c.requires.bus)

pub returns-then-energised : goal.returns-then-energised
returns-then-energised g c =
    let t = c.args.present.now in
    let line = (λ (bus : ℕ). island_line t (slice_index c.args.islands.now bus) bus) in
    let shown = energised_bus g (goal.at.returns-then-energised g c).After-energised ∙ c.if-energised.true in
    record { printed = then_line c.print_island.ensures.printed (nothing_printed _) (append-nil _ ∙ sym (passed line (is_energised_bus t) c.args.bus shown)) }

pub returns-else-energised : goal.returns-else-energised
returns-else-energised g c =
    let t = c.args.present.now in
    let line = (λ (bus : ℕ). island_line t (slice_index c.args.islands.now bus) bus) in
    let hidden = energised_bus g (goal.at.returns-else-energised g c).After-energised ∙ c.if-energised.false in
    record { printed = then_line (nothing_printed _) (nothing_printed _) (sym (passed_over line (is_energised_bus t) c.args.bus hidden)) }
