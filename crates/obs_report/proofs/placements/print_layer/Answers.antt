use Rattle.std.proofs.Common.{ℕ, ◌<◌}
use Rattle.std.proofs.lemmas.List.Elements.{All-drop, All-take}
use Rattle.obs_network.specs.Network.{case_item_count}
use Rattle.obs_report.proofs.Printing.{then_printed}
use Rattle.obs_report.proofs.placements.print_layer.Goals as goal

pub print_list-requires : goal.print_list-requires
print_list-requires g c =
    let P = (λ (m : ℕ). m < case_item_count c.args.case.now) in
    record { inside = All-take P _ _ (All-drop P _ _ c.requires.inside) }

pub returns : goal.returns
returns g c = record { printed = then_printed c.print_numbers.ensures.printed c.print_list.ensures.printed }
