use Rattle.std.proofs.Common.{ap, ◌∙◌, arith}
use Rattle.obs_case.specs.Tables.{Tables}
use Rattle.obs_report.specs.Meters.{component_name}
use Rattle.obs_report.proofs.Printing.{then_printed, finished}
use Rattle.obs_report.proofs.meters.print_bound.Goals as goal

pub print_list-requires : goal.print_list-requires
print_list-requires g c = record { inside = λ k d l. let low = c.requires.inside k d l in omega (arith, low) }

pub returns : goal.returns
returns g c =
    let numbers = rw (c.component_name-name.ensures.name ∙ ap (λ (s : Tables). component_name s c.args.c) c.of.ensures.case) at c.print_numbers.ensures.printed in
    record { appends = finished c.new-lines.ensures.empty (then_printed numbers c.print_list.ensures.printed) c.finish.ensures.printed }
