use Rattle.std.proofs.Common.{◌∙◌, ap}
use Rattle.obs_case.specs.Tables.{Tables}
use Rattle.obs_report.specs.Islands.{islands_text}
use Rattle.obs_engine.specs.Asks.{block_text}
use Rattle.obs_engine.specs.declared.blocks.Block.TheVariants.{Islands}
use Rattle.obs_engine.proofs.Asked.{appends_as, islands_are, islands_few, islands_low}
use Rattle.obs_engine.proofs.print_asks.print_case_islands.Goals as goal

pub print_islands-requires-clause-one_each : goal.print_islands-requires-clause-one_each
print_islands-requires-clause-one_each g c =
    islands_few c.find_islands.new.self.tables c.found_islands.result.now c.network.result.now c.network.ensures.network c.found_islands.ensures.islands

pub print_islands-requires-clause-low : goal.print_islands-requires-clause-low
print_islands-requires-clause-low g c = λ bus low.
    islands_low c.find_islands.new.self.tables c.present.ensures.valid c.found_islands.result.now c.found_islands.ensures.islands bus low

pub returns-clause-appends : goal.returns-clause-appends
returns-clause-appends g c =
    appends_as
    (ap (λ (t : Tables). islands_text t c.found_islands.result.now) c.present.ensures.case
    ∙ (islands_are c.find_islands.new.self.tables c.found_islands.result.now c.found_islands.ensures.islands ∙ ap (λ (t : Tables). block_text Islands t) c.find_islands.ensures.tables))
    c.print_islands.ensures.appends
