use Rattle.std.proofs.Common.{◌++◌, ap, List}
use Rattle.obs_report.specs.Lines.{last_line}
use Rattle.obs_report.proofs.Printing.{failed_call, then_call}
use Rattle.obs_engine.specs.declared.blocks.Block.{Block}
use Rattle.obs_engine.specs.Asks.{blocks_text}
use Rattle.obs_engine.proofs.Asked.{appends_as}
use Rattle.obs_engine.proofs.print_asks.print_ask.Goals as goal

pub returns-in-Ok-clause-appends : goal.returns-in-Ok-clause-appends
returns-in-Ok-clause-appends g c =
    appends_as (ap (λ (blocks : List Block). blocks_text blocks c.args.session.now.tables ++ last_line) c.blocks_of.ensures.blocks)
    (then_call c.in-Ok.ensures.appends c.print_last_line.ensures.appends)

pub returns-in-Err-clause-appends : goal.returns-in-Err-clause-appends
returns-in-Err-clause-appends g c =
    appends_as (ap (λ (blocks : List Block). blocks_text blocks c.args.session.now.tables ++ last_line) c.blocks_of.ensures.blocks)
    (failed_call last_line c.in-Err.ensures.appends)
