use Rattle.obs_report.proofs.Printing.{finished}
use Rattle.obs_report.proofs.words.print_word.Goals as goal

pub returns : goal.returns
returns g c = record { appends = finished c.new-lines.ensures.empty c.word.ensures.printed c.finish.ensures.printed }
