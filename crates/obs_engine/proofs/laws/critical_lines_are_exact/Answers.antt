use Rattle.obs_engine.proofs.Lawful.{critical_lines, criticals_rise}
use Rattle.obs_engine.proofs.laws.critical_lines_are_exact.Goals as goal

pub returns : goal.returns
returns c = record { exactly = critical_lines; rising = criticals_rise }
