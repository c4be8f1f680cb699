use Rattle.obs_script.proofs.LineLemmas.{ended_line, last_line}
use Rattle.obs_script.proofs.laws.lines_are_gathered.Goals as goal

pub returns : goal.returns
returns c = record { lines = λ line rest none. (ended_line line rest none, last_line line none) }
