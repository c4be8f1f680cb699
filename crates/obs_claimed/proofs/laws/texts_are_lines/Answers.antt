use Rattle.obs_claimed.proofs.Texts.{bounds_are_lines, placements_are_lines, trees_are_lines}
use Rattle.obs_claimed.proofs.Words.{last_is_line}
use Rattle.obs_claimed.proofs.laws.texts_are_lines.Goals as goal

pub returns : goal.returns
returns c = record { trees = trees_are_lines; bounds = bounds_are_lines; placements = placements_are_lines; last = last_is_line }
