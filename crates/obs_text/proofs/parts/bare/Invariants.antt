use Rattle.std.proofs.Common.{◌≡◌, length}
use Rattle.obs_text.specs.Columns.{without_first_blanks, without_last_blanks}
use Rattle.obs_text.proofs.parts.bare.Given as goal

abbrev pub invariant-loop-bare : goal.invariant-loop-bare
invariant-loop-bare l = without_first_blanks l.bare ≡ without_first_blanks l.bytes

abbrev pub decreases-loop-bare : goal.decreases-loop-bare
decreases-loop-bare l = length l.bare

abbrev pub invariant-loop-bare-2 : goal.invariant-loop-bare-2
invariant-loop-bare-2 l = without_last_blanks l.bare ≡ without_last_blanks (without_first_blanks l.bytes)

abbrev pub decreases-loop-bare-2 : goal.decreases-loop-bare-2
decreases-loop-bare-2 l = length l.bare
