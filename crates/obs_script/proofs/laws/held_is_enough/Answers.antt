use Rattle.std.proofs.Common.{ap, ◌∙◌}
use Rattle.obs_script.specs.inner.Gathered.{is_passed, line_of}
use Rattle.obs_script.proofs.HeldLemmas.{is_passed-held, line_of-held}
use Rattle.obs_script.proofs.laws.held_is_enough.Goals as goal

pub returns : goal.returns
returns c = record { enough = λ held line holds. (ap line_of holds ∙ line_of-held line, ap is_passed holds ∙ is_passed-held line) }
