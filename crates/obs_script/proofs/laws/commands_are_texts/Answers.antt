use Rattle.obs_script.proofs.CommandLemmas.{bad, given, missing, only, too_long, unknown}
use Rattle.obs_script.proofs.laws.commands_are_texts.Goals as goal

pub returns : goal.returns
returns c = record { commands = record { given = given; only = only; too_long = too_long; missing = missing; bad = bad; unknown = unknown } }
