use Rattle.std.proofs.Common.{sym}
use Rattle.obs_cert.proofs.WordLemmas.{no_item}
use Rattle.obs_cert.proofs.line.named_item.Goals as goal

pub returns-in_default : goal.returns-in_default
returns-in_default c = record { item = sym (no_item c.args.sort.now c.args.name.now c.in_default.ensures.name) }
