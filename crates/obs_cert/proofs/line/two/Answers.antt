use Rattle.std.proofs.Common.{sym}
use Rattle.obs_cert.proofs.WordLemmas.{no_name}
use Rattle.obs_cert.proofs.line.two.Goals as goal

pub returns-in_default : goal.returns-in_default
returns-in_default c = record { line = sym (no_name c.args.kind.now c.args.a.now (sym c.if-is.ensures.is) c.in_default.ensures.name) }
