use Rattle.obs_cert.proofs.TruthLemmas.{no_flaw}
use Rattle.obs_cert.proofs.laws.no_flaw_where_all_hold.Goals as goal

pub returns : goal.returns
returns c = record { holds = no_flaw }
