use Rattle.obs_engine.proofs.Dips.{dips_are_critical, dips_count_critical}
use Rattle.obs_engine.proofs.laws.dips_are_critical_meters.Goals as goal

pub returns : goal.returns
returns c = record { meters = dips_are_critical; number = dips_count_critical }
