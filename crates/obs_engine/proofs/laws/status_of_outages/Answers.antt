use Rattle.obs_engine.proofs.OutagesBorne.{outages_done, outages_else}
use Rattle.obs_engine.proofs.laws.status_of_outages.Goals as goal

pub returns : goal.returns
returns c = record { done = outages_done; short = outages_else }
