use Rattle.obs_network.proofs.Outed.{present_before, touched_before}
use Rattle.obs_network.proofs.laws.an_outage_takes_away.Goals as goal

pub returns-clause-present : goal.returns-clause-present
returns-clause-present c = λ t v at. present_before t v at

pub returns-clause-touched : goal.returns-clause-touched
returns-clause-touched c = λ t v at. touched_before t v at
