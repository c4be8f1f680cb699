use Rattle.obs_exchange.proofs.Lawful.{AddsSource-grown, Closed-exactly}
use Rattle.obs_exchange.proofs.laws.grown_adds_source.Goals as goal

pub returns-clause-adds : goal.returns-clause-adds
returns-clause-adds c = AddsSource-grown

pub returns-clause-closed : goal.returns-clause-closed
returns-clause-closed c = Closed-exactly
