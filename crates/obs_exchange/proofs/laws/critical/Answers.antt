use Rattle.obs_exchange.proofs.Lawful.{critical_at-exactly}
use Rattle.obs_exchange.proofs.laws.critical.Goals as goal

pub returns : goal.returns
returns c = record { exactly = λ n ends touches m ok. critical_at-exactly n ends touches ok m }
