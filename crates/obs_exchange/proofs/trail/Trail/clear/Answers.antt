use Rattle.std.proofs.Common.{refl}
use Rattle.obs_exchange.proofs.trail.Trail.clear.Goals as goal

pub returns-clause-cleared : goal.returns-clause-cleared
returns-clause-cleared c = rw (← c.self.view_is, c.clear.ensures.cleared, c.clear-2.ensures.cleared) refl
