use Rattle.obs_switch.proofs.FirstNodes.{first_member}
use Rattle.obs_switch.proofs.laws.first_member_names_the_bus.Goals as goal

pub returns-clause-some : goal.returns-clause-some
returns-clause-some c = λ nodes links u l. (first_member nodes links u l).0

pub returns-clause-named : goal.returns-clause-named
returns-clause-named c = λ nodes links u l. (first_member nodes links u l).1
