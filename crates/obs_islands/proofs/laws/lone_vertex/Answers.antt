use Rattle.obs_islands.proofs.Firsts.{first_lone, lone_island}
use Rattle.obs_islands.proofs.laws.lone_vertex.Goals as goal

pub returns-clause-lone : goal.returns-clause-lone
returns-clause-lone c = λ n ends touches v ok l none. first_lone n ends touches ok v l none

pub returns-clause-alone : goal.returns-clause-alone
returns-clause-alone c = λ n ends touches v u S ok l none h t k s. lone_island n ends touches ok v l none S h t u k s
