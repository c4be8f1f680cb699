use Rattle.obs_assign.proofs.Afterwards.{one_owner}
use Rattle.obs_assign.proofs.laws.one_owner.Goals as goal

pub returns : goal.returns
returns c = record { one = λ a m k e whole h t. one_owner a whole m k e h t }
