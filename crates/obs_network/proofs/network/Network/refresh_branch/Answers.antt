use Rattle.std.proofs.Common.{◌∙◌, ap}
use Rattle.obs_network.specs.Network.{Network}
use Rattle.obs_network.proofs.LoneChange.{branch_edited}
use Rattle.obs_network.proofs.network.Network.refresh_branch.Goals as goal

pub remake-requires-clause-rows : goal.remake-requires-clause-rows
remake-requires-clause-rows c = ap (λ (n : Network). n.rows) c.is_alone-alone.ensures.same ∙ (branch_edited c.args.self.now c.args.at c.args.case.now c.requires.before).rows
