use Rattle.obs_network.proofs.OneSwitch.{switch_edited}
use Rattle.obs_network.proofs.network.Network.refresh_switch.Goals as goal

pub remake-requires-clause-rows : goal.remake-requires-clause-rows
remake-requires-clause-rows c = (switch_edited c.args.self.now c.args.at c.args.case.now c.joins_nothing.ensures.valid c.requires.before).rows

pub remake-requires-clause-known : goal.remake-requires-clause-known
remake-requires-clause-known c = (switch_edited c.args.self.now c.args.at c.args.case.now c.joins_nothing.ensures.valid c.requires.before).by_count
