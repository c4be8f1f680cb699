use Rattle.std.proofs.Common.{◌∙◌}
use Rattle.obs_edit.proofs.Answered.{islands_of_network}
use Rattle.obs_repair.proofs.OfNetwork.{room_of_rows}
use Rattle.obs_edit.proofs.asks.find_islands.Goals as goal

pub find_islands_of-requires-clause-room : goal.find_islands_of-requires-clause-room
find_islands_of-requires-clause-room c =
    room_of_rows c.args.present.now c.args.islands.now.sizes c.graph.result.now c.meters.result.now c.graph.ensures.graph c.meters.ensures.meters c.requires.room

pub returns-clause-islands : goal.returns-clause-islands
returns-clause-islands c =
    c.find_islands_of.ensures.islands
    ∙ islands_of_network c.args.present.now c.graph.result.now c.meters.result.now c.graph.ensures.graph c.meters.ensures.meters
