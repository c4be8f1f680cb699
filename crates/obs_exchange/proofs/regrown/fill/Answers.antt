use Rattle.obs_exchange.proofs.Lengthening.{bare-thawed, rooms}
use Rattle.obs_exchange.proofs.regrown.fill.Goals as goal

pub regrow-requires-clause-thawed : goal.regrow-requires-clause-thawed
regrow-requires-clause-thawed g c = bare-thawed c.clear.new.self c.clear.ensures.whole c.clear.ensures.no_pair

pub returns-clause-same_room : goal.returns-clause-same_room
returns-clause-same_room g c = rooms c.args.a.now c.clear.new.self c.regrow.new.a c.clear.ensures.same_room c.regrow.ensures.same_room
