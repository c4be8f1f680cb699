use Rattle.obs_engine.proofs.Studied.{made_room}
use Rattle.obs_engine.proofs.pair_reply.make_work.Goals as goal

pub returns : goal.returns
returns c = record {
  room = made_room c.args.graph.now c.args.meters.now.touches c.count.result c.positions.result c.vertices.result c.make.result c.count.ensures.count c.positions.ensures.count c.vertices.ensures.value c.make.ensures.empty;
}
