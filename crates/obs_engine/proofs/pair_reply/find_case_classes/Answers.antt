use Rattle.std.proofs.Common.{◌∙◌, refl}
use Rattle.obs_engine.proofs.Studied.{classes_over, longest_from, longest_over, room_over}
use Rattle.obs_engine.proofs.pair_reply.find_case_classes.Goals as goal

pub find_classes-requires-clause-longest : goal.find_classes-requires-clause-longest
find_classes-requires-clause-longest g c =
    longest_over c.args.kept.now.network c.args.case.now c.requires.network c.graph.result.now c.graph.ensures.graph c.meters.result.now c.meters.ensures.meters c.args.kept.now.pairs c.requires.longest

pub find_classes-requires-clause-room : goal.find_classes-requires-clause-room
find_classes-requires-clause-room g c =
    room_over c.args.kept.now.network c.args.case.now c.requires.network c.graph.result.now c.graph.ensures.graph c.meters.result.now c.meters.ensures.meters c.args.work.now.sizes c.requires.room

pub returns : goal.returns
returns g c = record {
  network = refl;
  longest = longest_from c.args.kept.now.network c.args.case.now c.requires.network c.graph.result.now c.graph.ensures.graph c.meters.result.now c.meters.ensures.meters _ c.find_classes.ensures.longest;
  classes = c.find_classes.ensures.classes ∙ classes_over c.args.kept.now.network c.args.case.now c.requires.network c.graph.result.now c.graph.ensures.graph c.meters.result.now c.meters.ensures.meters;
}
