use Rattle.obs_repair.proofs.GivenUp.{has-place, left-dropped}
use Rattle.obs_repair.proofs.repairing.give_up.Goals as goal

pub taken-requires : goal.taken-requires
taken-requires c = record {
  place = has-place c.args.case.now c.args.edit c.args.network.now c.args.a.now c.requires.before;
  whole = c.requires.before.longest.whole;
}

pub returns-clause-left : goal.returns-clause-left
returns-clause-left c = record {
  turns = c.drop_pair.ensures.turns;
  left = left-dropped c.args.a.now c.drop_pair.new.self c.in-Some.m c.drop_pair.ensures.dropped c.args.edit (c.in-Some.ensures.taken).1;
}
