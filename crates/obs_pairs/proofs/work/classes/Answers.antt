use Rattle.obs_pairs.proofs.work.classes.Goals as goal

pub find_classes-requires-clause-longest : goal.find_classes-requires-clause-longest
find_classes-requires-clause-longest g c = c.requires.longest

pub find_classes-requires-clause-in_range : goal.find_classes-requires-clause-in_range
find_classes-requires-clause-in_range g c = c.requires.in_range

pub find_classes-requires-clause-room : goal.find_classes-requires-clause-room
find_classes-requires-clause-room g c = c.requires.room

pub returns-clause-longest : goal.returns-clause-longest
returns-clause-longest g c = c.find_classes.ensures.longest

pub returns-clause-same_room : goal.returns-clause-same_room
returns-clause-same_room g c = c.find_classes.ensures.same_room
