use Rattle.obs_repair.proofs.grow.grow.Goals as goal

pub search_back-requires-clause-back : goal.search_back-requires-clause-back
search_back-requires-clause-back g c = c.requires.back c.in-Some.m c.in-Some.ensures.back
