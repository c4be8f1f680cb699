use Rattle.obs_islands.specs.inner.Rounds.{is_crossing}
use Rattle.obs_islands.proofs.Following.{GivesUp-lowest}
use Rattle.obs_islands.proofs.discard.discard.Goals as goal

pub returns-clause-gives_up : goal.returns-clause-gives_up
returns-clause-gives_up c =
    let ends = c.args.over.now.graph.now.ends in
    let test = is_crossing ends c.args.firsts.now in
    c.follow.ensures.gives_up test
    (GivesUp-lowest ends c.args.used.now.touches c.args.over.now.pairs.now test c.limit.result c.mark_crossed.new.lowest c.mark_crossed.ensures.lowest c.limit.ensures.above)

pub follow-requires-clause-few : goal.follow-requires-clause-few
follow-requires-clause-few c = c.requires.few
