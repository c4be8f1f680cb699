use Rattle.std.proofs.Common.{◌<◌, arith, sym, ◌∙◌}
use Rattle.std.proofs.lemmas.List.{get_or-take, length-take-le}
use Rattle.obs_assign.proofs.Unlisting.{unlisted-different, unlisted-exactly}
use Rattle.obs_assign.proofs.lose.unlist.Goals as goal
use Rattle.obs_assign.proofs.lose.unlist.Goals.{After-place_of-i}

low : (c : After-place_of-i) → c.place_of-i.result < c.args.count
low c = omega (arith, c.place_of-i.ensures.low, length-take-le c.args.count c.args.list.now c.requires.room)

pub returns-clause-different : goal.returns-clause-different
returns-clause-different c =
    let l = low (goal.at.returns-clause-different c).After-place_of-i in
    unlisted-different c.args.list.now c.args.count c.place_of-i.result c.args.e c.requires.room c.requires.different l
    (sym (get_or-take c.args.count c.args.list.now c.place_of-i.result 0 l) ∙ c.place_of-i.ensures.there)

pub returns-clause-exactly : goal.returns-clause-exactly
returns-clause-exactly c =
    let l = low (goal.at.returns-clause-exactly c).After-place_of-i in
    unlisted-exactly c.args.list.now c.args.count c.place_of-i.result c.args.e c.requires.room c.requires.different l
    (sym (get_or-take c.args.count c.args.list.now c.place_of-i.result 0 l) ∙ c.place_of-i.ensures.there)
