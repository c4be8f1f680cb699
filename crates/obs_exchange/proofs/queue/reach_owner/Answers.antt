use Rattle.obs_assign.proofs.Slotted.{slots_apart}
use Rattle.obs_exchange.proofs.queue.reach_owner.Goals as goal

pub returns-in-Some-clause-reached : goal.returns-in-Some-clause-reached
returns-in-Some-clause-reached c = λ x h f.
    let a = c.args.over.now.assignment in
    let sound = c.requires.visiting.searching.sound in
    let same = slots_apart a.forest.held a.slots sound.whole.paired.holds.forest x c.in-Some.x c.args.e h c.in-Some.ensures.meter in
    rw same (c.reach.ensures.reached (rw same at f))
