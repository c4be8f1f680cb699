use Rattle.std.proofs.Common.{ℕ, ◌<◌, suc, List, length, drop, sym, ap, ◌∙◌, subst, arith}
use Rattle.std.proofs.lemmas.List.{get_or_append_left, length-take-le}
use Rattle.obs_switch.specs.Buses.{buses_of, bus_count}
use Rattle.obs_switch.specs.inner.Buses.{LinksBelow}
use Rattle.obs_switch.specs.inner.Groups.{AreGroups}
use Rattle.obs_switch.proofs.Rebuilt.{front_is, length-front}
use Rattle.obs_switch.proofs.rebuild.rebuild.Goals as goal

pub settle-requires-clause-few : goal.settle-requires-clause-few
settle-requires-clause-few c = let same = length-take-le c.args.nodes c.args.firsts.now (omega (arith, c.requires.nodes, c.requires.firsts)) in omega (arith, same, c.requires.nodes, c.requires.few)

pub settle-requires-clause-ends : goal.settle-requires-clause-ends
settle-requires-clause-ends c = subst (λ (n : ℕ). LinksBelow n c.args.links.now) (sym (length-take-le c.args.nodes c.args.firsts.now (omega (arith, c.requires.nodes, c.requires.firsts)))) c.requires.ends

pub number-count-requires-clause-room : goal.number-count-requires-clause-room
number-count-requires-clause-room c =
    let firsts = length-front c.args.nodes c.args.firsts.now c.settle.new.labels c.args.firsts.now (omega (arith, c.requires.nodes, c.requires.firsts)) c.settle.auto.labels in
    firsts ∙ sym (length-take-le c.args.nodes c.args.numbers.now c.requires.nodes)

pub number-count-requires-clause-few : goal.number-count-requires-clause-few
number-count-requires-clause-few c =
    let firsts = length-front c.args.nodes c.args.firsts.now c.settle.new.labels c.args.firsts.now (omega (arith, c.requires.nodes, c.requires.firsts)) c.settle.auto.labels in
    omega (arith, firsts, c.requires.nodes, c.requires.few)

pub number-count-requires-clause-firsts : goal.number-count-requires-clause-firsts
number-count-requires-clause-firsts c = c.settle.ensures.firsts

pub group_front-requires-clause-few : goal.group_front-requires-clause-few
group_front-requires-clause-few c =
    let rest = drop c.args.nodes c.args.numbers.now in
    let numbers = length-front c.args.nodes c.args.numbers.now c.number-count.new.numbers rest c.requires.nodes c.number-count.auto.numbers in
    omega (arith, numbers, c.requires.nodes, c.requires.few)

pub group_front-requires-clause-room : goal.group_front-requires-clause-room
group_front-requires-clause-room c =
    let rest = drop c.args.nodes c.args.numbers.now in
    let numbers = length-front c.args.nodes c.args.numbers.now c.number-count.new.numbers rest c.requires.nodes c.number-count.auto.numbers in
    omega (arith, numbers, c.requires.nodes, c.requires.members)

pub group_front-requires-clause-count : goal.group_front-requires-clause-count
group_front-requires-clause-count c =
    let firsts = length-front c.args.nodes c.args.firsts.now c.settle.new.labels c.args.firsts.now (omega (arith, c.requires.nodes, c.requires.firsts)) c.settle.auto.labels in
    omega (arith, firsts, c.number-count.ensures.few, c.requires.nodes, c.requires.starts)

pub group_front-requires-clause-below : goal.group_front-requires-clause-below
group_front-requires-clause-below c = c.number-count.ensures.below

pub returns-clause-buses : goal.returns-clause-buses
returns-clause-buses c =
    let firsts = length-front c.args.nodes c.args.firsts.now c.settle.new.labels c.args.firsts.now (omega (arith, c.requires.nodes, c.requires.firsts)) c.settle.auto.labels in
    let rest = drop c.args.nodes c.args.numbers.now in
    let front = front_is c.args.nodes c.args.numbers.now c.number-count.new.numbers rest c.requires.nodes c.number-count.auto.numbers in
    front ∙ (c.number-count.ensures.buses ∙ ap (λ (n : ℕ). buses_of n c.args.links.now) firsts)

pub returns-clause-count : goal.returns-clause-count
returns-clause-count c =
    let firsts = length-front c.args.nodes c.args.firsts.now c.settle.new.labels c.args.firsts.now (omega (arith, c.requires.nodes, c.requires.firsts)) c.settle.auto.labels in
    c.number-count.ensures.count ∙ ap (λ (n : ℕ). bus_count n c.args.links.now) firsts

pub returns-clause-few : goal.returns-clause-few
returns-clause-few c =
    let firsts = length-front c.args.nodes c.args.firsts.now c.settle.new.labels c.args.firsts.now (omega (arith, c.requires.nodes, c.requires.firsts)) c.settle.auto.labels in
    omega (arith, firsts, c.number-count.ensures.few)

pub returns-clause-groups : goal.returns-clause-groups
returns-clause-groups c =
    let rest = drop c.args.nodes c.args.numbers.now in
    let front = front_is c.args.nodes c.args.numbers.now c.number-count.new.numbers rest c.requires.nodes c.number-count.auto.numbers in
    subst (λ (xs : List ℕ). AreGroups xs c.group_front.new.members c.group_front.new.starts (suc c.number-count.result)) (sym front) c.group_front.ensures.groups

pub returns-clause-below : goal.returns-clause-below
returns-clause-below c =
    let new = c.number-count.new.numbers in
    let rest = drop c.args.nodes c.args.numbers.now in
    let numbers = length-front c.args.nodes c.args.numbers.now new rest c.requires.nodes c.number-count.auto.numbers in
    λ u l.
    let low : u < length new = omega (arith, l, numbers) in
    subst (λ (x : ℕ). x < c.number-count.result) (sym (get_or_append_left new rest 0 u low)) (c.number-count.ensures.below u low)
