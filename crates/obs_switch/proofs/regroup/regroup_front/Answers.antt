use Rattle.std.proofs.Common.{length, get_or, arith}
use Rattle.obs_switch.proofs.Regrouped.{count-few, groups-front, order-front, start-few}
use Rattle.obs_switch.proofs.regroup.regroup_front.Goals as goal

pub overflow_add-from : goal.overflow_add-from
overflow_add-from c =
    let few = start-few c.args.keys.now c.args.members.now c.args.starts.now (length c.args.starts.now) c.args.item c.args.key c.requires.item c.requires.room c.requires.groups (get_or c.args.keys.now c.args.item 0) c.requires.old_key in
    let count = count-few c.args.keys.now c.args.members.now c.args.starts.now (length c.args.starts.now) c.args.item c.args.key c.requires.item c.requires.room c.requires.groups (get_or c.args.keys.now c.args.item 0) in
    omega (arith, few, count, c.count_of.ensures.count, c.requires.few)

pub overflow_add-to : goal.overflow_add-to
overflow_add-to c =
    let few = start-few c.args.keys.now c.args.members.now c.args.starts.now (length c.args.starts.now) c.args.item c.args.key c.requires.item c.requires.room c.requires.groups c.args.key (omega (arith, c.requires.below, c.requires.old_key)) in
    let count = count-few c.args.keys.now c.args.members.now c.args.starts.now (length c.args.starts.now) c.args.item c.args.key c.requires.item c.requires.room c.requires.groups c.args.key in
    omega (arith, few, count, c.count_of-2.ensures.count, c.requires.few)

pub move_front-requires-clause-order : goal.move_front-requires-clause-order
move_front-requires-clause-order c = omega (arith, (order-front c.args.keys.now c.args.members.now c.args.starts.now (length c.args.starts.now) c.args.item c.args.key c.requires.item c.requires.room c.requires.groups c.requires.below c.requires.old_key).0, c.count_of.ensures.count, c.count_of-2.ensures.count)

pub move_front-requires-clause-below : goal.move_front-requires-clause-below
move_front-requires-clause-below c = omega (arith, (order-front c.args.keys.now c.args.members.now c.args.starts.now (length c.args.starts.now) c.args.item c.args.key c.requires.item c.requires.room c.requires.groups c.requires.below c.requires.old_key).1, c.count_of.ensures.count, c.count_of-2.ensures.count)

pub begin_later-requires-clause-few : goal.begin_later-requires-clause-few
begin_later-requires-clause-few c = λ k above below.
    let few = start-few c.args.keys.now c.args.members.now c.args.starts.now (length c.args.starts.now) c.args.item c.args.key c.requires.item c.requires.room c.requires.groups k (omega (arith, below, c.requires.old_key)) in
    omega (arith, few, c.requires.few)

pub returns : goal.returns
returns c =
    let changed = c.begin_later.ensures in
    record {
      groups = groups-front c.args.keys.now c.args.members.now c.args.starts.now (length c.args.starts.now) c.args.item c.args.key c.requires.item c.requires.room c.requires.groups c.requires.below c.requires.old_key c.move_front.new.members c.begin_later.new.starts
          (λ front item between behind is starts ends. c.move_front.ensures.moved front item between behind is (omega (arith, starts, c.count_of.ensures.count, c.count_of-2.ensures.count)) (omega (arith, ends, c.count_of.ensures.count, c.count_of-2.ensures.count)))
          (λ k above below. changed.later k (omega (arith, above)) (omega (arith, below))) (λ k below. changed.before k (omega (arith, below))) (λ k above. changed.behind k (omega (arith, above)));
    }
