use Rattle.std.proofs.Common.{length, get_or, arith}
use Rattle.obs_switch.proofs.Regrouped.{count-few, groups-back, order-back, some-back, start-few, to-some}
use Rattle.obs_switch.proofs.regroup.regroup_back.Goals as goal

pub overflow_add-from : goal.overflow_add-from
overflow_add-from c =
    let few = start-few c.args.keys.now c.args.members.now c.args.starts.now (length c.args.starts.now) c.args.item c.args.key c.requires.item c.requires.room c.requires.groups (get_or c.args.keys.now c.args.item 0) (omega (arith, c.requires.above, c.requires.key)) in
    let count = count-few c.args.keys.now c.args.members.now c.args.starts.now (length c.args.starts.now) c.args.item c.args.key c.requires.item c.requires.room c.requires.groups (get_or c.args.keys.now c.args.item 0) in
    omega (arith, few, count, c.count_of.ensures.count, c.requires.few)

pub overflow_add-to : goal.overflow_add-to
overflow_add-to c =
    let few = start-few c.args.keys.now c.args.members.now c.args.starts.now (length c.args.starts.now) c.args.item c.args.key c.requires.item c.requires.room c.requires.groups c.args.key c.requires.key in
    let count = count-few c.args.keys.now c.args.members.now c.args.starts.now (length c.args.starts.now) c.args.item c.args.key c.requires.item c.requires.room c.requires.groups c.args.key in
    omega (arith, few, count, c.count_of-2.ensures.count, c.requires.few)

pub overflow_sub-to : goal.overflow_sub-to
overflow_sub-to c = omega (arith, to-some c.args.keys.now c.args.members.now c.args.starts.now (length c.args.starts.now) c.args.item c.args.key c.requires.item c.requires.room c.requires.groups c.requires.above c.requires.key, c.count_of-2.ensures.count)

pub move_back-requires-clause-order : goal.move_back-requires-clause-order
move_back-requires-clause-order c = omega (arith, (order-back c.args.keys.now c.args.members.now c.args.starts.now (length c.args.starts.now) c.args.item c.args.key c.requires.item c.requires.room c.requires.groups c.requires.above c.requires.key).0, c.count_of.ensures.count, c.count_of-2.ensures.count)

pub move_back-requires-clause-below : goal.move_back-requires-clause-below
move_back-requires-clause-below c = omega (arith, (order-back c.args.keys.now c.args.members.now c.args.starts.now (length c.args.starts.now) c.args.item c.args.key c.requires.item c.requires.room c.requires.groups c.requires.above c.requires.key).1, c.count_of.ensures.count, c.count_of-2.ensures.count)

pub begin_earlier-requires-clause-some : goal.begin_earlier-requires-clause-some
begin_earlier-requires-clause-some c = λ k above below. some-back c.args.keys.now c.args.members.now c.args.starts.now (length c.args.starts.now) c.args.item c.args.key c.requires.item c.requires.room c.requires.groups c.requires.above c.requires.key k (omega (arith, above)) (omega (arith, below))

pub returns : goal.returns
returns c =
    let changed = c.begin_earlier.ensures in
    record {
      groups = groups-back c.args.keys.now c.args.members.now c.args.starts.now (length c.args.starts.now) c.args.item c.args.key c.requires.item c.requires.room c.requires.groups c.requires.above c.requires.key c.move_back.new.members c.begin_earlier.new.starts
          (λ front item between behind is starts ends. c.move_back.ensures.moved front item between behind is (omega (arith, starts, c.count_of.ensures.count, c.count_of-2.ensures.count)) (omega (arith, ends, c.count_of.ensures.count, c.count_of-2.ensures.count)))
          (λ k above below. changed.earlier k (omega (arith, above)) (omega (arith, below))) (λ k below. changed.before k (omega (arith, below))) (λ k above. changed.behind k (omega (arith, above)));
    }
