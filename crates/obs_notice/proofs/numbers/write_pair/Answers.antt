use Rattle.std.proofs.Common.{length, ◌+◌, ◌++◌}
use Rattle.obs_notice.specs.Notices.{digits_said}
use Rattle.obs_notice.proofs.Said.{no_success, part_front, room_front, writes_behind}
use Rattle.obs_notice.proofs.numbers.write_pair.Goals as goal

pub returns-in-Ok-clause-writes : goal.returns-in-Ok-clause-writes
returns-in-Ok-clause-writes g c =
    let front = c.args.first.now ++ (digits_said c.args.one.now ++ c.args.second.now) in
    writes_behind _ _ _ c.write_number.result front (digits_said c.args.other.now ++ c.args.third.now) c.in-Ok.ensures.writes c.write_number.ensures.writes

pub returns-in-Ok-clause-succeeds : goal.returns-in-Ok-clause-succeeds
returns-in-Ok-clause-succeeds g c = λ rest has.
    let front = c.args.first.now ++ (digits_said c.args.one.now ++ c.args.second.now) in
    let back = digits_said c.args.other.now ++ c.args.third.now in
    c.write_number.ensures.succeeds rest (c.in-Ok.ensures.room (length back + rest) (room_front (g.E.Sink.has_room c.args.errors.now) front back rest has))

pub returns-in-Ok-clause-room : goal.returns-in-Ok-clause-room
returns-in-Ok-clause-room g c = λ rest has.
    let front = c.args.first.now ++ (digits_said c.args.one.now ++ c.args.second.now) in
    let back = digits_said c.args.other.now ++ c.args.third.now in
    c.write_number.ensures.room rest (c.in-Ok.ensures.room (length back + rest) (room_front (g.E.Sink.has_room c.args.errors.now) front back rest has))

pub returns-in-Err-clause-writes : goal.returns-in-Err-clause-writes
returns-in-Err-clause-writes g c =
    part_front _ _ (c.args.first.now ++ (digits_said c.args.one.now ++ c.args.second.now)) (digits_said c.args.other.now ++ c.args.third.now) c.in-Err.ensures.writes

pub returns-in-Err-clause-succeeds : goal.returns-in-Err-clause-succeeds
returns-in-Err-clause-succeeds g c = λ rest has.
    let front = c.args.first.now ++ (digits_said c.args.one.now ++ c.args.second.now) in
    let back = digits_said c.args.other.now ++ c.args.third.now in
    c.in-Err.ensures.succeeds (length back + rest) (room_front (g.E.Sink.has_room c.args.errors.now) front back rest has)

pub returns-in-Err-clause-room : goal.returns-in-Err-clause-room
returns-in-Err-clause-room g c = λ rest has.
    let front = c.args.first.now ++ (digits_said c.args.one.now ++ c.args.second.now) in
    let back = digits_said c.args.other.now ++ c.args.third.now in
    no_success (c.in-Err.ensures.succeeds (length back + rest) (room_front (g.E.Sink.has_room c.args.errors.now) front back rest has))
