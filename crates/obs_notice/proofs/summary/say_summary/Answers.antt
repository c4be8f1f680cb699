use Rattle.std.proofs.Common.{length, ◌+◌}
use Rattle.obs_notice.specs.Notices.{crowded_notice, energised_notice}
use Rattle.obs_notice.proofs.Said.{part_front, room_front, writes_behind}
use Rattle.obs_notice.proofs.summary.say_summary.Goals as goal

pub returns-in-Ok-clause-says : goal.returns-in-Ok-clause-says
returns-in-Ok-clause-says g c =
    let s = c.in-Some.known in
    rw c.in-Some.is (writes_behind _ _ _ c.say_crowded.result (energised_notice s.energised s.buses) (crowded_notice s.crowded) c.in-Ok.ensures.says c.say_crowded.ensures.says)

pub returns-in-Ok-clause-succeeds : goal.returns-in-Ok-clause-succeeds
returns-in-Ok-clause-succeeds g c =
    let s = c.in-Some.known in
    rw c.in-Some.is (λ rest has.
    let room = room_front (g.E.Sink.has_room c.args.errors.now) (energised_notice s.energised s.buses) (crowded_notice s.crowded) rest has in
    c.say_crowded.ensures.succeeds rest (c.in-Ok.ensures.room (length (crowded_notice s.crowded) + rest) room))

pub returns-in-Err-clause-says : goal.returns-in-Err-clause-says
returns-in-Err-clause-says g c =
    let s = c.in-Some.known in
    rw c.in-Some.is (part_front _ _ (energised_notice s.energised s.buses) (crowded_notice s.crowded) c.in-Err.ensures.says)

pub returns-in-Err-clause-succeeds : goal.returns-in-Err-clause-succeeds
returns-in-Err-clause-succeeds g c =
    let s = c.in-Some.known in
    rw c.in-Some.is (λ rest has.
    c.in-Err.ensures.succeeds (length (crowded_notice s.crowded) + rest)
    (room_front (g.E.Sink.has_room c.args.errors.now) (energised_notice s.energised s.buses) (crowded_notice s.crowded) rest has))
