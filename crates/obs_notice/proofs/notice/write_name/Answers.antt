use Rattle.std.proofs.Common.{rules, arith, length, drop, ◌+◌}
use Rattle.obs_notice.specs.Notices.{name_said}
use Rattle.obs_notice.proofs.Said.{wrote_next, failed_next, room_next, no_success}
use Rattle.obs_notice.proofs.notice.write_name.Goals as goal

pub returns-in_err-write_byte-clause-writes : goal.returns-in_err-write_byte-clause-writes
returns-in_err-write_byte-clause-writes g c =
    let part = failed_next _ _ _ c.args.name.now c.loop-at.at (omega (arith, c.loop-at-test.true)) c.loop-at.invariant.wrote c.in_err-write_byte.ensures.writes in
    search (rules, part)

pub returns-in_err-write_byte-clause-succeeds : goal.returns-in_err-write_byte-clause-succeeds
returns-in_err-write_byte-clause-succeeds g c = λ rest has.
    let room = room_next (g.E.Sink.has_room c.loop-at.errors) c.args.name.now c.loop-at.at (c.loop-at.at + 1) rest (omega arith) (omega (arith, c.loop-at-test.true)) (c.loop-at.invariant.room rest has) in
    no_success (c.in_err-write_byte.ensures.succeeds (length (name_said (drop (c.loop-at.at + 1) c.args.name.now)) + rest) room)

pub returns-in_err-write_byte-clause-room : goal.returns-in_err-write_byte-clause-room
returns-in_err-write_byte-clause-room g c = λ rest has.
    let room = room_next (g.E.Sink.has_room c.loop-at.errors) c.args.name.now c.loop-at.at (c.loop-at.at + 1) rest (omega arith) (omega (arith, c.loop-at-test.true)) (c.loop-at.invariant.room rest has) in
    no_success (c.in_err-write_byte.ensures.succeeds (length (name_said (drop (c.loop-at.at + 1) c.args.name.now)) + rest) room)

pub loop-at-preserved : goal.loop-at-preserved
loop-at-preserved g c = record {
  within = omega (arith, c.loop-at-test.true);
  wrote = wrote_next _ _ _ c.args.name.now c.loop-at.at (c.loop-at.at + 1) (omega arith) (omega (arith, c.loop-at-test.true)) c.loop-at.invariant.wrote c.in_ok-write_byte.ensures.writes;
  room = λ rest has.
      let room = room_next (g.E.Sink.has_room c.loop-at.errors) c.args.name.now c.loop-at.at (c.loop-at.at + 1) rest (omega arith) (omega (arith, c.loop-at-test.true)) (c.loop-at.invariant.room rest has) in
      c.in_ok-write_byte.ensures.room (length (name_said (drop (c.loop-at.at + 1) c.args.name.now)) + rest) room;
}
