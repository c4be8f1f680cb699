use Rattle.std.proofs.Common.{rules, ◌≡◌, ◌+◌, length}
use Rattle.obs_notice.proofs.Said.{digits_first, no_success, part_front, rest_said, room_digits, writes_behind}
use Rattle.obs_notice.proofs.numbers.+write_digits.Goals as goal

pub returns-in-Ok-clause-writes : goal.returns-in-Ok-clause-writes
returns-in-Ok-clause-writes g t c =
    let some : length c.args.digits.now ≡ 0 → ⊥ = search rules in
    rw (digits_first c.args.digits.now some) (writes_behind _ _ _ c.write_digits.result _ _ c.in-Ok.ensures.writes c.write_digits.ensures.writes)

pub returns-in-Ok-clause-succeeds : goal.returns-in-Ok-clause-succeeds
returns-in-Ok-clause-succeeds g t c = λ rest has.
    let some : length c.args.digits.now ≡ 0 → ⊥ = search rules in
    c.write_digits.ensures.succeeds rest
    (c.in-Ok.ensures.room (length (rest_said c.args.digits.now) + rest) (room_digits (g.E.Sink.has_room c.args.errors.now) c.args.digits.now rest some has))

pub returns-in-Err-clause-writes : goal.returns-in-Err-clause-writes
returns-in-Err-clause-writes g t c =
    let some : length c.args.digits.now ≡ 0 → ⊥ = search rules in
    rw (digits_first c.args.digits.now some) (part_front _ _ _ (rest_said c.args.digits.now) c.in-Err.ensures.writes)

pub returns-in-Err-clause-succeeds : goal.returns-in-Err-clause-succeeds
returns-in-Err-clause-succeeds g t c = λ rest has.
    let some : length c.args.digits.now ≡ 0 → ⊥ = search rules in
    c.in-Err.ensures.succeeds (length (rest_said c.args.digits.now) + rest) (room_digits (g.E.Sink.has_room c.args.errors.now) c.args.digits.now rest some has)

pub returns-in-Err-clause-room : goal.returns-in-Err-clause-room
returns-in-Err-clause-room g t c = λ rest has.
    let some : length c.args.digits.now ≡ 0 → ⊥ = search rules in
    no_success (c.in-Err.ensures.succeeds (length (rest_said c.args.digits.now) + rest) (room_digits (g.E.Sink.has_room c.args.errors.now) c.args.digits.now rest some has))
