use Rattle.std.proofs.Common.{◌∙◌, arith, take, refl}
use Rattle.obs_engine.proofs.Going.{ends_badly, ends_well, goes_on, read_failed, stops, too_long}
use Rattle.obs_engine.proofs.input.answer_lines.Goals as goal

pub returns-in_default : goal.returns-in_default
returns-in_default g c =
    let taken = c.in_default.ensures in
    record {
      session = read_failed _ _ _ _ _ _ _ _ _ c.loop-taken.invariant.1 (omega (arith, c.loop-taken-test.true)) c.in_default.field-0 c.take_piece.new.piece taken.bytes taken.cause taken.succeeds;
    }

pub returns-in-Ok-answer_line : goal.returns-in-Ok-answer_line
returns-in-Ok-answer_line g c =
    let so_far = c.loop-taken.invariant.1 in
    let taken = c.in-Ok.ensures in
    let call = c.in-Ok-answer_line.ensures in
    record {
      session =
          ends_well _ _ _ _ _ _ _ _ _ so_far (omega (arith, c.loop-taken-test.true)) _ c.in-Ok.count c.take_piece.new.piece taken.bytes taken.quiet c.if-count-eq0.true
          (call.appends _ so_far.holds) (call.tables _ so_far.holds) c.verdict.ensures.status;
    }

pub returns-in-Err : goal.returns-in-Err
returns-in-Err g c =
    let so_far = c.loop-taken.invariant.1 in
    let taken = c.in-Ok.ensures in
    record {
      session =
          ends_badly _ _ _ _ _ _ _ _ _ so_far (omega (arith, c.loop-taken-test.true)) _ c.in-Ok.count c.take_piece.new.piece taken.bytes taken.quiet c.if-count-eq0.true
          (c.in-Err.ensures.appends _ so_far.holds);
    }

pub returns-in_default-answer_bytes : goal.returns-in_default-answer_bytes
returns-in_default-answer_bytes g c =
    let so_far = c.loop-taken.invariant.1 in
    let taken = c.in-Ok.ensures in
    let bound = taken.bound in
    let most = c.min-most.ensures in
    record {
      session =
          stops _ _ _ _ _ _ _ _ _ so_far (omega (arith, c.loop-taken-test.true)) _ c.in-Ok.count c.take_piece.new.piece taken.bytes taken.quiet c.min-kept.result c.min-kept.ensures
          (omega (arith, bound, most, c.loop-taken-test.true)) (take c.min-kept.result c.take_piece.new.piece) refl c.in_default-answer_bytes.ensures.appends;
    }

pub loop-taken-preserved : goal.loop-taken-preserved
loop-taken-preserved g c =
    let so_far = c.loop-taken.invariant.1 in
    let taken = c.in-Ok.ensures in
    let bound = taken.bound in
    let most = c.min-most.ensures in
    let call = c.in-Ok-answer_bytes.ensures in (
      taken.size ∙ c.loop-taken.invariant.0,
      goes_on _ _ _ _ _ _ _ _ _ so_far (omega (arith, c.loop-taken-test.true)) _ c.in-Ok.count c.take_piece.new.piece taken.bytes taken.quiet c.min-kept.result c.min-kept.ensures
          (omega (arith, bound, most, c.loop-taken-test.true)) (take c.min-kept.result c.take_piece.new.piece) refl taken.steady call.offered call.held call.tables call.appends,
    )

pub returns : goal.returns
returns g c = record { session = too_long _ _ _ _ _ _ _ _ _ c.loop-taken.invariant.1 (omega (arith, c.loop-taken-test.false)) }
