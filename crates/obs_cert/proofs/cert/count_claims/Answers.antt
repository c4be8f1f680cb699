use mir.Val.{bool_byte}
use Rattle.std.proofs.Common.{◌≡◌, ◌+◌, ◌≤◌, sym, ap, ◌∙◌, length, arith}
use Rattle.obs_text.specs.Lines.{lines_of}
use Rattle.obs_text.proofs.LineLaws.{length-lines_of}
use Rattle.obs_cert.specs.inner.Places.{is_start}
use Rattle.obs_cert.proofs.CountLemmas.{all_counted, at-most-one, byte-one, count_one, counted_none, one, refused_end, refused_here, room_for_one}
use Rattle.obs_cert.proofs.cert.count_claims.Goals as goal

pub overflow_add-at : goal.overflow_add-at
overflow_add-at c =
    let room : c.loop-line.at + 1 ≤ length (lines_of c.args.bytes.now) =
    room_for_one c.args.bytes.now c.loop-line.place c.loop-line.at c.loop-line.claims c.loop-line.line-iterator c.in-Some.line.now c.next.new.self c.loop-line.invariant c.in-Some.ensures.steps.first in
    omega (arith, room, length-lines_of c.args.bytes.now, c.requires.few)

pub overflow_add-claims : goal.overflow_add-claims
overflow_add-claims c =
    let said = c.in-Ok.ensures.next.0 in
    let value : c.from-claims.result ≡ one said = c.from-claims.ensures ∙ ap bool_byte c.in-Ok.ensures.next.2 ∙ byte-one (is_start said) in
    let few : c.loop-line.claims ≤ c.loop-line.at = c.loop-line.invariant.few in
    let room : c.loop-line.at + 1 ≤ length (lines_of c.args.bytes.now) =
    room_for_one c.args.bytes.now c.loop-line.place c.loop-line.at c.loop-line.claims c.loop-line.line-iterator c.in-Some.line.now c.next.new.self c.loop-line.invariant c.in-Some.ensures.steps.first in
    omega (arith, value, few, room, at-most-one said, length-lines_of c.args.bytes.now, c.requires.few)

pub loop-line-preserved : goal.loop-line-preserved
loop-line-preserved c =
    let said = c.in-Ok.ensures.next.0 in
    let value : c.from-claims.result ≡ one said = c.from-claims.ensures ∙ ap bool_byte c.in-Ok.ensures.next.2 ∙ byte-one (is_start said) in
    let few : c.loop-line.claims ≤ c.loop-line.at = c.loop-line.invariant.few in
    count_one c.args.bytes.now c.loop-line.place c.loop-line.at c.loop-line.claims c.loop-line.line-iterator c.in-Some.line.now c.next.new.self c.loop-line.invariant c.in-Some.ensures.steps.first
    said c.in-Ok.next (c.loop-line.claims + c.from-claims.result) c.in-Ok.ensures.next.1 (ap (λ n. c.loop-line.claims + n) value) (omega (arith, value, few, at-most-one said))

pub returns-then-is_over-clause-count : goal.returns-then-is_over-clause-count
returns-then-is_over-clause-count c =
    all_counted c.args.bytes.now c.loop-line.place c.loop-line.at c.loop-line.claims c.loop-line.line-iterator c.loop-line.invariant c.in-None.ensures.steps.first.0 (sym c.is_over.ensures.over ∙ c.if-is_over.true)

pub loop-line-init : goal.loop-line-init
loop-line-init c = counted_none c.args.bytes.now c.into_iter-line-iterator.result (c.into_iter-line-iterator.ensures.into_iter_gives ∙ c.lines-line-items.ensures.bytes)

pub returns-in-Err : goal.returns-in-Err
returns-in-Err c =
    let l = c.loop-line in
    record {
      count = tt;
      refused = refused_here c.args.bytes.now l.place l.at l.claims l.line-iterator c.in-Some.line.now c.next.new.self l.invariant c.in-Some.ensures.steps.first c.in-Err.code c.in-Err.ensures.refused;
    }

pub returns-else-is_over : goal.returns-else-is_over
returns-else-is_over c =
    let l = c.loop-line in
    record {
      count = tt;
      refused = refused_end c.args.bytes.now l.place l.at l.claims l.line-iterator l.invariant c.in-None.ensures.steps.first.0 (sym c.is_over.ensures.over ∙ c.if-is_over.false);
    }
