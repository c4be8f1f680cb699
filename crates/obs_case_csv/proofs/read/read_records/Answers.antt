use Rattle.std.proofs.Common.{arith, ◌≡◌, ◌∙◌, ◌+◌, ◌-◌, length, suc, refl, subst, sym, ap}
use Rattle.std.proofs.lemmas.Result.{err_from_is_err_and}
use Rattle.csv.specs.Records.{fields_of}
use Rattle.obs_case_csv.specs.Read.{fault_of_records, most_records, rows_of_records, table_records}
use Rattle.obs_case_csv.specs.inner.Read.{HoldsFirstRows}
use Rattle.obs_case_csv.specs.inner.Records.{Gives}
use Rattle.obs_case_csv.proofs.ReadLemmas.{IsReading, faulty_header, reading-all, reading-ends, reading-first_rows, reading-most, reading-next, reading-starts, reading-stays}
use Rattle.obs_case_csv.proofs.RecordLemmas.{gives-header, gives-none}
use Rattle.obs_case_csv.proofs.read.read_records.Goals as goal

pub returns-then-not-branch-clause-refused : goal.returns-then-not-branch-clause-refused
returns-then-not-branch-clause-refused c =
    let none = rw c.if-not-branch.true at (c.in_ok-next_row.ensures.row (c.args.case.now.most + 1) (table_records c.args.case.now.most c.args.bytes.now)
    (gives-header c.args.reader.now c.args.case.now.most (table_records c.args.case.now.most c.args.bytes.now) c.requires.gives)) in
    rw c.fault.ensures.fault (ap (fault_of_records c.args.table c.args.case.now) none)

pub returns-then-not-branch-clause-rows : goal.returns-then-not-branch-clause-rows
returns-then-not-branch-clause-rows c =
    let none = rw c.if-not-branch.true at (c.in_ok-next_row.ensures.row (c.args.case.now.most + 1) (table_records c.args.case.now.most c.args.bytes.now)
    (gives-header c.args.reader.now c.args.case.now.most (table_records c.args.case.now.most c.args.bytes.now) c.requires.gives)) in
    rw c.fault.ensures.fault (sym (ap (rows_of_records c.args.table c.args.case.now) none))

pub returns-in-Err-clause-refused : goal.returns-in-Err-clause-refused
returns-in-Err-clause-refused c =
    let first = rw c.if-not-branch.false at (c.in_ok-next_row.ensures.row (c.args.case.now.most + 1) (table_records c.args.case.now.most c.args.bytes.now)
    (gives-header c.args.reader.now c.args.case.now.most (table_records c.args.case.now.most c.args.bytes.now) c.requires.gives)) in
    let header = faulty_header c.args.table c.args.case.now (fields_of c.next_row.new.row) first.0 c.in-Err.code c.in-Err.ensures.refused in
    rw c.fault-in-Err.ensures.fault (ap (fault_of_records c.args.table c.args.case.now) first.1 ∙ header.0)

pub returns-in-Err-clause-rows : goal.returns-in-Err-clause-rows
returns-in-Err-clause-rows c =
    let first = rw c.if-not-branch.false at (c.in_ok-next_row.ensures.row (c.args.case.now.most + 1) (table_records c.args.case.now.most c.args.bytes.now)
    (gives-header c.args.reader.now c.args.case.now.most (table_records c.args.case.now.most c.args.bytes.now) c.requires.gives)) in
    let header = faulty_header c.args.table c.args.case.now (fields_of c.next_row.new.row) first.0 c.in-Err.code c.in-Err.ensures.refused in
    rw c.fault-in-Err.ensures.fault (sym (ap (rows_of_records c.args.table c.args.case.now) first.1 ∙ header.1))

pub loop-number-init : goal.loop-number-init
loop-number-init c =
    let first = rw c.if-not-branch.false at (c.in_ok-next_row.ensures.row (c.args.case.now.most + 1) (table_records c.args.case.now.most c.args.bytes.now)
    (gives-header c.args.reader.now c.args.case.now.most (table_records c.args.case.now.most c.args.bytes.now) c.requires.gives)) in
    let limit = c.most-most.ensures.limit in
    let turn : c.args.case.now.most + 1 ≡ most_records c.most-most.result - 1 = omega (arith, limit) in
    record {
      unread = first.0;
      gives = subst (λ n. Gives c.next_row.new.reader n first.0) turn first.2;
      reading =
          reading-starts c.args.table c.args.bytes.now c.args.case.now c.args.case.now c.in-Ok.places 1 (fields_of c.next_row.new.row) first.0 first.1 c.in-Ok.ensures.places
          c.in-Ok.ensures.accepted refl (sym (ap (λ names. length names + 1) c.requires.empty));
    }

pub read_row-requires-clause-few : goal.read_row-requires-clause-few
read_row-requires-clause-few c =
    let inv = c.loop-number.invariant in
    let same = reading-most c.args.table c.args.bytes.now c.args.case.now c.loop-number.case c.in-Ok.places c.loop-number.number inv.unread inv.reading in
    let limit = c.most-most.ensures.limit in
    omega (arith, same, limit)

pub returns-in_err-next_row-2-clause-first_rows : goal.returns-in_err-next_row-2-clause-first_rows
returns-in_err-next_row-2-clause-first_rows c =
    let inv = c.loop-number.invariant in
    reading-first_rows c.args.table c.args.bytes.now c.args.case.now c.loop-number.case c.in-Ok.places c.loop-number.number inv.unread inv.reading

pub returns-then-not-branch-2-clause-accepted : goal.returns-then-not-branch-2-clause-accepted
returns-then-not-branch-2-clause-accepted c =
    let inv = c.loop-number.invariant in
    let turn : most_records c.most-most.result - c.loop-number.number ≡ suc (most_records c.most-most.result - (c.loop-number.number + 1)) = omega arith in
    let gives = subst (λ n. Gives c.loop-number.reader n inv.unread) turn inv.gives in
    let none = rw c.if-not-branch-2.true at (c.in_ok-next_row-2.ensures.row (most_records c.most-most.result - (c.loop-number.number + 1)) inv.unread gives) in
    (reading-all c.args.table c.args.bytes.now c.args.case.now c.loop-number.case c.in-Ok.places c.loop-number.number inv.unread inv.reading none).0

pub returns-then-not-branch-2-clause-rows : goal.returns-then-not-branch-2-clause-rows
returns-then-not-branch-2-clause-rows c =
    let inv = c.loop-number.invariant in
    let turn : most_records c.most-most.result - c.loop-number.number ≡ suc (most_records c.most-most.result - (c.loop-number.number + 1)) = omega arith in
    let gives = subst (λ n. Gives c.loop-number.reader n inv.unread) turn inv.gives in
    let none = rw c.if-not-branch-2.true at (c.in_ok-next_row-2.ensures.row (most_records c.most-most.result - (c.loop-number.number + 1)) inv.unread gives) in
    (reading-all c.args.table c.args.bytes.now c.args.case.now c.loop-number.case c.in-Ok.places c.loop-number.number inv.unread inv.reading none).1

pub returns-then-not-branch-2-clause-first_rows : goal.returns-then-not-branch-2-clause-first_rows
returns-then-not-branch-2-clause-first_rows c =
    let inv = c.loop-number.invariant in
    reading-first_rows c.args.table c.args.bytes.now c.args.case.now c.loop-number.case c.in-Ok.places c.loop-number.number inv.unread inv.reading

pub returns-in_err-read_row-clause-refused : goal.returns-in_err-read_row-clause-refused
returns-in_err-read_row-clause-refused c =
    let inv = c.loop-number.invariant in
    let turn : most_records c.most-most.result - c.loop-number.number ≡ suc (most_records c.most-most.result - (c.loop-number.number + 1)) = omega arith in
    let gives = subst (λ n. Gives c.loop-number.reader n inv.unread) turn inv.gives in
    let first = rw c.if-not-branch-2.false at (c.in_ok-next_row-2.ensures.row (most_records c.most-most.result - (c.loop-number.number + 1)) inv.unread gives) in
    let p = err_from_is_err_and c.from_residual-in_err-read_row.result c.from_residual-in_err-read_row.ensures.1 in
    rw (p.1, p.2)
    (reading-ends c.args.table c.args.bytes.now c.args.case.now c.loop-number.case c.in-Ok.places c.loop-number.number inv.unread inv.reading (fields_of c.next_row-in-loop-number.new.row) first.0 first.1
    c.in_err-read_row.field-0.0 (c.in_err-read_row.ensures.refused inv.reading.header inv.reading.places_are))

pub returns-in_err-read_row-clause-rows : goal.returns-in_err-read_row-clause-rows
returns-in_err-read_row-clause-rows c =
    let inv = c.loop-number.invariant in
    let turn : most_records c.most-most.result - c.loop-number.number ≡ suc (most_records c.most-most.result - (c.loop-number.number + 1)) = omega arith in
    let gives = subst (λ n. Gives c.loop-number.reader n inv.unread) turn inv.gives in
    let first = rw c.if-not-branch-2.false at (c.in_ok-next_row-2.ensures.row (most_records c.most-most.result - (c.loop-number.number + 1)) inv.unread gives) in
    let p = err_from_is_err_and c.from_residual-in_err-read_row.result c.from_residual-in_err-read_row.ensures.1 in
    rw (p.1, p.2)
    (reading-stays c.args.table c.args.bytes.now c.args.case.now c.loop-number.case c.in-Ok.places c.loop-number.number inv.unread inv.reading (fields_of c.next_row-in-loop-number.new.row) first.0 first.1
    c.in_err-read_row.field-0.0 (c.in_err-read_row.ensures.refused inv.reading.header inv.reading.places_are) c.read_row.new.case c.in_err-read_row.ensures.unchanged)

pub returns-in_err-read_row-clause-first_rows : goal.returns-in_err-read_row-clause-first_rows
returns-in_err-read_row-clause-first_rows c =
    let inv = c.loop-number.invariant in
    subst (HoldsFirstRows c.args.table c.args.bytes.now c.args.case.now) (sym c.in_err-read_row.ensures.unchanged)
    (reading-first_rows c.args.table c.args.bytes.now c.args.case.now c.loop-number.case c.in-Ok.places c.loop-number.number inv.unread inv.reading)

pub loop-number-preserved : goal.loop-number-preserved
loop-number-preserved c =
    let inv = c.loop-number.invariant in
    let turn : most_records c.most-most.result - c.loop-number.number ≡ suc (most_records c.most-most.result - (c.loop-number.number + 1)) = omega arith in
    let gives = subst (λ n. Gives c.loop-number.reader n inv.unread) turn inv.gives in
    let first = rw c.if-not-branch-2.false at (c.in_ok-next_row-2.ensures.row (most_records c.most-most.result - (c.loop-number.number + 1)) inv.unread gives) in
    let reading = subst (IsReading c.args.table c.args.bytes.now c.args.case.now c.loop-number.case c.in-Ok.places c.loop-number.number) first.1 inv.reading in
    record {
      unread = first.0;
      gives = first.2;
      reading =
          reading-next c.args.table c.args.bytes.now c.args.case.now c.loop-number.case c.in-Ok.places c.loop-number.number (fields_of c.next_row-in-loop-number.new.row) first.0 c.read_row.new.case reading
          (c.in_ok-read_row.ensures.accepted reading.header reading.places_are) (c.in_ok-read_row.ensures.added reading.header reading.places_are);
    }

pub returns-clause-accepted : goal.returns-clause-accepted
returns-clause-accepted c =
    let inv = c.loop-number.invariant in
    let done : most_records c.most-most.result - c.loop-number.number ≡ 0 = omega arith in
    let none = gives-none c.loop-number.reader (most_records c.most-most.result - c.loop-number.number) inv.unread done inv.gives in
    (reading-all c.args.table c.args.bytes.now c.args.case.now c.loop-number.case c.in-Ok.places c.loop-number.number inv.unread inv.reading none).0

pub returns-clause-rows : goal.returns-clause-rows
returns-clause-rows c =
    let inv = c.loop-number.invariant in
    let done : most_records c.most-most.result - c.loop-number.number ≡ 0 = omega arith in
    let none = gives-none c.loop-number.reader (most_records c.most-most.result - c.loop-number.number) inv.unread done inv.gives in
    (reading-all c.args.table c.args.bytes.now c.args.case.now c.loop-number.case c.in-Ok.places c.loop-number.number inv.unread inv.reading none).1

pub returns-clause-first_rows : goal.returns-clause-first_rows
returns-clause-first_rows c =
    let inv = c.loop-number.invariant in
    reading-first_rows c.args.table c.args.bytes.now c.args.case.now c.loop-number.case c.in-Ok.places c.loop-number.number inv.unread inv.reading
