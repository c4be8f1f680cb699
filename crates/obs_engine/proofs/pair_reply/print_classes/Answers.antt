use Rattle.std.proofs.Common.{◌≡◌, ◌<◌, ◌≤◌, ◌-◌, [], ◌∷◌, ◌++◌, ℕ, ap, arith, length}
use Rattle.std.specs.Prelude.{slice_index}
use Rattle.std.specs.List.{range_with_len}
use Rattle.obs_pairs.specs.PairWork.{has_another}
use Rattle.obs_report.proofs.Passed.{row_all, row_more}
use Rattle.obs_report.proofs.Printing.{finished, nothing_printed, then_printed}
use Rattle.obs_engine.specs.PairReply.{class_line, class_lines}
use Rattle.obs_engine.proofs.pair_reply.print_classes.Goals as goal

pub loop-m-init : goal.loop-m-init
loop-m-init g c =
    let t = c.args.case.now in
    let all : length t.meters - 0 ≡ length t.meters = omega arith in
    ([], nothing_printed _, ap (λ (n : ℕ). class_lines t c.args.work.now.list (range_with_len 0 n)) all)

pub loop-m-preserved : goal.loop-m-preserved
loop-m-preserved g c =
    let inv = c.loop-m.invariant in
    let t = c.args.case.now in
    let classes = c.args.work.now.list in
    let low : c.loop-m.m < length t.meters = omega (arith, c.loop-m-test.true, ap (λ xs. length xs) c.meters.ensures.rows) in (
      inv.0 ++ class_lines t classes (c.loop-m.m ∷ []),
      then_printed inv.1 c.print_meter.ensures.printed,
      row_more (λ m. class_line t (slice_index classes m) m) (has_another classes) c.loop-m.m (length t.meters) inv.0 (class_lines t classes (range_with_len 0 (length t.meters))) low inv.2,
    )

pub returns : goal.returns
returns g c =
    let inv = c.loop-m.invariant in
    let t = c.args.case.now in
    let classes = c.args.work.now.list in
    let past : length t.meters ≤ c.loop-m.m = omega (arith, c.loop-m-test.false, ap (λ xs. length xs) c.meters.ensures.rows) in
    let done = row_all (λ m. class_line t (slice_index classes m) m) (has_another classes) c.loop-m.m (length t.meters) inv.0 (class_lines t classes (range_with_len 0 (length t.meters))) past inv.2 in
    record { appends = finished c.new-lines.ensures.empty (then_printed (rw done at inv.1) c.line.ensures.printed) c.finish.ensures.printed }
