use Rattle.std.proofs.Common.{◌<◌, ℕ, Bool, length, sym, ◌∙◌, arith}
use Rattle.obs_assign.specs.inner.Assignment.{has_flag}
use Rattle.obs_critical.specs.inner.Listed.{is_unmarked_pair}
use Rattle.obs_critical.proofs.Passing.{Passed-listed, Passed-over}
use Rattle.obs_critical.proofs.critical_meters.list_unmarked.Goals as goal
use Rattle.obs_critical.proofs.critical_meters.list_unmarked.Goals.{else-is_listed, then-is_listed}

pub loop-m-preserved : goal.loop-m-preserved
loop-m-preserved c =
    let l = c.loop-m in
    let touches = c.args.ms.now.touches in
    let passes : ℕ → Bool = is_unmarked_pair c.args.a.now (has_flag c.args.marks.now) in
    let low : l.m < length touches = let e = c.count-m-end.ensures.count in let t = c.loop-m-test.true in omega arith in
    elim c.if-is_listed.branch [
      | then-is_listed w ↦ rw (w.list-is, w.count-is)
          (Passed-listed passes (length touches) l.list l.count l.m l.invariant low (omega arith) (sym c.is_listed.ensures.value ∙ w.if-is_listed.true))
      | else-is_listed w ↦ rw (w.list-is, w.count-is)
          (Passed-over passes (length touches) l.list l.count l.m l.invariant low (sym c.is_listed.ensures.value ∙ w.if-is_listed.false))
    ]
