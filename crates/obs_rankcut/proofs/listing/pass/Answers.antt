use Rattle.std.proofs.Common.{◌<◌, false, not, length, sym, ◌∙◌, arith}
use Rattle.std.specs.Prelude.{slice_index_or}
use Rattle.std.proofs.lemmas.Bool.{and_parts, not-true}
use Rattle.obs_rankcut.specs.inner.Flags.{marked}
use Rattle.obs_rankcut.proofs.Passing.{Passed-counted, Passed-flags, Passed-idle, Passed-listed, Passed-out, idle}
use Rattle.obs_rankcut.proofs.listing.pass.Goals as goal
use Rattle.obs_rankcut.proofs.listing.pass.Goals.{then-choice-m+then-is_listed, then-choice-m+else-is_listed+then-is_outside, then-choice-m+else-is_listed+else-is_outside, else-choice-m}

pub overflow_add-outside : goal.overflow_add-outside
overflow_add-outside c = let b = c.loop-m.invariant.bound_outside in omega arith

pub loop-m-preserved : goal.loop-m-preserved
loop-m-preserved c =
    let l = c.loop-m in
    let ends = c.args.g.now.ends in
    let touches = c.args.ms.now.touches in
    let marks = marked c.args.choice.now.marks.now in
    let scope = marked c.args.choice.now.scope.now in
    let low : l.m < length touches = let e = c.count-m-end.ensures.count in let t = c.loop-m-test.true in omega arith in
    elim c.if-choice-m.branch [
      | then-choice-m+then-is_listed w ↦
          let parts = and_parts w.live-live.result (slice_index_or c.args.choice.now.marks.now l.m false) (sym w.is_listed.ensures.listed ∙ w.if-is_listed.true) in
          rw (w.flags-is, w.fronts-is, w.list-is, w.count-is, w.outside-is)
          (Passed-listed ends touches marks scope l.m low l.flags l.fronts l.list l.count l.outside l.invariant (sym w.live-live.ensures.live ∙ parts.0) w.if-choice-m.true parts.1 (omega arith)
          w.mark_touched.new.flags w.mark_touched.new.fronts
          w.mark_touched.ensures.marks
          w.mark_touched.ensures.done)
      | then-choice-m+else-is_listed+then-is_outside w ↦
          let parts = and_parts w.live-live.result (not (slice_index_or c.args.choice.now.marks.now l.m false)) (sym w.is_outside.ensures.outside ∙ w.if-is_outside.true) in
          rw (w.flags-is, w.fronts-is, w.list-is, w.count-is, w.outside-is)
          (Passed-counted ends touches marks scope l.m low l.flags l.fronts l.list l.count l.outside l.invariant (sym w.live-live.ensures.live ∙ parts.0) w.if-choice-m.true (not-true (slice_index_or c.args.choice.now.marks.now l.m false) parts.1))
      | then-choice-m+else-is_listed+else-is_outside w ↦
          let none = idle w.live-live.result (slice_index_or c.args.choice.now.marks.now l.m false) (sym w.is_listed.ensures.listed ∙ w.if-is_listed.false) (sym w.is_outside.ensures.outside ∙ w.if-is_outside.false) in
          rw (w.flags-is, w.fronts-is, w.list-is, w.count-is, w.outside-is)
          (Passed-idle ends touches marks scope l.m low l.flags l.fronts l.list l.count l.outside l.invariant (sym w.live-live.ensures.live ∙ none))
      | else-choice-m w ↦ rw (w.flags-is, w.fronts-is, w.list-is, w.count-is, w.outside-is)
          (Passed-out ends touches marks scope l.m low l.flags l.fronts l.list l.count l.outside l.invariant w.if-choice-m.false)
    ]

pub returns-clause-flags : goal.returns-clause-flags
returns-clause-flags c =
    Passed-flags c.args.g.now.ends c.args.ms.now.touches (marked c.args.choice.now.marks.now) (marked c.args.choice.now.scope.now)
    c.loop-m.flags c.loop-m.fronts c.loop-m.list c.loop-m.count c.loop-m.outside c.loop-m.m (omega arith) c.loop-m.invariant
