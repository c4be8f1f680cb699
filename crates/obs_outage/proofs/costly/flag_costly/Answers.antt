use Rattle.std.proofs.Common.{◌≡◌, None, true, false, get_or, sym, ◌∙◌, arith}
use Rattle.std.proofs.lemmas.Bool.{true≢false}
use Rattle.std.proofs.lemmas.List.{length-set}
use Rattle.obs_assign.specs.inner.Assignment.{has_flag}
use Rattle.obs_outage.specs.inner.Costly.{IsCostly}
use Rattle.obs_outage.proofs.Flagging.{flagged_set, unflagged_set}
use Rattle.obs_outage.proofs.Needed.{costly_needed}
use Rattle.obs_outage.proofs.costly.flag_costly.Goals as goal
use Rattle.obs_outage.proofs.costly.flag_costly.Goals.{else-is_critical_flow, then-is_critical_flow}

pub loop-e-preserved : goal.loop-e-preserved
loop-e-preserved c =
    let l = c.loop-e in
    let g = c.args.g.now in
    let touches = c.args.ms.now.touches in
    let flag = c.if-is_critical_flow.flags in
    let test = c.loop-e-test.true in
    let rows = c.requires.rows in
    let long = c.requires.flags in
    let same = l.invariant.long in
    let costly : flag ≡ true → IsCostly g.ends touches l.e = λ is. elim c.if-is_critical_flow.branch [
      | then-is_critical_flow w ↦ c.is_critical_flow.ensures.costly w.if-is_critical_flow.true
      | else-is_critical_flow w ↦
          let t = sym w.flags-is ∙ is in
          costly_needed g touches c.args.a.now c.requires.longest c.args.marks.now c.requires.closed c.args.part.now.ends c.requires.touched c.requires.whole l.e
          (w.is_needed.ensures.there t) (c.requires.needed l.e test (w.is_needed.ensures.unspared t))
    ] in
    let rest : flag ≡ false → has_flag c.args.spared.now l.e ≡ false → get_or c.args.part.now.ends l.e None ≡ None = λ is. elim c.if-is_critical_flow.branch [
      | then-is_critical_flow w ↦ absurd (true≢false (sym w.if-is_critical_flow.true ∙ (sym w.flags-is ∙ is)))
      | else-is_critical_flow w ↦ w.is_needed.ensures.rest (sym w.flags-is ∙ is)
    ] in
    record {
      long = length-set l.flags l.e flag ∙ same;
      costly = flagged_set (IsCostly g.ends touches) l.flags l.e flag (omega (arith, test, rows, long, same)) costly l.invariant.costly;
      rest = λ k low unspared is.
          unflagged_set (λ j. has_flag c.args.spared.now j ≡ false → get_or c.args.part.now.ends j None ≡ None) l.flags l.e flag (omega (arith, test, rows, long, same)) rest
          (λ j less f u. l.invariant.rest j less u f) k low is unspared;
    }

pub is_critical_flow-requires-clause-longest : goal.is_critical_flow-requires-clause-longest
is_critical_flow-requires-clause-longest c = c.requires.longest

pub is_critical_flow-requires-clause-closed : goal.is_critical_flow-requires-clause-closed
is_critical_flow-requires-clause-closed c = c.requires.closed

pub is_critical_flow-requires-clause-marks : goal.is_critical_flow-requires-clause-marks
is_critical_flow-requires-clause-marks c = c.requires.marks
