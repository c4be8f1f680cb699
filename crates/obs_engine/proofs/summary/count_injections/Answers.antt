use Rattle.std.proofs.Common.{◌<◌, ◌+◌, ◌∙◌, List, ℕ, ap, arith, get_or, length, set, subst, sym}
use Rattle.obs_engine.proofs.Summed.{CountedTo, counted_meters, none_there, one_there}
use Rattle.obs_engine.proofs.summary.count_injections.Goals as goal
use Rattle.obs_engine.proofs.summary.count_injections.Goals.{then-is_live_injection, else-is_live_injection}

pub loop-m-preserved : goal.loop-m-preserved
loop-m-preserved c =
    let t = c.args.case.now in
    let m = c.loop-m.m in
    let counts = c.loop-m.counts in
    let inv = c.loop-m.invariant in
    let low : m < length t.meters = omega (arith, ap length c.meters.ensures.rows, c.loop-m-test.true) in
    let live = sym c.is_live_injection.ensures.live in
    let long = c.if-is_live_injection.auto.counts ∙ inv.buses in
    elim c.if-is_live_injection.branch [
      | then-is_live_injection w ↦ record {
        counted = λ bus within.
            subst (λ (now : List ℕ). CountedTo t now (m + 1) bus) (sym w.counts-is)
            (subst (λ x. CountedTo t (set counts x (get_or counts x 0 + 1)) (m + 1) bus) (sym w.injection_bus.ensures.bus)
            (one_there t counts m bus low (omega (arith, within, inv.buses)) (live ∙ w.if-is_live_injection.true) (inv.counted bus within)));
        buses = long;
      }
      | else-is_live_injection w ↦ record {
        counted = λ bus within.
            subst (λ (now : List ℕ). CountedTo t now (m + 1) bus) (sym w.counts-is)
            (none_there t counts m bus low (live ∙ w.if-is_live_injection.false) (inv.counted bus within));
        buses = long;
      }
    ]

pub returns-clause-counts : goal.returns-clause-counts
returns-clause-counts c = λ bus within.
    let all = c.loop-m-test.false in
    counted_meters c.args.case.now c.loop-m.counts c.loop-m.m bus (omega (arith, ap length c.meters.ensures.rows, all)) (c.loop-m.invariant.counted bus within)
