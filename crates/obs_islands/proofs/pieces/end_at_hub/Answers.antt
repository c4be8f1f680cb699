use Rattle.std.proofs.Common.{◌-◌, ℕ, List, length, sym, subst, arith}
use Rattle.std.specs.Prelude.{AllPairs, slice_index_or}
use Rattle.std.specs.Prelude.{◌<◌}
use Rattle.obs_matroid.specs.Lists.{In}
use Rattle.obs_meter.specs.declared.Touch.TheVariants.{Nothing}
use Rattle.obs_meter.proofs.Touched.{touched-rising}
use Rattle.obs_islands.proofs.Noting.{In-last}
use Rattle.obs_islands.proofs.pieces.end_at_hub.Goals as goal

pub overflow_add-result : goal.overflow_add-result
overflow_add-result c =
    let t = c.touch-branches in
    let low = t.ensures.positions (length t.result.now - 1) 0 (omega (arith, c.if-count-eq0.false)) in
    omega (arith, low, c.positions.ensures.count, c.positions.type_inv)

pub returns-clause-above : goal.returns-clause-above
returns-clause-above c = λ e h is i.
    let t = c.touch-branches in
    let rising = subst (λ (xs : List ℕ). AllPairs ◌<◌ xs) (sym t.ensures.touched) (touched-rising c.args.g.now.ends (slice_index_or c.args.used.now.touches c.args.m Nothing)) in
    let low = In-last t.result.now e rising (subst (λ (xs : List ℕ). In e xs) (sym t.ensures.touched) i) in
    omega (arith, low)
