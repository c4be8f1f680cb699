use Rattle.std.proofs.Common.{sym, subst}
use Rattle.obs_trial.specs.inner.Named.{IsSoFar}
use Rattle.obs_trial.specs.Trial.{ends_of_first}
use Rattle.obs_trial.proofs.RowLemmas.{ends-more}
use Rattle.obs_trial.proofs.grid.add_links.Goals as goal

pub loop-at-preserved : goal.loop-at-preserved
loop-at-preserved c =
    let n = c.args.n in
    let inside = c.loop-at-test.true in
    let right = c.in_ok-state.ensures.added c.args.seed (ends_of_first n c.loop-at.at) c.loop-at.invariant inside in
    let below = c.in_ok-state-2.ensures.added c.args.seed _ right inside in
    subst (λ ends. IsSoFar n c.args.seed ends c.add_below.new.case c.in_ok-state-2.state) (sym (ends-more n c.loop-at.at)) below
