use Rattle.std.proofs.Common.{◌≡◌, ℕ, ◌+◌, ◌≤◌, List, length, sym, ap, ◌∙◌, arith}
use Rattle.obs_switch.specs.Groups.{items_with}
use Rattle.obs_assign.specs.inner.Assignment.{pairs}
use Rattle.obs_station.specs.inner.Rounds.{rank_left}
use Rattle.obs_station.proofs.Placed.{spared_few, spared_rank}
use Rattle.obs_station.proofs.shown.shown_rank.Goals as goal
use Rattle.obs_station.proofs.shown.shown_rank.Goals.{After-length}

-- what costs nothing is of the station, and what the loss costs
module _ (c : After-length) where
  few : c.in-Some.spared ≤ length (items_with c.args.over.now.stations.now.keys c.args.c)
  few = spared_few c.args.over.now.stations.now c.args.a.now _ _ _ c.args.c c.in-Some.spared c.in-Some.ensures.spared

  fall : rank_left c.args.over.now c.args.c + length (items_with c.args.over.now.stations.now.keys c.args.c) ≡ length (pairs c.args.a.now) + c.in-Some.spared
  fall = spared_rank c.args.over.now c.args.a.now c.requires.paired _ _ _ c.requires.reached c.args.c c.requires.station c.in-Some.spared c.in-Some.ensures.spared

  long : length c.meters-list.result.now ≡ length (items_with c.args.over.now.stations.now.keys c.args.c)
  long = ap (λ (xs : List ℕ). length xs) c.meters-list.ensures.meters

pub overflow_sub-result : goal.overflow_sub-result
overflow_sub-result c =
    let d = (goal.at.overflow_sub-result c).After-length in
    omega (arith, few d, long d)

pub overflow_sub-result-in-Some : goal.overflow_sub-result-in-Some
overflow_sub-result-in-Some c =
    let d = (goal.at.overflow_sub-result-in-Some c).After-length in
    omega (arith, few d, fall d, long d, c.length.ensures.length)

pub returns-in-Some : goal.returns-in-Some
returns-in-Some c =
    let d = (goal.at.returns-in-Some c).After-length in
    record { rank = (sym c.has_any.ensures.any ∙ c.if-not-has_any.false, omega (arith, few d, fall d, long d, c.length.ensures.length)) }
