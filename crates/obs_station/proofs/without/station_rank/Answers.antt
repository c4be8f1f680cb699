use Rattle.std.proofs.Common.{◌≡◌, ℕ, ◌<◌, Option, List, length, refl, ap, ◌∙◌, subst, arith}
use Rattle.std.specs.Prelude.{All, IfSome}
use Rattle.obs_switch.specs.Groups.{items_with}
use Rattle.obs_meter.specs.Assignments.{rho_at}
use Rattle.obs_meter.specs.Lost.{is_listed}
use Rattle.obs_meter.specs.inner.Lost.{left_of}
use Rattle.obs_meter.specs.Touches.{live_items}
use Rattle.obs_station.specs.inner.Rounds.{allowed, rank_left}
use Rattle.obs_station.proofs.Going.{goes_nowhere}
use Rattle.obs_station.proofs.without.station_rank.Goals as goal

pub rank_without-requires : goal.rank_without-requires
rank_without-requires g c = record {
  ready = c.requires.ready;
  low = subst (λ (n : ℕ). All (λ m. m < n) c.meters-list.result.now) c.requires.ready.paired.grouped.keys c.meters-list.ensures.low;
}

pub returns-in-Some : goal.returns-in-Some
returns-in-Some g c = record {
  rank = subst (λ (o : Option ℕ). IfSome o (λ r. r ≡ rank_left c.args.over.now c.args.c)) c.in-Some.is c.requires.known;
  ticks = let taken = ap (allowed (length (items_with c.args.over.now.stations.now.keys c.args.c))) c.in-Some.is in omega (arith, taken);
  goes_on = goes_nowhere c.requires.ready refl refl (omega arith);
}

pub returns-in-None : goal.returns-in-None
returns-in-None g c =
    let over = c.args.over.now in
    let ends = over.graph.now.ends in
    let touches = over.meters.now.touches in
    let is = c.meters-list.ensures.meters in
    let rank = ap (λ (xs : List ℕ). rho_at over.graph.now.vertices ends touches (left_of (is_listed xs) (live_items ends touches))) is in
    let long = ap (λ (xs : List ℕ). length xs) is in
    let e = c.rank_without.ensures in
    let ticks = e.ticks in
    let taken = ap (allowed (length (items_with over.stations.now.keys c.args.c))) c.in-None.is in
    record { rank = e.rank ∙ rank; ticks = omega (arith, ticks, long, taken); goes_on = e.goes_on }
