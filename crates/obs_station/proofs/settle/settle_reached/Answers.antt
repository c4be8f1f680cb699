use Rattle.std.proofs.Common.{Option, List, ℕ, length, refl, ap, ◌∙◌, arith}
use Rattle.obs_station.specs.inner.Rounds.{allowance}
use Rattle.obs_station.proofs.Going.{goes_nowhere}
use Rattle.obs_station.proofs.Settling.{known_again}
use Rattle.obs_station.proofs.settle.settle_reached.Goals as goal

pub reach-requires : goal.reach-requires
reach-requires g c = record { paired = c.requires.ready.paired; room = c.requires.ready.room; meters = c.requires.known.places.meters }

pub settle-requires : goal.settle-requires
settle-requires g c =
    let e = c.reach.ensures in
    record { paired = c.requires.ready.paired; reached = e.reached; known = known_again c.requires.known e.same_ranks e.same_meters }

pub returns : goal.returns
returns g c =
    let s = c.args.over.now.stations.now in
    let e = c.reach.ensures in
    let k = c.settle.ensures in
    let ticks = e.ticks in
    let saved = k.saved in
    let was = ap (λ (xs : List (Option ℕ)). allowance s xs s.buses.count) e.same_ranks in
    record {
      settled = record {
        goes_on = goes_nowhere c.requires.ready refl e.same_sizes (omega (arith, ticks));
        known = k.known;
        searched = omega (arith, ticks, was, saved);
        as_large = record { meters = k.as_large.meters ∙ e.same_meters; nodes = k.as_large.nodes ∙ ap (λ (xs : List (Option ℕ)). length xs) e.same_ranks };
      };
    }
