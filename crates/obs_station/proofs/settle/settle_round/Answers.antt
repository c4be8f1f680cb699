use Rattle.std.proofs.Common.{ℕ, ◌+◌, ◌<◌, ◌≤◌, List, length, sym, subst, ap, arith}
use Rattle.std.specs.Prelude.{All}
use Rattle.std.proofs.lemmas.List.{length-take-le}
use Rattle.obs_station.specs.inner.Rounds.{Rounds}
use Rattle.obs_station.proofs.Going.{settled_further}
use Rattle.obs_station.proofs.Settling.{all_low, known_again, settled_pairs}
use Rattle.obs_station.proofs.settle.settle_round.Goals as goal

pub listed-list-requires : goal.listed-list-requires
listed-list-requires g c = record { room = c.draw-count.ensures.room }

pub rank_without-requires : goal.rank_without-requires
rank_without-requires g c =
    let touches = c.args.over.now.meters.now.touches in
    let keys = c.requires.ready.paired.grouped.keys in
    record {
      ready = c.requires.ready;
      low = subst (λ (xs : List ℕ). All (λ m. m < length touches) xs) (sym c.listed-list.ensures.listed)
          (all_low c.draw-count.new.self.list c.draw-count.result (length touches) (λ k l. let low = c.draw-count.ensures.low k l in omega (arith, low, keys)));
    }

pub settle_reached-gain-requires : goal.settle_reached-gain-requires
settle_reached-gain-requires g c =
    let same = c.draw-count.ensures.same in
    record {
      ready = c.rank_without.ensures.goes_on.ready;
      known = known_again c.requires.known (ap (λ (x : Rounds). x.ranks) same) (ap (λ (x : Rounds). length x.firsts) same);
    }

pub returns : goal.returns
returns g c =
    let w = c.rank_without in
    let d = c.draw-count in
    let long = ap (λ (xs : List ℕ). length xs) c.listed-list.ensures.listed in
    let size = length-take-le d.result d.new.self.list d.ensures.room in
    let ticks = w.ensures.ticks in
    let few : w.new.steps ≤ c.args.steps.now + (d.result + 1) = omega (arith, ticks, long, size) in
    let most = d.ensures.few in
    let sub = c.saturating_sub.ensures in
    let add = c.saturating_add.ensures in
    record { settled = settled_further (settled_pairs c.requires.known d.ensures.same w.ensures.goes_on few) c.settle_reached-gain.ensures.settled (omega (arith, most, sub, add)) }
