use Rattle.std.proofs.Common.{◌≡◌, ℕ, ◌<◌, ◌≤◌, true, false, None, List, length, get_or, inl, inr, refl, sym, ap, ◌∙◌, arith}
use Rattle.std.specs.List.{range_with_len}
use Rattle.obs_matroid.proofs.Comparing.{cases_Option}
use Rattle.obs_matroid.proofs.Lists.{clash}
use Rattle.obs_switch.specs.Groups.{items_with}
use Rattle.obs_switch.specs.inner.Groups.{group_start}
use Rattle.obs_station.specs.inner.Held.{has_any, losses_in}
use Rattle.obs_station.specs.inner.Rounds.{allowance, allowed}
use Rattle.obs_station.proofs.Allowed.{allowance-next}
use Rattle.obs_station.proofs.Going.{goes_further}
use Rattle.obs_station.proofs.Grouped.{loss_made}
use Rattle.obs_station.proofs.Listing.{Listing-all, Listing-more, Listing-over}
use Rattle.obs_station.proofs.Summed.{items-next}
use Rattle.obs_station.proofs.without.write_losses.Goals as goal
use Rattle.obs_station.proofs.without.write_losses.Goals.{else-has_any, then-has_any}

pub settle_many-requires : goal.settle_many-requires
settle_many-requires g c = record { ready = c.requires.ready; places = c.requires.places }

pub station_rank-rank-requires : goal.station_rank-rank-requires
station_rank-rank-requires g c =
    let l = c.loop-c in
    let ranked = c.settle_many.ensures.known.ranked in
    record {
      ready = l.invariant.goes_on.ready;
      station = let e = c.count-c-end.ensures.count in let t = c.loop-c-test.true in omega (arith, e, t);
      known = rw (c.rank-known.ensures.rank) (elim (cases_Option (get_or c.settle_many.new.rounds.ranks l.c None)) [ inl n ↦ rw n tt | inr x ↦ rw x.1 (ranked l.c x.0 x.1).1 ]);
    }

pub loop-c-init : goal.loop-c-init
loop-c-init g c =
    let over = c.args.over.now in
    let m = c.settle_many.ensures in
    let ticks = m.ticks in
    record {
      listing = record { bound = omega arith; lists = ap (λ (k : ℕ). losses_in over.graph.now over.meters.now.touches over.stations.now (range_with_len 0 k)) (omega arith) };
      low = omega arith;
      ticks = omega (arith, ticks);
      goes_on = m.goes_on;
    }

pub loop-c-preserved : goal.loop-c-preserved
loop-c-preserved g c =
    let G = c.args.over.now.graph.now in
    let touches = c.args.over.now.meters.now.touches in
    let s = c.args.over.now.stations.now in
    let n = s.buses.count in
    let l = c.loop-c in
    let i = l.invariant in
    let ranks = c.settle_many.new.rounds.ranks in
    let low : l.c < n = let e = c.count-c-end.ensures.count in let t = c.loop-c-test.true in omega (arith, e, t) in
    let next = items-next s.keys l.c in
    let more = allowance-next s ranks l.c in
    let room : n ≤ length l.entries =
    let few = c.count-c-end.ensures.few in
    let count = c.count-c-end.ensures.count in
    omega (arith, c.requires.entries, l.auto.entries, few, count) in
    let ticks = i.ticks in
    let ranked = c.settle_many.ensures.known.ranked in
    elim c.if-has_any.branch [
      | then-has_any w ↦
          let any : has_any s l.c ≡ true = sym c.has_any.ensures.any ∙ w.if-has_any.true in
          let list = items_with s.keys l.c in
          let long = ap (λ (xs : List ℕ). length xs) w.meters-list.ensures.meters in
          let e = w.station_rank-rank.ensures in
          let spent = e.ticks in
          let known = ap (allowed (length list)) w.rank-known.ensures.rank in
          rw (w.a-is, w.room-is, w.entries-is, w.found-is, w.steps-is)
          (record {
            listing = Listing-more G touches s n l.entries l.found l.c i.listing (record { node = w.node.result; lost = length w.meters-list.result.now; rank = w.station_rank-rank.result }) low room any
                (loss_made G touches s l.c w.node.result (length w.meters-list.result.now) w.station_rank-rank.result list refl w.node.ensures.node long e.rank);
            low = omega (arith, low);
            ticks = omega (arith, ticks, next, more, spent, known);
            goes_on = goes_further i.goes_on e.goes_on;
          })
      | else-has_any w ↦
          let none : has_any s l.c ≡ false = sym c.has_any.ensures.any ∙ w.if-has_any.false in
          let unknown : allowed (length (items_with s.keys l.c)) (get_or ranks l.c None) ≡ 0 =
          elim (cases_Option (get_or ranks l.c None)) [ inl e ↦ ap (allowed (length (items_with s.keys l.c))) e | inr x ↦ clash (ranked l.c x.0 x.1).0 none ] in
          rw (w.a-is, w.room-is, w.entries-is, w.found-is, w.steps-is)
          (record {
            listing = Listing-over G touches s n l.entries l.found l.c i.listing low none;
            low = omega (arith, low);
            ticks = omega (arith, ticks, next, more, unknown);
            goes_on = i.goes_on;
          })
    ]

pub returns-clause-losses : goal.returns-clause-losses
returns-clause-losses g c =
    let e = c.count-c-end.ensures.count in
    let f = c.loop-c-test.false in
    let l = c.loop-c in
    let s = c.args.over.now.stations.now in
    Listing-all c.args.over.now.graph.now c.args.over.now.meters.now.touches s s.buses.count l.entries l.found l.c l.invariant.listing (omega (arith, e, f))

pub returns-clause-ticks : goal.returns-clause-ticks
returns-clause-ticks g c =
    let s = c.args.over.now.stations.now in
    let e = c.count-c-end.ensures.count in
    let f = c.loop-c-test.false in
    let l = c.loop-c in
    let low = l.invariant.low in
    let ticks = l.invariant.ticks in
    let all : l.c ≡ s.buses.count = omega (arith, e, f, low) in
    let same = ap (group_start s.keys) all in
    let allowances = ap (allowance s c.settle_many.new.rounds.ranks) all in
    omega (arith, ticks, same, allowances)
