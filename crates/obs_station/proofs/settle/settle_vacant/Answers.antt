use Rattle.std.proofs.Common.{◌≡◌, ℕ, ◌<◌, None, List, length, get_or, refl, sym, ap, ◌∙◌, subst, arith}
use Rattle.std.specs.Prelude.{All}
use Rattle.std.proofs.lemmas.Bool.{lt-ltb}
use Rattle.obs_matroid.specs.Lists.{In}
use Rattle.obs_matroid.proofs.Lists.{clash, length-without_lt}
use Rattle.obs_switch.specs.Groups.{items_with}
use Rattle.obs_meter.specs.Assignments.{rho_at}
use Rattle.obs_meter.specs.Lost.{is_listed}
use Rattle.obs_meter.specs.inner.Lost.{left_of}
use Rattle.obs_meter.specs.Touches.{live_items}
use Rattle.obs_meter.proofs.Live.{live_low}
use Rattle.obs_station.specs.inner.Going.{NoneVacant}
use Rattle.obs_station.proofs.Going.{settled_nowhere}
use Rattle.obs_station.proofs.Members.{member-at}
use Rattle.obs_station.proofs.Settling.{settled_one}
use Rattle.obs_station.proofs.settle.settle_vacant.Goals as goal

pub vacant-requires : goal.vacant-requires
vacant-requires g c = record { paired = c.requires.ready.paired; places = c.requires.known.places }

pub rank_without-rank-requires : goal.rank_without-rank-requires
rank_without-rank-requires g c = record {
  ready = c.requires.ready;
  low = subst (λ (n : ℕ). All (λ m. m < n) c.meters-list.result.now) c.requires.ready.paired.grouped.keys c.meters-list.ensures.low;
}

pub returns-in-Some : goal.returns-in-Some
returns-in-Some g c =
    let over = c.args.over.now in
    let ends = over.graph.now.ends in
    let touches = over.meters.now.touches in
    let s = over.stations.now in
    let grouped = c.requires.ready.paired.grouped in
    let m = c.in-Some.m in
    let source = c.in-Some.ensures.vacant.0 in
    let low : m < length s.keys = let l = live_low ends touches m source.0 in let k = grouped.keys in omega (arith, l, k) in
    let own = (grouped.stationed m low).1 source.0 in
    let key = c.station-c.ensures.station in
    let list = items_with s.keys c.station-c.result in
    let is : c.meters-list.result.now ≡ list = c.meters-list.ensures.meters in
    let member : In m list = subst (λ (k : ℕ). In m (items_with s.keys k)) (sym key) (member-at s.keys m low) in
    let some = length-without_lt m list member in
    let e = c.rank_without-rank.ensures in
    let rank = ap (λ (xs : List ℕ). rho_at over.graph.now.vertices ends touches (left_of (is_listed xs) (live_items ends touches))) is in
    let long = ap (λ (xs : List ℕ). length xs) is in
    let few = e.vacant m (subst (λ (xs : List ℕ). In m xs) (sym is) member) source.1 in
    let none : get_or c.args.rounds.now.ranks c.station-c.result None ≡ None = ap (λ (k : ℕ). get_or c.args.rounds.now.ranks k None) key ∙ c.in-Some.ensures.vacant.1 in
    record {
      settled = settled_one c.requires.known e.goes_on (omega (arith, own, key)) none (lt-ltb 0 (length list) (omega (arith, some))) (e.rank ∙ rank) (omega (arith, few, long)) c.put.ensures.put;
      none = λ t. clash {P = NoneVacant over c.rank_without-rank.new.a c.put.new.self} refl t;
      same = λ t. clash {P = c.put.new.self ≡ c.args.rounds.now} refl t;
    }

pub returns-in-None : goal.returns-in-None
returns-in-None g c = record { settled = settled_nowhere c.requires.ready c.requires.known; none = λ t. c.in-None.ensures.none; same = λ t. refl }
