use Rattle.std.proofs.Common.{◌≡◌, ℕ, None, cond, get_or, length, sym, ap, ◌∙◌, subst, arith}
use Rattle.obs_station.specs.inner.Rounds.{Rounds}
use Rattle.obs_station.proofs.Allowed.{allowance-none, ranked-none}
use Rattle.obs_station.proofs.Going.{settled_further}
use Rattle.obs_station.proofs.Placed.{reached_none}
use Rattle.obs_station.proofs.settle.settle_many.Goals as goal

pub overflow_cast-all : goal.overflow_cast-all
overflow_cast-all g c = omega (arith, c.members.ensures.few, c.requires.ready.paired.grouped.keys, c.count.ensures.count, c.count.type_inv)

pub settle_vacant-requires : goal.settle_vacant-requires
settle_vacant-requires g c =
    let b = c.begin in
    let nodes = b.ensures.as_large.nodes in
    let room = c.requires.places.nodes in
    record {
      ready = c.requires.ready;
      known = record {
        places = record { meters = b.ensures.as_large.meters ∙ c.requires.places.meters; nodes = omega (arith, nodes, room) };
        ranked = ranked-none c.args.over.now b.new.self.ranks b.ensures.ranks;
      };
    }

pub settle_others-requires : goal.settle_others-requires
settle_others-requires g c = let v = c.settle_vacant.ensures.settled in record { ready = v.goes_on.ready; known = v.known }

pub settle-requires : goal.settle-requires
settle-requires g c =
    let s = c.args.over.now.stations.now in
    let v = c.settle_vacant.ensures in
    let b = c.begin.ensures in
    let f = c.if-settle_vacant.false in
    let same = v.same f in
    record {
      paired = v.settled.goes_on.ready.paired;
      reached = reached_none c.members.ensures.by_station v.settled.known.places.meters
          (ap (λ (r : Rounds). length r.lasts) same ∙ (b.lasts ∙ sym (ap (λ (r : Rounds). length r.firsts) same)))
          (λ m l. ap (λ (r : Rounds). get_or r.firsts m 0) same ∙ b.firsts m (let e = v.settled.as_large.meters in let k = b.as_large.meters in omega (arith, l, e, k)))
          (λ m source. v.none f m source (subst (λ (r : Rounds). get_or r.ranks (get_or s.keys m 0) None ≡ None) (sym same) (b.ranks (get_or s.keys m 0))));
      known = v.settled.known;
    }

pub returns-then-settle_vacant : goal.returns-then-settle_vacant
returns-then-settle_vacant g c =
    let s = c.args.over.now.stations.now in
    let b = c.begin in
    let none = allowance-none s b.new.self.ranks s.buses.count b.ensures.ranks in
    let one = ap {B = ℕ} (λ b. cond b 1 0) c.if-settle_vacant.true in
    let both = settled_further {from = 0} {to = 0} c.settle_vacant.ensures.settled c.settle_others.ensures.settled (omega (arith, one)) in
    let searched = both.searched in
    record {
      known = both.known;
      goes_on = both.goes_on;
      ticks = omega (arith, searched, none);
      as_large = record { meters = both.as_large.meters ∙ b.ensures.as_large.meters; nodes = both.as_large.nodes ∙ b.ensures.as_large.nodes };
    }

pub returns-else-settle_vacant : goal.returns-else-settle_vacant
returns-else-settle_vacant g c =
    let s = c.args.over.now.stations.now in
    let b = c.begin in
    let v = c.settle_vacant.ensures.settled in
    let none = allowance-none s b.new.self.ranks s.buses.count b.ensures.ranks in
    let zero = ap {B = ℕ} (λ b. cond b 1 0) c.if-settle_vacant.false in
    let searched = v.searched in
    let e = c.settle.ensures in
    let saved = e.saved in
    record {
      known = e.known;
      goes_on = v.goes_on;
      ticks = omega (arith, searched, none, saved, zero);
      as_large = record { meters = e.as_large.meters ∙ (v.as_large.meters ∙ b.ensures.as_large.meters); nodes = e.as_large.nodes ∙ (v.as_large.nodes ∙ b.ensures.as_large.nodes) };
    }
