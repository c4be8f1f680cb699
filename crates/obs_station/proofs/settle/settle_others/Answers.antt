use Rattle.std.proofs.Common.{ℕ, cond, ap, arith}
use Rattle.obs_station.proofs.Going.{settled_further}
use Rattle.obs_station.proofs.settle.settle_others.Goals as goal

pub settle_vacant-requires : goal.settle_vacant-requires
settle_vacant-requires g c = record { ready = c.requires.ready; known = c.requires.known }

pub settle_reached-given-requires : goal.settle_reached-given-requires
settle_reached-given-requires g c = let v = c.settle_vacant.ensures.settled in record { ready = v.goes_on.ready; known = v.known }

pub settle_reached-requires : goal.settle_reached-requires
settle_reached-requires g c = let v = c.settle_vacant.ensures.settled in record { ready = v.goes_on.ready; known = v.known }

pub settle_rounds-requires : goal.settle_rounds-requires
settle_rounds-requires g c = let r = c.settle_reached-given.ensures.settled in record { ready = r.goes_on.ready; known = r.known }

pub returns-then-settle_vacant : goal.returns-then-settle_vacant
returns-then-settle_vacant g c =
    let one = ap {B = ℕ} (λ b. cond b 1 0) c.if-settle_vacant.true in
    let r = c.settle_reached-given in
    record { settled = settled_further (settled_further {from = 1} {to = r.result} c.settle_vacant.ensures.settled r.ensures.settled (omega (arith, one))) c.settle_rounds.ensures.settled (omega arith) }

pub returns-else-settle_vacant : goal.returns-else-settle_vacant
returns-else-settle_vacant g c =
    let none = ap {B = ℕ} (λ b. cond b 1 0) c.if-settle_vacant.false in
    record { settled = settled_further c.settle_vacant.ensures.settled c.settle_reached.ensures.settled (omega (arith, none)) }
