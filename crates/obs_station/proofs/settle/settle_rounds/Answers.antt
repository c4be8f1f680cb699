use Rattle.std.proofs.Common.{arith}
use Rattle.obs_station.proofs.Going.{settled_further, settled_nowhere}
use Rattle.obs_station.proofs.settle.settle_rounds.Goals as goal
use Rattle.obs_station.proofs.settle.settle_rounds.Goals.{else-worth, then-worth}

pub loop-round-init : goal.loop-round-init
loop-round-init g c = settled_nowhere c.requires.ready c.requires.known

pub settle_round-next-requires : goal.settle_round-next-requires
settle_round-next-requires g c = let i = c.loop-round.invariant in record { ready = i.goes_on.ready; known = i.known }

pub loop-round-preserved : goal.loop-round-preserved
loop-round-preserved g c =
    let i = c.loop-round.invariant in
    elim c.if-worth.branch [
      | then-worth w ↦ rw (w.a-is, w.room-is, w.rounds-is, w.given-is, w.steps-is) (settled_further i w.settle_round-next.ensures.settled (omega (arith)))
      | else-worth w ↦ rw (w.a-is, w.room-is, w.rounds-is, w.given-is, w.steps-is) i
    ]

pub returns : goal.returns
returns g c =
    let i = c.loop-round.invariant in
    let h = i.searched in
    record { settled = record { goes_on = i.goes_on; known = i.known; searched = omega (arith, h); as_large = i.as_large } }
