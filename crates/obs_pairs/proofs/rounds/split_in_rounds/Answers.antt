use Rattle.std.proofs.Common.{◌∙◌, sym}
use Rattle.obs_pairs.proofs.Moving.{IsMoved-on}
use Rattle.obs_pairs.proofs.rounds.split_in_rounds.Goals as goal
use Rattle.obs_pairs.proofs.rounds.split_in_rounds.Goals.{else-worth, then-worth}

pub count_settled-settled-requires : goal.count_settled-settled-requires
count_settled-settled-requires g c = record { list = c.requires.settled.places ∙ sym c.requires.settled.flags }

pub split-requires : goal.split-requires
split-requires g c = record { may = c.requires.may; settled = c.requires.settled }

pub is_worth-worth-requires : goal.is_worth-worth-requires
is_worth-worth-requires g c = record { list = c.split.ensures.settled.places ∙ sym c.split.ensures.settled.flags }

pub loop-round-init : goal.loop-round-init
loop-round-init g c = record { settled = c.split.ensures.settled; moved = c.split.ensures.moved }

pub loop-round-preserved : goal.loop-round-preserved
loop-round-preserved g c =
    let inv = c.loop-round.invariant in
    elim c.if-worth.branch [
      | then-worth w ↦
          let s = w.split-then-worth.ensures in
          rw (w.a-is, w.room-is, w.waiting-is, w.list-is) (record { settled = s.settled; moved = IsMoved-on (IsMoved-on inv.moved w.renew.ensures.moved) s.moved })
      | else-worth w ↦ rw (w.a-is, w.room-is, w.waiting-is, w.list-is) (record { settled = inv.settled; moved = inv.moved })
    ]

pub count_settled-settled-requires-then-worth : goal.count_settled-settled-requires-then-worth
count_settled-settled-requires-then-worth g c = record { list = c.loop-round.invariant.settled.places ∙ sym c.loop-round.invariant.settled.flags }

pub renew-requires : goal.renew-requires
renew-requires g c = record { may = c.loop-round.invariant.moved.may; waiting = c.loop-round.invariant.settled.flags }

pub split-requires-then-worth : goal.split-requires-then-worth
split-requires-then-worth g c = record { may = c.renew.ensures.moved.may; settled = c.loop-round.invariant.settled }

pub is_worth-worth-requires-then-worth : goal.is_worth-worth-requires-then-worth
is_worth-worth-requires-then-worth g c = record { list = c.split-then-worth.ensures.settled.places ∙ sym c.split-then-worth.ensures.settled.flags }

pub returns : goal.returns
returns g c = record { settled = c.loop-round.invariant.settled; moved = c.loop-round.invariant.moved }
