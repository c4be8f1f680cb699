use Rattle.std.proofs.Common.{arith, ◌∙◌}
use Rattle.obs_outage.specs.inner.Sparing.{CanBeMissed, IsNeeded}
use Rattle.obs_outage.proofs.Flagging.{flagged_set, unflagged_set}
use Rattle.obs_outage.proofs.spared.flag_rows.Goals as goal

pub loop-e-preserved : goal.loop-e-preserved
loop-e-preserved c =
    let l = c.loop-e in
    let a = c.args.pairs.now in
    let part = c.args.part.now.ends in
    let can = c.can_be_missed in
    let low = c.loop-e-test.true in (
      flagged_set (CanBeMissed a part) l.flags l.e can.result (omega (arith, low)) can.ensures.missed l.invariant.0,
      can.ensures.room ∙ l.invariant.1,
      unflagged_set (IsNeeded a part) l.flags l.e can.result (omega (arith, low)) can.ensures.needed l.invariant.2,
    )

pub can_be_missed-requires-clause-one_each : goal.can_be_missed-requires-clause-one_each
can_be_missed-requires-clause-one_each c = c.requires.one_each
