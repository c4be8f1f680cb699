use Rattle.std.proofs.Common.{arith}
use Rattle.obs_first.proofs.Going.{IsMoved-dropped}
use Rattle.obs_first.proofs.trying.release.Goals as goal

pub drop_pair-requires-clause-stands : goal.drop_pair-requires-clause-stands
drop_pair-requires-clause-stands c = c.requires.may.ready.stands.forest

pub drop_pair-requires-clause-m : goal.drop_pair-requires-clause-m
drop_pair-requires-clause-m c = omega (arith, c.requires.may.ready.stands.meters, c.requires.may.low)

pub note-requires : goal.note-requires
note-requires c = record { m = omega (arith, c.requires.may.low, c.requires.may.ready.prepared.room.meters) }

pub returns-clause-moved : goal.returns-clause-moved
returns-clause-moved c =
    let touches = c.args.over.now.meters.now.touches in
    let d = c.drop_pair.ensures in
    let may = c.requires.may in
    IsMoved-dropped c.args.over.now.graph.now touches c.args.a.now c.drop_pair.new.self c.args.work.now c.note.new.self c.args.m c.args.rank d.dropped d.thawed may.thawed c.note.ensures.noted c.note.ensures.low
    (d.stands touches may.ready.stands) d.whole d.same_room may.ready
