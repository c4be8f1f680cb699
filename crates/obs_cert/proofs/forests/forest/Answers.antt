use Rattle.std.proofs.Common.{[], ℕ, length, ap, ◌∙◌}
use Rattle.std.specs.Vec.{with_items}
use Rattle.obs_network.specs.Network.{rows_of}
use Rattle.obs_cert.specs.inner.Joins.{AreJoined}
use Rattle.obs_cert.specs.inner.Ready.{HasRoomForRows, IsReadyFor}
use Rattle.obs_cert.proofs.ClaimLemmas.{clear_joined, free_of, ready_joined, room_joined}
use Rattle.obs_cert.proofs.forests.forest.Goals as goal
use Rattle.obs_cert.proofs.forests.forest.Goals.{After-measure_pairs-forest}

room : (c : After-measure_pairs-forest) → HasRoomForRows (rows_of c.args.present.now)
    (record c.args.work.now { ups = with_items c.args.work.now.ups c.measure_pairs-forest.new.ups; moved = with_items c.args.work.now.moved c.measure_pairs-forest.new.moved })
room c =
    let j = c.measure_pairs-forest in
    room_joined (rows_of c.args.present.now) c.args.work.now j.new.ups j.new.moved c.requires.room (j.auto.ups ∙ ap length c.deref_mut.ensures.value) (j.auto.moved ∙ ap length c.deref_mut-2.ensures.value)

ready : (c : After-measure_pairs-forest) (stamp : ℕ) → IsReadyFor c.args.present.now stamp c.args.work.now → IsReadyFor c.args.present.now stamp
    (record c.args.work.now { ups = with_items c.args.work.now.ups c.measure_pairs-forest.new.ups; moved = with_items c.args.work.now.moved c.measure_pairs-forest.new.moved })
ready c stamp r =
    let j = c.measure_pairs-forest in
    ready_joined c.args.present.now stamp c.args.work.now j.new.ups j.new.moved r (j.auto.ups ∙ ap length c.deref_mut.ensures.value) (j.auto.moved ∙ ap length c.deref_mut-2.ensures.value) j.ensures.clear

clear : (c : After-measure_pairs-forest) → AreJoined [] (with_items c.args.work.now.ups c.measure_pairs-forest.new.ups).items []
clear c = let j = c.measure_pairs-forest in clear_joined c.args.work.now j.new.ups (j.auto.ups ∙ ap length c.deref_mut.ensures.value) j.ensures.clear

pub returns-then-forest-clause-ready : goal.returns-then-forest-clause-ready
returns-then-forest-clause-ready c = ready (goal.at.returns-then-forest-clause-ready c).After-measure_pairs-forest

pub returns-then-forest-clause-room : goal.returns-then-forest-clause-room
returns-then-forest-clause-room c = room (goal.at.returns-then-forest-clause-room c).After-measure_pairs-forest

pub returns-then-forest-need-clause-ready : goal.returns-then-forest-need-clause-ready
returns-then-forest-need-clause-ready c = ready (goal.at.returns-then-forest-need-clause-ready c).After-measure_pairs-forest

pub returns-then-forest-need-clause-room : goal.returns-then-forest-need-clause-room
returns-then-forest-need-clause-room c = room (goal.at.returns-then-forest-need-clause-room c).After-measure_pairs-forest

pub returns-clause-ready : goal.returns-clause-ready
returns-clause-ready c = ready (goal.at.returns-clause-ready c).After-measure_pairs-forest

pub returns-clause-room : goal.returns-clause-room
returns-clause-room c = room (goal.at.returns-clause-room c).After-measure_pairs-forest

pub returns-then-forest-clause-clear : goal.returns-then-forest-clause-clear
returns-then-forest-clause-clear c = clear (goal.at.returns-then-forest-clause-clear c).After-measure_pairs-forest

pub returns-then-forest-need-clause-clear : goal.returns-then-forest-need-clause-clear
returns-then-forest-need-clause-clear c = clear (goal.at.returns-then-forest-need-clause-clear c).After-measure_pairs-forest

pub returns-clause-clear : goal.returns-clause-clear
returns-clause-clear c = clear (goal.at.returns-clause-clear c).After-measure_pairs-forest

pub measure_pairs-forest-requires : goal.measure_pairs-forest-requires
measure_pairs-forest-requires c =
    record { free = rw (c.deref_mut.ensures.value, c.deref_mut-2.ensures.value) (free_of (rows_of c.args.present.now) c.args.work.now c.requires.room c.requires.clear) }
