use Rattle.std.proofs.Common.{get_or, take, ap, ◌∙◌, arith}
use Rattle.std.proofs.lemmas.List.{get_or_default}
use Rattle.obs_network.specs.Touching.{meter_touch}
use Rattle.obs_network.proofs.Fronts.{meters_written, written_more}
use Rattle.obs_network.proofs.touching.write_meters.Goals as goal

pub returns : goal.returns
returns c = record {
  touches = meters_written (take c.args.rows c.args.graph.now.ends) c.args.buses.now.buses c.args.meters.now c.loop-i.touches (omega arith) (λ k d l. c.loop-i.invariant d k (omega (arith, l)));
}

pub touch_of_meter-requires-clause-node : goal.touch_of_meter-requires-clause-node
touch_of_meter-requires-clause-node c =
    rw c.index-meters-i.is (c.requires.places c.loop-i.i c.index-meters-i.result c.loop-i-test.true)

pub loop-i-preserved : goal.loop-i-preserved
loop-i-preserved c = λ d.
    let l = c.loop-i in
    let low = c.loop-i-test.true in
    written_more (λ k. meter_touch (take c.args.rows c.args.graph.now.ends) c.args.buses.now.buses k (get_or c.args.meters.now k d)) l.touches l.i c.touch_of_meter.result (omega (arith, low, l.auto.touches, c.requires.room))
    (c.touch_of_meter.ensures.touch ∙ ap (λ row. meter_touch (take c.args.rows c.args.graph.now.ends) c.args.buses.now.buses l.i row) (c.index-meters-i.is ∙ get_or_default c.args.meters.now l.i c.index-meters-i.result d low)) (l.invariant d)
