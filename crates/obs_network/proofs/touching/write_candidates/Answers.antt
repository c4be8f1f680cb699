use Rattle.std.proofs.Common.{get_or, ap, ◌∙◌, ◌+◌, take, arith}
use Rattle.obs_network.proofs.Fronts.{candidates_written, written_more}
use Rattle.std.proofs.lemmas.List.{get_or_default}
use Rattle.obs_network.specs.Touching.{candidate_touch}
use Rattle.obs_network.proofs.touching.write_candidates.Goals as goal

pub returns : goal.returns
returns c = record {
  touches = candidates_written (take c.args.rows c.args.graph.now.ends) c.args.buses.now.buses c.args.first c.args.candidates.now c.loop-i.touches (omega arith) (λ k d l. c.loop-i.invariant d k (omega (arith, l)));
}

pub loop-i-preserved : goal.loop-i-preserved
loop-i-preserved c = λ d.
    let l = c.loop-i in
    let low = c.loop-i-test.true in
    written_more (λ k. candidate_touch (take c.args.rows c.args.graph.now.ends) c.args.buses.now.buses (c.args.first + k) (get_or c.args.candidates.now k d)) l.touches l.i c.touch_of.result (omega (arith, low, l.auto.touches, c.requires.room))
    (c.touch_of.ensures.touch ∙ ap (λ row. candidate_touch (take c.args.rows c.args.graph.now.ends) c.args.buses.now.buses (c.args.first + l.i) row) (c.index-candidates-i.is ∙ get_or_default c.args.candidates.now l.i c.index-candidates-i.result d low)) (l.invariant d)
