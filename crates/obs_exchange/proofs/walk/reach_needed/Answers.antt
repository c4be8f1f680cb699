use Rattle.std.proofs.Common.{ap, arith}
use Rattle.std.specs.Prelude.{is_some}
use Rattle.obs_exchange.proofs.Upward.{Meeting-left, Meeting-right, Meeting-start, left_needed, left_up, met_walked, right_needed}
use Rattle.obs_exchange.proofs.Walking.{touched_there}
use Rattle.obs_exchange.proofs.walk.reach_needed.Goals as goal

pub ends-ends-requires : goal.ends-ends-requires
ends-ends-requires c = record { present = touched_there c.args.over.now.graph.ends c.args.over.now.touches c.args.by.meter c.args.by.branch c.requires.touched }

pub loop-u-init : goal.loop-u-init
loop-u-init c = let r = c.requires in let p = c.top_of-u in let q = c.top_of-v in
    Meeting-start c.args.over.now c.args.trail.now c.args.by.meter c.args.by.branch c.args.tops.now p.new.tops q.new.tops p.result q.result c.ends-ends.result
    r.visiting r.classes c.ends-ends.ensures.ends p.ensures.tops p.ensures.same p.ensures.low p.ensures.top p.ensures.rises
    q.ensures.tops q.ensures.same q.ensures.low q.ensures.top q.ensures.rises

pub meet-v-requires-clause-needed : goal.meet-v-requires-clause-needed
meet-v-requires-clause-needed c = let r = c.requires in let l = c.loop-u in let i = l.invariant in let u = c.ends-ends in
    right_needed c.args.over.now i.visiting.searching.sound c.args.by.branch u.result u.ensures.ends r.joined l.trail.marks l.tops i.classes
    l.u l.v (i.left u.result u.ensures.ends) (i.right u.result u.ensures.ends) i.left_low i.right_low c.loop-u-test.true (omega (arith, c.if-depth.true, c.depth.ensures.depth, c.depth-in-loop-u.ensures.depth)) i.right_top

pub loop-u-preserved-then-depth : goal.loop-u-preserved-then-depth
loop-u-preserved-then-depth c = let l = c.loop-u in let n = c.meet-v.new in let k = c.meet-v.ensures in
    Meeting-right c.args.over.now c.args.trail.now l.trail c.args.by.meter c.args.by.branch l.tops l.u l.v l.invariant c.loop-u-test.true
    n.trail n.tops c.meet-v.result k.visiting k.classes k.stays k.low k.top k.met k.rises

pub meet-u-requires-clause-up : goal.meet-u-requires-clause-up
meet-u-requires-clause-up c = let r = c.requires in let l = c.loop-u in let i = l.invariant in let u = c.ends-ends in
    ap is_some (left_up c.args.over.now i.visiting.searching.sound c.args.by.branch u.result u.ensures.ends r.joined l.trail.marks l.tops i.classes
    l.u l.v (i.left u.result u.ensures.ends) (i.right u.result u.ensures.ends) i.left_low i.right_low c.loop-u-test.true (omega (arith, c.if-depth.false, c.depth.ensures.depth, c.depth-in-loop-u.ensures.depth))).1

pub meet-u-requires-clause-needed : goal.meet-u-requires-clause-needed
meet-u-requires-clause-needed c = let r = c.requires in let l = c.loop-u in let i = l.invariant in let u = c.ends-ends in
    left_needed c.args.over.now i.visiting.searching.sound c.args.by.branch u.result u.ensures.ends r.joined l.trail.marks l.tops i.classes
    l.u l.v (i.left u.result u.ensures.ends) (i.right u.result u.ensures.ends) i.left_low i.right_low c.loop-u-test.true (omega (arith, c.if-depth.false, c.depth.ensures.depth, c.depth-in-loop-u.ensures.depth)) i.left_top

pub loop-u-preserved : goal.loop-u-preserved
loop-u-preserved c = let l = c.loop-u in let n = c.meet-u.new in let k = c.meet-u.ensures in
    Meeting-left c.args.over.now c.args.trail.now l.trail c.args.by.meter c.args.by.branch l.tops l.u l.v l.invariant c.loop-u-test.true
    n.trail n.tops c.meet-u.result k.visiting k.classes k.stays k.low k.top k.met k.rises

pub returns-clause-reached : goal.returns-clause-reached
returns-clause-reached c = let r = c.requires in let l = c.loop-u in let i = l.invariant in let u = c.ends-ends in
    met_walked c.args.over.now i.visiting.searching.sound c.args.by.branch u.result u.ensures.ends r.joined l.trail.marks l.tops i.classes
    l.u l.v (i.left u.result u.ensures.ends) (i.right u.result u.ensures.ends) c.loop-u-test.false

pub meet-v-requires-clause-touched : goal.meet-v-requires-clause-touched
meet-v-requires-clause-touched c = c.requires.touched

pub meet-v-requires-clause-top : goal.meet-v-requires-clause-top
meet-v-requires-clause-top c = c.loop-u.invariant.right_low

pub meet-v-requires-clause-own : goal.meet-v-requires-clause-own
meet-v-requires-clause-own c = c.loop-u.invariant.right_top

pub meet-v-requires-clause-visiting : goal.meet-v-requires-clause-visiting
meet-v-requires-clause-visiting c = c.loop-u.invariant.visiting

pub meet-v-requires-clause-classes : goal.meet-v-requires-clause-classes
meet-v-requires-clause-classes c = c.loop-u.invariant.classes

pub meet-u-requires-clause-touched : goal.meet-u-requires-clause-touched
meet-u-requires-clause-touched c = c.requires.touched

pub meet-u-requires-clause-top : goal.meet-u-requires-clause-top
meet-u-requires-clause-top c = c.loop-u.invariant.left_low

pub meet-u-requires-clause-own : goal.meet-u-requires-clause-own
meet-u-requires-clause-own c = c.loop-u.invariant.left_top

pub meet-u-requires-clause-visiting : goal.meet-u-requires-clause-visiting
meet-u-requires-clause-visiting c = c.loop-u.invariant.visiting

pub meet-u-requires-clause-classes : goal.meet-u-requires-clause-classes
meet-u-requires-clause-classes c = c.loop-u.invariant.classes

pub returns-clause-visiting : goal.returns-clause-visiting
returns-clause-visiting c = c.loop-u.invariant.visiting

pub returns-clause-classes : goal.returns-clause-classes
returns-clause-classes c = c.loop-u.invariant.classes

pub returns-clause-stays : goal.returns-clause-stays
returns-clause-stays c = c.loop-u.invariant.stays
