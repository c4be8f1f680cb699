use Rattle.obs_exchange.proofs.Upward.{AreTops-above, above, above_classes, above_lower, above_met, above_rises}
use Rattle.obs_exchange.proofs.walk.meet.Goals as goal

pub reach_owner-requires-clause-e : goal.reach_owner-requires-clause-e
reach_owner-requires-clause-e c = let r = c.requires in
    (above c.args.over.now r.visiting.searching.sound c.args.top c.up-up.result r.top c.up-up.ensures.up).1

pub top_of-requires-clause-v : goal.top_of-requires-clause-v
top_of-requires-clause-v c = let r = c.requires in
    (above c.args.over.now r.visiting.searching.sound c.args.top c.up-up.result r.top c.up-up.ensures.up).0

pub top_of-requires-clause-tops : goal.top_of-requires-clause-tops
top_of-requires-clause-tops c = let r = c.requires in
    rw c.lead.ensures.led
    (AreTops-above c.args.over.now r.visiting.searching.sound c.args.trail.now.marks c.args.tops.now r.classes c.args.top r.top r.own c.up-up.result c.up-up.ensures.up)

pub returns-clause-met : goal.returns-clause-met
returns-clause-met c = let r = c.requires in let t = c.top_of.ensures in
    above_met c.args.over.now r.visiting.searching.sound c.args.trail.now.marks c.args.tops.now r.classes c.args.top r.top r.own c.up-up.result c.up-up.ensures.up
    c.top_of.new.tops c.top_of.result t.tops (rw c.lead.ensures.led at t.same) t.rises

pub returns-clause-rises : goal.returns-clause-rises
returns-clause-rises c = let r = c.requires in let t = c.top_of.ensures in
    above_rises c.args.over.now r.visiting.searching.sound c.args.trail.now.marks c.args.tops.now r.classes c.args.top r.top r.own c.up-up.result c.up-up.ensures.up
    c.top_of.new.tops c.top_of.result t.tops (rw c.lead.ensures.led at t.same) t.rises

pub returns-clause-lower : goal.returns-clause-lower
returns-clause-lower c = let r = c.requires in let t = c.top_of.ensures in
    above_lower c.args.over.now r.visiting.searching.sound c.args.trail.now.marks c.args.tops.now r.classes c.args.top r.top r.own c.up-up.result c.up-up.ensures.up
    c.top_of.new.tops c.top_of.result t.tops (rw c.lead.ensures.led at t.same) t.rises

pub returns-clause-classes : goal.returns-clause-classes
returns-clause-classes c = let r = c.requires in let t = c.top_of.ensures in let o = c.reach_owner in
    above_classes c.args.over.now r.visiting.searching.sound c.args.trail.now.marks c.args.tops.now r.classes c.args.top r.top r.own c.up-up.result c.up-up.ensures.up
    c.top_of.new.tops c.top_of.result t.tops (rw c.lead.ensures.led at t.same) t.rises o.new.trail.marks o.ensures.stays.follows.marks o.ensures.reached
