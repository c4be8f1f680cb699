use Rattle.std.proofs.Common.{arith}
use Rattle.obs_exchange.proofs.Queued.{flag-set}
use Rattle.obs_exchange.proofs.Trails.{Stays-same, Stays-then, Stays-walk}
use Rattle.obs_exchange.proofs.Visiting.{IsVisiting-walk}
use Rattle.obs_exchange.proofs.Walking.{touched_low, touched_there}
use Rattle.obs_exchange.proofs.walk.walk.Goals as goal

pub is_walked-requires : goal.is_walked-requires
is_walked-requires c =
    let l = touched_low c.args.over.now.graph.ends c.args.over.now.touches c.args.by.meter c.args.by.branch c.requires.touched in
    record { e = omega (arith, l, c.requires.visiting.searching.walked_len) }

pub is_free-requires : goal.is_free-requires
is_free-requires c = record { present = touched_there c.args.over.now.graph.ends c.args.over.now.touches c.args.by.meter c.args.by.branch c.requires.touched }

pub set_walked-requires : goal.set_walked-requires
set_walked-requires c =
    let l = touched_low c.args.over.now.graph.ends c.args.over.now.touches c.args.by.meter c.args.by.branch c.requires.touched in
    record { e = omega (arith, l, c.reach_needed.ensures.visiting.searching.walked_len) }

pub returns-clause-visiting : goal.returns-clause-visiting
returns-clause-visiting c = let n = c.reach_needed in
    let l = touched_low c.args.over.now.graph.ends c.args.over.now.touches c.args.by.meter c.args.by.branch c.requires.touched in
    rw c.set_walked.ensures.walked
    (IsVisiting-walk c.args.over.now n.new.trail c.args.by.meter n.ensures.visiting c.args.by.branch (omega (arith, l, n.ensures.visiting.searching.walked_len)) n.ensures.reached)

pub returns-clause-free : goal.returns-clause-free
returns-clause-free c = let n = c.reach_needed in
    let l = touched_low c.args.over.now.graph.ends c.args.over.now.touches c.args.by.meter c.args.by.branch c.requires.touched in
    rw c.set_walked.ensures.walked (flag-set n.new.trail.walked c.args.by.branch (omega (arith, l, n.ensures.visiting.searching.walked_len)))

pub returns-clause-stays : goal.returns-clause-stays
returns-clause-stays c = let n = c.reach_needed in
    let l = touched_low c.args.over.now.graph.ends c.args.over.now.touches c.args.by.meter c.args.by.branch c.requires.touched in
    rw c.set_walked.ensures.walked
    (Stays-then c.args.trail.now n.new.trail _ n.ensures.stays (Stays-walk n.new.trail c.args.by.branch (omega (arith, l, n.ensures.visiting.searching.walked_len))))

pub reach_needed-requires-clause-touched : goal.reach_needed-requires-clause-touched
reach_needed-requires-clause-touched c = c.requires.touched

pub reach_needed-requires-clause-visiting : goal.reach_needed-requires-clause-visiting
reach_needed-requires-clause-visiting c = c.requires.visiting

pub reach_needed-requires-clause-classes : goal.reach_needed-requires-clause-classes
reach_needed-requires-clause-classes c = c.requires.classes

pub returns-clause-classes : goal.returns-clause-classes
returns-clause-classes c = rw c.set_walked.ensures.walked c.reach_needed.ensures.classes

pub returns-then-is_walked-clause-visiting : goal.returns-then-is_walked-clause-visiting
returns-then-is_walked-clause-visiting c = c.requires.visiting

pub returns-then-is_walked-clause-classes : goal.returns-then-is_walked-clause-classes
returns-then-is_walked-clause-classes c = c.requires.classes

pub returns-then-is_walked-clause-stays : goal.returns-then-is_walked-clause-stays
returns-then-is_walked-clause-stays c = Stays-same c.args.trail.now

pub returns-then-is_free-clause-visiting : goal.returns-then-is_free-clause-visiting
returns-then-is_free-clause-visiting c = c.requires.visiting

pub returns-then-is_free-clause-classes : goal.returns-then-is_free-clause-classes
returns-then-is_free-clause-classes c = c.requires.classes

pub returns-then-is_free-clause-stays : goal.returns-then-is_free-clause-stays
returns-then-is_free-clause-stays c = Stays-same c.args.trail.now
