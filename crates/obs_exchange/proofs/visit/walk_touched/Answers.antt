use Rattle.obs_exchange.proofs.Trails.{Stays-same, Stays-then}
use Rattle.std.proofs.Common.{get_or, subst, arith}
use Rattle.obs_matroid.specs.Lists.{In}
use Rattle.obs_matroid.proofs.Contained.{In-get_or}
use Rattle.obs_exchange.proofs.Visiting.{Touching-end, Touching-more}
use Rattle.obs_exchange.proofs.visit.walk_touched.Goals as goal

pub walk-requires-clause-touched : goal.walk-requires-clause-touched
walk-requires-clause-touched c = subst (λ xs. In (get_or c.args.touched.now c.loop-e.e-index 0) xs) c.requires.touched (In-get_or c.args.touched.now c.loop-e.e-index 0 c.loop-e-test.true)

pub returns-then-walk-clause-walked : goal.returns-then-walk-clause-walked
returns-then-walk-clause-walked c = record {
  touched = subst (λ xs. In (get_or c.args.touched.now c.loop-e.e-index 0) xs) c.requires.touched (In-get_or c.args.touched.now c.loop-e.e-index 0 c.loop-e-test.true);
  apart = c.if-walk.ensures.free;
}

pub returns-clause-walked : goal.returns-clause-walked
returns-clause-walked c = let l = c.loop-e in
    Touching-end c.args.over.now c.args.trail.now l.trail c.args.m l.tops c.args.touched.now l.e-index l.invariant c.requires.touched c.loop-e-test.false

pub walk-requires-clause-visiting : goal.walk-requires-clause-visiting
walk-requires-clause-visiting c = c.loop-e.invariant.visiting

pub walk-requires-clause-classes : goal.walk-requires-clause-classes
walk-requires-clause-classes c = c.loop-e.invariant.classes

pub returns-then-walk-clause-visiting : goal.returns-then-walk-clause-visiting
returns-then-walk-clause-visiting c = c.if-walk.ensures.visiting

pub returns-then-walk-clause-classes : goal.returns-then-walk-clause-classes
returns-then-walk-clause-classes c = c.if-walk.ensures.classes

pub returns-then-walk-clause-stays : goal.returns-then-walk-clause-stays
returns-then-walk-clause-stays c = Stays-then c.args.trail.now c.loop-e.trail c.walk.new.trail c.loop-e.invariant.stays c.if-walk.ensures.stays

pub returns-clause-visiting : goal.returns-clause-visiting
returns-clause-visiting c = c.loop-e.invariant.visiting

pub returns-clause-classes : goal.returns-clause-classes
returns-clause-classes c = c.loop-e.invariant.classes

pub returns-clause-stays : goal.returns-clause-stays
returns-clause-stays c = c.loop-e.invariant.stays

pub loop-e-init : goal.loop-e-init
loop-e-init c = record { visiting = c.requires.visiting; classes = c.requires.classes; done = λ i l. absurd (omega (arith, l)); stays = Stays-same c.args.trail.now }

pub loop-e-preserved : goal.loop-e-preserved
loop-e-preserved c = let w = c.if-walk.ensures in
    Touching-more c.args.over.now c.args.trail.now c.loop-e.trail c.args.m c.loop-e.tops c.args.touched.now c.loop-e.e-index c.loop-e.invariant c.walk.new.trail c.walk.new.tops w.visiting w.classes w.stays w.free
