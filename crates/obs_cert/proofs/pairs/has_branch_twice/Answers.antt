use Rattle.std.proofs.Common.{[], ◌∷◌, List, arith, sym, ◌∙◌, subst}
use Rattle.obs_matroid.specs.Assignments.{branches}
use Rattle.obs_cert.specs.Claims.{Pair}
use Rattle.obs_cert.specs.Numbered.{pairs_of}
use Rattle.obs_cert.proofs.MarkLemmas.{Seeing, seeing_again, seeing_new, seeing_none, seen_twice}
use Rattle.obs_cert.proofs.pairs.has_branch_twice.Goals as goal
use Rattle.obs_cert.proofs.pairs.has_branch_twice.Goals.{After-mark, In-None}

pub loop-pair-init : goal.loop-pair-init
loop-pair-init c = rw c.into_iter-pair-iterator.ensures.into_iter_gives (seeing_none (branches (pairs_of c.args.case.now c.args.pairs)) c.args.stamp c.args.marks.now c.requires.fresh)

here : (c : After-mark) → Seeing (branches (pairs_of c.args.case.now c.args.pairs)) (c.branch_of.result ∷ branches (pairs_of c.args.case.now c.next.new.self)) c.loop-pair.twice c.args.stamp c.loop-pair.marks
here c =
    rw c.branch_of.ensures.position
    (subst (λ (is : List Pair). Seeing (branches (pairs_of c.args.case.now c.args.pairs)) (branches (pairs_of c.args.case.now is)) c.loop-pair.twice c.args.stamp c.loop-pair.marks) c.in-Some.ensures.steps c.loop-pair.invariant)

pub loop-pair-preserved : goal.loop-pair-preserved
loop-pair-preserved c =
    rw c.mark.ensures.marks
    (seeing_new (branches (pairs_of c.args.case.now c.args.pairs)) c.branch_of.result (branches (pairs_of c.args.case.now c.next.new.self)) c.loop-pair.twice c.args.stamp c.loop-pair.marks
    (here (goal.at.loop-pair-preserved c).After-mark) (omega (arith, c.branch_of.ensures.below, c.requires.room, c.loop-pair.auto.marks)) (sym c.mark.ensures.before ∙ c.if-mark.false))

pub mark-requires : goal.mark-requires
mark-requires c = record { x = omega (arith, c.branch_of.ensures.below, c.requires.room, c.loop-pair.auto.marks) }

pub loop-pair-preserved-then-mark : goal.loop-pair-preserved-then-mark
loop-pair-preserved-then-mark c =
    rw c.mark.ensures.marks
    (seeing_again (branches (pairs_of c.args.case.now c.args.pairs)) c.branch_of.result (branches (pairs_of c.args.case.now c.next.new.self)) c.loop-pair.twice c.args.stamp c.loop-pair.marks
    (here (goal.at.loop-pair-preserved-then-mark c).After-mark) (omega (arith, c.branch_of.ensures.below, c.requires.room, c.loop-pair.auto.marks)) (sym c.mark.ensures.before ∙ c.if-mark.true))

all_seen : (c : In-None) → Seeing (branches (pairs_of c.args.case.now c.args.pairs)) [] c.loop-pair.twice c.args.stamp c.loop-pair.marks
all_seen c =
    subst (λ (is : List Pair). Seeing (branches (pairs_of c.args.case.now c.args.pairs)) (branches (pairs_of c.args.case.now is)) c.loop-pair.twice c.args.stamp c.loop-pair.marks) c.in-None.ensures.steps c.loop-pair.invariant

pub returns-clause-twice : goal.returns-clause-twice
returns-clause-twice c = seen_twice (branches (pairs_of c.args.case.now c.args.pairs)) c.loop-pair.twice c.args.stamp c.loop-pair.marks (all_seen c)

pub returns-clause-below : goal.returns-clause-below
returns-clause-below c = c.loop-pair.invariant.below
