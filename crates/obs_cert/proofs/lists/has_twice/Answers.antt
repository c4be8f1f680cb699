use Rattle.std.proofs.Common.{[], ◌∷◌, List, arith, sym, ◌∙◌, subst}
use Rattle.obs_cert.specs.Claims.{Item}
use Rattle.obs_cert.specs.Numbered.{items_of}
use Rattle.obs_cert.proofs.MarkLemmas.{Seeing, seeing_again, seeing_new, seeing_none, seen_marked, seen_twice}
use Rattle.obs_cert.proofs.lists.has_twice.Goals as goal
use Rattle.obs_cert.proofs.lists.has_twice.Goals.{After-mark, In-None}

pub loop-item-init : goal.loop-item-init
loop-item-init c = rw c.into_iter-item-iterator.ensures.into_iter_gives (seeing_none (items_of c.args.case.now c.args.items) c.args.stamp c.args.marks.now c.requires.fresh)

here : (c : After-mark) → Seeing (items_of c.args.case.now c.args.items) (c.item_of.result ∷ items_of c.args.case.now c.next.new.self) c.loop-item.twice c.args.stamp c.loop-item.marks
here c =
    rw c.item_of.ensures.number
    (subst (λ (is : List Item). Seeing (items_of c.args.case.now c.args.items) (items_of c.args.case.now is) c.loop-item.twice c.args.stamp c.loop-item.marks) c.in-Some.ensures.steps c.loop-item.invariant)

pub loop-item-preserved : goal.loop-item-preserved
loop-item-preserved c =
    rw c.mark.ensures.marks
    (seeing_new (items_of c.args.case.now c.args.items) c.item_of.result (items_of c.args.case.now c.next.new.self) c.loop-item.twice c.args.stamp c.loop-item.marks
    (here (goal.at.loop-item-preserved c).After-mark) (omega (arith, c.item_of.ensures.below, c.requires.room, c.loop-item.auto.marks)) (sym c.mark.ensures.before ∙ c.if-mark.false))

pub mark-requires : goal.mark-requires
mark-requires c = record { x = omega (arith, c.item_of.ensures.below, c.requires.room, c.loop-item.auto.marks) }

pub loop-item-preserved-then-mark : goal.loop-item-preserved-then-mark
loop-item-preserved-then-mark c =
    rw c.mark.ensures.marks
    (seeing_again (items_of c.args.case.now c.args.items) c.item_of.result (items_of c.args.case.now c.next.new.self) c.loop-item.twice c.args.stamp c.loop-item.marks
    (here (goal.at.loop-item-preserved-then-mark c).After-mark) (omega (arith, c.item_of.ensures.below, c.requires.room, c.loop-item.auto.marks)) (sym c.mark.ensures.before ∙ c.if-mark.true))

all_seen : (c : In-None) → Seeing (items_of c.args.case.now c.args.items) [] c.loop-item.twice c.args.stamp c.loop-item.marks
all_seen c =
    subst (λ (is : List Item). Seeing (items_of c.args.case.now c.args.items) (items_of c.args.case.now is) c.loop-item.twice c.args.stamp c.loop-item.marks) c.in-None.ensures.steps c.loop-item.invariant

pub returns-clause-twice : goal.returns-clause-twice
returns-clause-twice c = seen_twice (items_of c.args.case.now c.args.items) c.loop-item.twice c.args.stamp c.loop-item.marks (all_seen c)

pub returns-clause-marked : goal.returns-clause-marked
returns-clause-marked c = seen_marked (items_of c.args.case.now c.args.items) c.loop-item.twice c.args.stamp c.loop-item.marks (all_seen c)

pub returns-clause-below : goal.returns-clause-below
returns-clause-below c = c.loop-item.invariant.below
