use Rattle.std.proofs.Common.{refl, ◌∙◌, arith}
use Rattle.obs_exchange.proofs.find.free_move.Goals as goal
use Rattle.obs_exchange.proofs.find.free_move.Goals.{then-is_source+in_default, else-is_source}

pub next-m-requires : goal.next-m-requires
next-m-requires c = record { limit = omega (arith, c.end-limit.ensures.low, c.requires.noted.room) }

pub loop-m-init : goal.loop-m-init
loop-m-init c = record { first = c.next-m.ensures.first; same = refl }

pub is_source-requires : goal.is_source-requires
is_source-requires c = record { first = omega (arith, c.requires.first, c.loop-m.invariant.first); end = omega (arith, c.loop-m-test.true, c.end-limit.ensures.end) }

pub untried_branch-requires : goal.untried_branch-requires
untried_branch-requires c = record { m = omega (arith, c.loop-m-test.true, c.end-limit.ensures.low); room = rw c.loop-m.invariant.same c.requires.room }

pub loop-m-smaller : goal.loop-m-smaller
loop-m-smaller c = omega (arith, c.next-m-in-loop-m.ensures.first, c.loop-m-test.true)

pub loop-m-preserved : goal.loop-m-preserved
loop-m-preserved c = record {
  first = omega (arith, c.loop-m.invariant.first, c.next-m-in-loop-m.ensures.first);
  same = elim c.if-is_source.branch [
    | then-is_source+in_default w ↦ w.stars-is ∙ w.untried_branch.ensures.same ∙ c.loop-m.invariant.same
    | else-is_source w ↦ w.stars-is ∙ c.loop-m.invariant.same
  ];
}

pub returns : goal.returns
returns c = record { free = tt; same = c.loop-m.invariant.same }
