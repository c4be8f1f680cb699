use Rattle.std.proofs.Common.{ℕ, List, sym, subst, arith}
use Rattle.obs_graph.specs.inner.Search.{IsRooted}
use Rattle.obs_forest.specs.inner.Forest.{taken}
use Rattle.obs_assign.specs.inner.Kept.{IsListed}
use Rattle.obs_assign.proofs.Listed.{IsListed-all}
use Rattle.obs_assign.proofs.Slotted.{branch_low, slots_apart}
use Rattle.obs_assign.proofs.hold.hold_pairs.Goals as goal

pub list_pairs-count-requires-clause-low : goal.list_pairs-count-requires-clause-low
list_pairs-count-requires-clause-low c = λ m e h. let l = branch_low c.args.g.now.ends c.args.slots.now c.requires.forest m e h in omega (arith, l, c.requires.owners)

pub list_pairs-count-requires-clause-apart : goal.list_pairs-count-requires-clause-apart
list_pairs-count-requires-clause-apart c = slots_apart c.args.g.now.ends c.args.slots.now c.requires.forest

pub returns-clause-listed : goal.returns-clause-listed
returns-clause-listed c =
    let slots = c.args.slots.now in
    subst (λ (l : List ℕ). IsListed slots l) (sym c.list_pairs-count.ensures.list) (IsListed-all c.args.g.now.ends slots c.requires.forest)

pub refill_found-requires-clause-rooted : goal.refill_found-requires-clause-rooted
refill_found-requires-clause-rooted c =
    subst (λ (l : List ℕ). IsRooted c.args.g.now.vertices (taken c.args.g.now.ends l) c.args.found.now) (sym c.list_pairs-count.ensures.list) c.requires.rooted
