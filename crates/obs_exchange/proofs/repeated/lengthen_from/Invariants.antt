use Rattle.std.proofs.Common.{◌≡◌, ◌+◌, ◌-◌, ◌≤◌, length}
use Rattle.obs_assign.specs.inner.Assignment.{pairs}
use Rattle.obs_exchange.specs.declared.Sources.TheVariants.{All}
use Rattle.obs_exchange.specs.inner.Noting.{AreNoted}
use Rattle.obs_exchange.proofs.Lengthening.{IsLengthening}
use Rattle.obs_exchange.proofs.repeated.lengthen_from.Given as goal

abbrev pub invariant-loop-a : goal.invariant-loop-a
invariant-loop-a g l = IsLengthening l.g l.ms.touches l.fn.a l.a l.searches × (l.work.sizes ≡ l.fn.work.sizes) × (l.steps ≡ l.fn.steps + l.searches) × (l.searches ≤ l.most - length (pairs l.fn.a))
    × AreNoted l.g.ends l.ms.touches All l.a l.work.noted

abbrev pub decreases-loop-a : goal.decreases-loop-a
decreases-loop-a g l = l.most - length (pairs l.a)
