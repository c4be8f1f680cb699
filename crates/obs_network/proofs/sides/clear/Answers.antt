use Rattle.std.proofs.Common.{◌≡◌, ℕ, None, subst, arith}
use Rattle.obs_network.specs.inner.Sides.{label_at}
use Rattle.obs_network.proofs.FoundSides.{place_in}
use Rattle.obs_network.proofs.sides.clear.Goals as goal

pub returns-clause-cleared : goal.returns-clause-cleared
returns-clause-cleared c v i =
    let p = place_in c.args.reached.now v i in
    subst (λ (u : ℕ). label_at c.loop-v.labels u ≡ None) p.2 (c.loop-v.invariant.off p.0 (omega (arith, p.1)))
