use Rattle.std.proofs.Common.{◌≡◌}
use Rattle.obs_cert.specs.Flaws.{runs_on}
use Rattle.obs_cert.proofs.layers.run_on.Given as goal

abbrev pub invariant-loop-layer : goal.invariant-loop-layer
invariant-loop-layer l = runs_on 0 l.fn.layers ≡ runs_on l.from l.layer-iterator
