use Rattle.obs_cert.proofs.OutsideLemmas.{IsMeasuring}
use Rattle.obs_cert.proofs.layers.has_wrong_outside.Given as goal

abbrev pub invariant-loop-layer : goal.invariant-loop-layer
invariant-loop-layer l = IsMeasuring l.case l.layer-iterator l.fn.layers l.listed
