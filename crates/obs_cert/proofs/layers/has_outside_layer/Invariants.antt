use Rattle.obs_cert.proofs.LayerLemmas.{IsLooking}
use Rattle.obs_cert.proofs.layers.has_outside_layer.Given as goal

abbrev pub invariant-loop-layer : goal.invariant-loop-layer
invariant-loop-layer l = IsLooking l.present l.layer-iterator l.fn.layers l.seen
