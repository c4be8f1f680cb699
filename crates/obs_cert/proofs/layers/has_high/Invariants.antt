use Rattle.std.proofs.Common.{◌≡◌}
use Rattle.std.specs.List.{list_any}
use Rattle.obs_cert.specs.Claims.{Layer}
use Rattle.obs_cert.specs.Flaws.{not_below}
use Rattle.obs_cert.proofs.layers.has_high.Given as goal

abbrev pub invariant-loop-layer : goal.invariant-loop-layer
invariant-loop-layer l =
    list_any (λ (x : Layer). not_below x.rank x.outside l.need) l.fn.layers ≡ list_any (λ (x : Layer). not_below x.rank x.outside l.need) l.layer-iterator
