use Rattle.std.proofs.Common.{◌≡◌}
use Rattle.obs_network.specs.Network.{case_branches}
use Rattle.obs_cert.specs.declared.contraction.Contraction.TheVariants.{Nothing}
use Rattle.obs_cert.specs.inner.Contractions.{contracted_ends}
use Rattle.obs_cert.specs.inner.Hubs.{AreHubs}
use Rattle.obs_cert.proofs.LayerLemmas.{IsRanking}
use Rattle.obs_cert.proofs.layers.join_layers.Given as goal

abbrev pub invariant-loop-layer : goal.invariant-loop-layer
invariant-loop-layer l =
    IsRanking l.present (contracted_ends Nothing (case_branches l.present)) l.layer-iterator l.fn.layers l.ups l.moved l.count l.wrong
    × AreHubs l.present Nothing l.hubs.list l.ups × (l.hubs.room ≡ l.fn.hubs.room)
