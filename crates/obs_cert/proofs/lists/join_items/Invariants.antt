use Rattle.std.proofs.Common.{◌≡◌}
use Rattle.std.specs.List.{flat_map}
use Rattle.obs_network.specs.Network.{case_branches}
use Rattle.obs_cert.specs.inner.Contractions.{contracted_ends}
use Rattle.obs_cert.specs.inner.Hubs.{AreHubs}
use Rattle.obs_cert.specs.Numbered.{items_of}
use Rattle.obs_cert.specs.Scopes.{item_touches}
use Rattle.obs_cert.proofs.JoinLemmas.{IsJoining}
use Rattle.obs_cert.proofs.lists.join_items.Given as goal

abbrev pub invariant-loop-item : goal.invariant-loop-item
invariant-loop-item l =
    IsJoining (contracted_ends l.contraction (case_branches l.present)) (flat_map (item_touches l.present) (items_of l.present l.item-iterator)) (flat_map (item_touches l.present) (items_of l.present l.fn.items)) l.fn.ups l.fn.moved l.fn.count l.ups l.moved l.count
    × AreHubs l.present l.contraction l.hubs.list l.ups × (l.hubs.room ≡ l.fn.hubs.room)
