-- The pairs that the outage of a row takes where a side of it has no source: those whose branch has an end on that side.
use Rattle.std.specs.Prelude.{◌≡◌, ℕ, ◌==◌, ◌&&◌, ◌||◌, Bool, false, is_some, Option, Some, None, List, slice_index_or}
use Rattle.obs_graph.specs.declared.Ends.{Ends}
use Rattle.obs_case.specs.Tables.{Tables}
use Rattle.obs_matroid.specs.Lists.{In}
use Rattle.obs_meter.specs.declared.Hub.{Hub}
use Rattle.obs_meter.specs.declared.Touch.TheVariants.{Nothing}
use Rattle.obs_meter.specs.inner.Touches.{hub_of}
use Rattle.obs_assign.specs.Assignment.{Assignment}
use Rattle.obs_assign.specs.inner.Assignment.{branch_at}
use Rattle.obs_network.specs.Network.{Network}
use Rattle.obs_network.specs.inner.Parted.{HasSource, IsParted}

-- whether a bus is the first end of a branch
abbrev pub has_first : ℕ → Option Ends → Bool
has_first v None = false
has_first v (Some x) = x.a == v

-- whether a branch counts at a bus: it is held, and the bus is its first end, or it is the row that parts the buses
abbrev pub counts_at : List (Option Ends) → List (Option Ends) → ℕ → ℕ → ℕ → Bool
counts_at ends held e v k = is_some (slice_index_or held k None) && ((k == e) || has_first v (slice_index_or ends k None))

-- where a meter has the row, it touches no other branch or those at a bus of the side
abbrev pub IsConfined : Network → Assignment → ℕ → List ℕ → Type 0
IsConfined n a e side = (m : ℕ) (h : Hub) → branch_at a m ≡ Some e → hub_of n.graph.ends (slice_index_or n.meters.touches m Nothing) ≡ Some h → In h.vertex side

-- a row parts its component, which isn't absolute, and the listed side has no source
abbrev pub IsUnfed : Tables → ℕ → List ℕ → Type 0
IsUnfed t e side = (c : ℕ) × IsParted t e c side × (HasSource t side → ⊥)
