-- How many sources feed the buses and the components of a case, and what the outage of a row takes that parts a component.
use Rattle.std.specs.Prelude.{◌≡◌, ◌≢◌, ◌+◌, ◌<◌, ◌≤◌, ◌==◌, ℕ, List, length, slice_index, count_by}
use Rattle.obs_case.specs.Tables.{Tables}
use Rattle.obs_matroid.specs.Lists.{In}
use Rattle.obs_meter.specs.Touches.{touch_at}
use Rattle.obs_network.specs.Switched.{case_buses}
use Rattle.obs_network.specs.inner.Components.{source_nodes}
use Rattle.obs_network.specs.Network.{case_branches, case_meters, case_needed, node_component}
use Rattle.obs_network.specs.Observable.{case_rank}
use Rattle.obs_network.specs.Parted.{outage_case}

-- how many sources have a place, where each node has one
abbrev pub sources_at : (ℕ → ℕ) → List ℕ → ℕ → ℕ
sources_at place sources at = count_by (λ u. place u == at) sources

-- the bus of a node
abbrev pub bus_at : Tables → ℕ → ℕ
bus_at t u = slice_index (case_buses t) u

-- how many sources each bus and each component has
pub record Feeds : Type 0 where
  pub of_buses : List ℕ
  pub of_components : List ℕ

-- there is room for one of each for so many nodes
pub record HasFeedRoom (nodes : ℕ) (f : Feeds) : Type 0 where
  pub buses : length f.of_buses ≡ nodes
  pub components : length f.of_components ≡ nodes

-- these are the numbers of sources of a case, by bus and by component; there is room for one of each for each node
pub record AreFeeds (t : Tables) (f : Feeds) : Type 0 where
  pub room : HasFeedRoom (length t.nodes) f
  pub at_buses : (b : ℕ) → b < length t.nodes → slice_index f.of_buses b ≡ sources_at (bus_at t) (source_nodes t.nodes) b
  pub at_components : (c : ℕ) → c < length t.nodes → slice_index f.of_components c ≡ sources_at (node_component t) (source_nodes t.nodes) c

-- an outage takes no branch from a meter but its own
abbrev pub TakesAlone : Tables → ℕ → Type 0
TakesAlone t e = (m k : ℕ) → k ≢ e → In k (touch_at (case_branches t) (case_meters t) m) → In k (touch_at (case_branches (outage_case t e)) (case_meters (outage_case t e)) m)

-- by so much the needed number falls without a branch, and the rank by no more; where it is one, no other branch goes
pub record IsFall (t : Tables) (e k : ℕ) : Type 0 where
  pub needed : case_needed (outage_case t e) + k ≡ case_needed t
  pub rank : case_rank t ≤ case_rank (outage_case t e) + k
  pub alone : k ≡ 1 → TakesAlone t e
