-- The ranks of the rows of the branch table at single vertices, as they are kept from the first time that they are measured.
use Rattle.std.specs.Prelude.{◌≡◌, ℕ, suc, ◌<◌, List, length, slice_index_or}
use Rattle.obs_case.specs.Tables.{Tables}
use Rattle.obs_graph.specs.Positions.{branches_at}
use Rattle.obs_network.specs.Network.{case_offered, case_rows, case_vertex_count}
use Rattle.obs_cert.specs.declared.stars.Injection.{Injection}
use Rattle.obs_cert.specs.Flaws.{rank_of_branches}
use Rattle.obs_cert.specs.Scopes.{item_touches}

-- the rank of the rows at a vertex
abbrev pub star_rank : Tables → ℕ → ℕ
star_rank t v = rank_of_branches t (branches_at (case_rows t) v)

-- a number that isn't 0 is one more than the rank at its vertex
abbrev pub AreStarRanks : Tables → List ℕ → Type 0
AreStarRanks t stars = (v : ℕ) → 0 < slice_index_or stars v 0 → slice_index_or stars v 0 ≡ suc (star_rank t v)

-- an item that touches the rows at a bus
pub record IsInjection (t : Tables) (i : Injection) : Type 0 where
  pub item : i.item < length (case_offered t)
  pub bus : i.bus < case_vertex_count t
  pub rows : item_touches t i.item ≡ branches_at (case_rows t) i.bus
