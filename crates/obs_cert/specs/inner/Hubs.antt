-- Which vertices have all their rows of the branch table joined, while a rank is taken.
use Rattle.std.specs.Prelude.{◌≡◌, ℕ, Option, None, Some, List, slice_index_or}
use Rattle.obs_case.specs.Tables.{Tables}
use Rattle.obs_graph.specs.declared.Ends.{Ends}
use Rattle.obs_graph.specs.Joined.{first_joined}
use Rattle.obs_graph.specs.Positions.{branches_at}
use Rattle.obs_matroid.specs.Lists.{In}
use Rattle.obs_network.specs.Network.{case_branches, case_rows}
use Rattle.obs_cert.specs.declared.contraction.Contraction.{Contraction}
use Rattle.obs_cert.specs.inner.Contractions.{contracted_ends}
use Rattle.obs_cert.specs.inner.Joins.{AreFirsts}

-- vertices, and how many there is room for
pub record Hubs : Type 0 where
  pub list : List ℕ
  pub room : ℕ

-- the branches es join the ends of each branch at these positions, where it is present
abbrev pub AreSpanned : List (Option Ends) → List ℕ → List Ends → Type 0
AreSpanned ends ps es =
    (p : ℕ) → In p ps → (e : Ends) → slice_index_or ends p None ≡ Some e → first_joined es e.a ≡ first_joined es e.b

-- the ways up join the rows at each of these vertices in the contracted graph
abbrev pub AreHubs : Tables → Contraction → List ℕ → List ℕ → Type 0
AreHubs t c hubs ups =
    (v : ℕ) → In v hubs → (es : List Ends) → AreFirsts es ups
    → AreSpanned (contracted_ends c (case_branches t)) (branches_at (case_rows t) v) es
