-- A graph in which the rows of the branch table at one vertex are contracted: all vertices that they join with it became that vertex.
use Rattle.std.specs.Prelude.{ℕ, ◌≡◌, ◌<◌, Option, List, ⊤, flat_map, if◌then◌else◌, map}
use Rattle.std.specs.Option.{option_map}
use Rattle.std.specs.List.Sorted.{IsNonDecreasing}
use Rattle.obs_case.specs.Tables.{Tables}
use Rattle.obs_graph.specs.declared.Ends.{Ends}
use Rattle.obs_graph.specs.inner.Joined.{renamed_one}
use Rattle.obs_meter.specs.Lost.{is_listed}
use Rattle.obs_meter.specs.Spanned.{rank_at}
use Rattle.obs_network.specs.Network.{case_branches, case_vertex_count}
use Rattle.obs_cert.specs.declared.contraction.Contraction as program
use Rattle.obs_cert.specs.declared.contraction.Contraction.TheVariants.{Nothing, Star}
use Rattle.obs_cert.specs.inner.Links.{AreLinks, link}
use Rattle.obs_cert.specs.Scopes.{item_touches}

-- the vertex that another one becomes where those that are linked with v become v
abbrev pub becomes : ℕ → List ℕ → ℕ → ℕ
becomes v links u = if is_listed links (link v u) then v else u

-- the vertex that another one became
abbrev pub contracted : program.Contraction → ℕ → ℕ
contracted Nothing u = u
contracted (Star v links) u = becomes v links.now u

-- the branches, where each end is the vertex that it became
abbrev pub renamed_ends : (ℕ → ℕ) → List (Option Ends) → List (Option Ends)
renamed_ends h ends = map (option_map (renamed_one h)) ends

abbrev pub contracted_ends : program.Contraction → List (Option Ends) → List (Option Ends)
contracted_ends c ends = renamed_ends (contracted c) ends

-- the contracted vertex is one of so many, and the numbers of the rows rise
abbrev pub FitsIn : ℕ → program.Contraction → Type 0
FitsIn n Nothing = ⊤
FitsIn n (Star v links) = (v < n) × IsNonDecreasing links.now

-- the rows are those of the case
abbrev pub IsContraction : Tables → program.Contraction → Type 0
IsContraction t Nothing = ⊤
IsContraction t (Star v links) = (v < case_vertex_count t) × AreLinks t links.now

-- whether this is the vertex whose rows are contracted
abbrev pub IsContracted : program.Contraction → ℕ → Type 0
IsContracted Nothing u = ⊥
IsContracted (Star v links) u = u ≡ v

-- the rank of the branches that some items touch in the contracted graph
abbrev pub contracted_rank : Tables → program.Contraction → List ℕ → ℕ
contracted_rank t c list = rank_at (case_vertex_count t) (contracted_ends c (case_branches t)) (flat_map (item_touches t) list)
