-- Between which two vertices the rows of the branch table lead, by numbers that are sorted, so that it is soon told whether one leads from here to there.
use Rattle.std.specs.Prelude.{ℕ, ◌+◌, ◌*◌, ◌^◌, min, max, Option, Some, None, List, length, map, slice_index_or}
use Rattle.std.specs.List.{range_with_len}
use Rattle.std.specs.List.Sorted.{IsNonDecreasing, IsPermutation}
use Rattle.obs_case.specs.Tables.{Tables}
use Rattle.obs_graph.specs.declared.Ends.{Ends}
use Rattle.obs_network.specs.Network.{case_branches}

-- the number of two vertices, in either order
abbrev pub link : ℕ → ℕ → ℕ
link u v = min u v * 2 ^ 32 + max u v

-- that of a branch's ends; of an absent one that of the first vertex and itself, between which no branch leads
abbrev pub link_of : Option Ends → ℕ
link_of None = 0
link_of (Some e) = link e.a e.b

-- that of a row
abbrev pub link_at : Tables → ℕ → ℕ
link_at t p = link_of (slice_index_or (case_branches t) p None)

abbrev pub links_of : Tables → List ℕ
links_of t = map (link_at t) (range_with_len 0 (length t.branches))

-- the numbers of all rows, rising
pub record AreLinks (t : Tables) (links : List ℕ) : Type 0 where
  pub all : IsPermutation (links_of t) links
  pub rising : IsNonDecreasing links
