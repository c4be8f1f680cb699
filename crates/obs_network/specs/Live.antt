-- The live branches of a case. `buses` has the bus of each node.
use Rattle.std.specs.Prelude.{ℕ, ◌==◌, ◌&&◌, Bool, not, if◌then◌else◌, Option, Some, None, List, map, slice_index}
use Rattle.obs_graph.specs.declared.Ends.{Ends}
use Rattle.obs_case.specs.declared.rows.Branch.{Branch}

-- whether a branch is live: it is in service, and its ends lie on two different buses
abbrev pub is_live_branch : List ℕ → Branch → Bool
is_live_branch buses row = row.inservice && not (slice_index buses row.from == slice_index buses row.to)

-- the two buses that a branch joins, where it is live
abbrev pub live_ends : List ℕ → Branch → Option Ends
live_ends buses row =
    if is_live_branch buses row then Some (record { a = slice_index buses row.from; b = slice_index buses row.to }) else None

-- the live branches by position
abbrev pub live_branches : List ℕ → List Branch → List (Option Ends)
live_branches buses rows = map (live_ends buses) rows
