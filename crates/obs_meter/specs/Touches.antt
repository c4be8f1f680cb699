-- What items touch in a graph. `ends` are the ends of the graph's branches by position, where some are absent.
use Rattle.std.specs.Prelude.{ℕ, Bool, nat_lt, Option, None, List, [], length, take, filter, slice_index_or}
use Rattle.std.specs.List.{range_with_len}
use Rattle.obs_graph.specs.declared.Ends.{Ends}
use Rattle.obs_graph.specs.Positions.{branches_at}
use Rattle.obs_graph.specs.Graph.{itself_of}
use Rattle.obs_meter.specs.declared.Touch.{Touch}
use Rattle.obs_meter.specs.declared.Touch.TheVariants.{Nothing, Edge, Star, Front}

-- the positions of the branches that are touched, rising: none, one if it is present, the present ones at a vertex, or the
-- first so many of these
abbrev pub touched : List (Option Ends) → Touch → List ℕ
touched ends Nothing = []
touched ends (Edge e) = itself_of (slice_index_or ends e None) e
touched ends (Star v) = branches_at ends v
touched ends (Front v count) = take count (branches_at ends v)

-- what the item m touches, and nothing where there is no such item
abbrev pub touch_at : List (Option Ends) → List Touch → ℕ → List ℕ
touch_at ends touches m = touched ends (slice_index_or touches m Nothing)

-- whether the item m touches a branch
abbrev pub is_live : List (Option Ends) → List Touch → ℕ → Bool
is_live ends touches m = nat_lt 0 (length (touch_at ends touches m))

-- all items, by number
abbrev pub every_item : List Touch → List ℕ
every_item touches = range_with_len 0 (length touches)

-- the items that touch a branch
abbrev pub live_items : List (Option Ends) → List Touch → List ℕ
live_items ends touches = filter (is_live ends touches) (every_item touches)
