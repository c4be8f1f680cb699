-- The first vertex of an island, computed. The functions try every part of the vertices: they say what a value is, and no
-- program runs them.
use Rattle.std.specs.Prelude.{ℕ, ◌+◌, Bool, ◌==◌, ◌||◌, ◌&&◌, Option, List, [], ◌∷◌, length, map, filter, find, unwrap_or}
use Rattle.std.specs.List.{list_all}
use Rattle.obs_graph.specs.declared.Ends.{Ends}
use Rattle.obs_meter.specs.declared.Touch.{Touch}
use Rattle.obs_meter.specs.Assignments.{rho_at}
use Rattle.obs_meter.specs.Spanned.{ends_at}
use Rattle.obs_meter.specs.Touches.{live_items, touch_at}
use Rattle.obs_forest.specs.Forest.{has_position}
use Rattle.obs_islands.specs.Islands.{every_vertex}

-- whether some part of the list, in its order, passes the test
unfoldable pub some_part : (List ℕ → Bool) → List ℕ → Bool
some_part test [] = test []
some_part test (v ∷ vs) = some_part test vs || some_part (λ W. test (v ∷ W)) vs

-- whether both ends of each branch that the meter touches are among the vertices W
abbrev pub lies_inside : List (Option Ends) → List Touch → List ℕ → ℕ → Bool
lies_inside ends touches W m =
    list_all (λ e. has_position W (ends_at ends e).0 && has_position W (ends_at ends e).1) (touch_at ends touches m)

-- whether the vertices W are spanned from inside: they are one more than the pairs of a longest assignment of the live meters
-- that lie inside
unfoldable pub is_spanned : ℕ → List (Option Ends) → List Touch → List ℕ → Bool
is_spanned n ends touches W =
    length W == rho_at n ends touches (filter (lies_inside ends touches W) (live_items ends touches)) + 1

-- whether u and v lie in one island: some vertices that are spanned from inside have both
unfoldable pub in_one_island : ℕ → List (Option Ends) → List Touch → ℕ → ℕ → Bool
in_one_island n ends touches u v =
    some_part (λ W. is_spanned n ends touches W && has_position W u && has_position W v) (every_vertex n)

-- the first vertex of the island of v
unfoldable pub island_first : ℕ → List (Option Ends) → List Touch → ℕ → ℕ
island_first n ends touches v = unwrap_or (find (in_one_island n ends touches v) (every_vertex n)) v

-- of each vertex the first vertex of its island
abbrev pub islands_of : ℕ → List (Option Ends) → List Touch → List ℕ
islands_of n ends touches = map (island_first n ends touches) (every_vertex n)
