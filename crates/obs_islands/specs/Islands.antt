-- Islands of a graph with n vertices. `ends` has its branches by position, `touches` what each meter touches, and a set of
-- vertices is a test.
use Rattle.std.specs.Prelude.{◌≡◌, ℕ, ◌<◌, ◌≤◌, Bool, true, Option, List}
use Rattle.std.specs.List.{range_with_len}
use Rattle.obs_graph.specs.declared.Ends.{Ends}
use Rattle.obs_matroid.specs.Islands.{IsIsland}
use Rattle.obs_meter.specs.declared.Touch.{Touch}
use Rattle.obs_meter.specs.Spanned.{ends_at, graph_matroid}
use Rattle.obs_meter.specs.Touches.{live_items, touch_at}

-- all vertices, by number
abbrev pub every_vertex : ℕ → List ℕ
every_vertex n = range_with_len 0 n

-- S is an island: spanned from inside, and in no larger set that is
abbrev pub IsIslandAt : ℕ → List (Option Ends) → List Touch → (ℕ → Bool) → Type 0
IsIslandAt n ends touches S =
    IsIsland (ends_at ends) (graph_matroid n ends) (touch_at ends touches) (every_vertex n) (live_items ends touches) S

-- S is an island that has v, and every island that has v is S
pub record IsOnlyIslandOf (n : ℕ) (ends : List (Option Ends)) (touches : List Touch) (v : ℕ) (S : ℕ → Bool) : Type 0 where
  pub island : IsIslandAt n ends touches S
  pub has : S v ≡ true
  pub only : (T : ℕ → Bool) → IsIslandAt n ends touches T → T v ≡ true → (u : ℕ) → u < n → T u ≡ S u

-- u is the first vertex in S
pub record IsFirstIn (n : ℕ) (S : ℕ → Bool) (u : ℕ) : Type 0 where
  pub vertex : u < n
  pub has : S u ≡ true
  pub first : (v : ℕ) → v < n → S v ≡ true → u ≤ v
