-- The bound of a list of meters over a scope, and what it is made of. Marks and scopes are tests.
use Rattle.std.specs.Prelude.{ℕ, Bool, not, Option, List, filter, flat_map}
use Rattle.obs_graph.specs.declared.Ends.{Ends}
use Rattle.obs_meter.specs.declared.Touch.{Touch}
use Rattle.obs_meter.specs.Spanned.{rank_at}
use Rattle.obs_meter.specs.Touches.{live_items, touch_at}

-- the live meters of the scope
abbrev pub in_scope : List (Option Ends) → List Touch → (ℕ → Bool) → List ℕ
in_scope ends touches scope = filter scope (live_items ends touches)

-- the marked ones of these, and the others
abbrev pub listed : List (Option Ends) → List Touch → (ℕ → Bool) → (ℕ → Bool) → List ℕ
listed ends touches marks scope = filter marks (in_scope ends touches scope)

abbrev pub unlisted : List (Option Ends) → List Touch → (ℕ → Bool) → (ℕ → Bool) → List ℕ
unlisted ends touches marks scope = filter (λ m. not (marks m)) (in_scope ends touches scope)

-- the rank of the branches that the listed ones touch; the graph has n vertices
abbrev pub listed_rank : ℕ → List (Option Ends) → List Touch → (ℕ → Bool) → (ℕ → Bool) → ℕ
listed_rank n ends touches marks scope = rank_at n ends (flat_map (touch_at ends touches) (listed ends touches marks scope))
