-- One round of the search for islands. `firsts` has for each vertex the first vertex of its piece, and `lowest` for each vertex
-- the branch that is noted there: the lowest of those at the vertex that are lost.
use Rattle.std.specs.Prelude.{◌≡◌, ◌⊎◌, ℕ, ◌<◌, ◌≤◌, ◌==◌, Bool, true, false, not, if◌then◌else◌, Option, Some, None, List, length, map, slice_index, slice_index_or}
use Rattle.std.specs.List.{list_any}
use Rattle.obs_graph.specs.declared.Ends.{Ends}
use Rattle.obs_graph.specs.Joined.{first_joined}
use Rattle.obs_graph.specs.Positions.{has_end, present}
use Rattle.obs_meter.specs.declared.Hub.{Hub}
use Rattle.obs_meter.specs.declared.Touch.{Touch}
use Rattle.obs_meter.specs.declared.Touch.TheVariants.{Nothing}
use Rattle.obs_meter.specs.Touches.{touched}
use Rattle.obs_meter.specs.inner.Touches.{hub_of}

-- each vertex of a forest has the first vertex of its piece
pub record AreFirsts (n : ℕ) (held : List (Option Ends)) (firsts : List ℕ) : Type 0 where
  pub one_each : length firsts ≡ n
  pub first : (v : ℕ) → v < n → slice_index firsts v ≡ first_joined (present held) v

-- whether the branch lies between two pieces
abbrev pub is_between : List ℕ → Option Ends → Bool
is_between firsts None = false
is_between firsts (Some x) = not (slice_index firsts x.a == slice_index firsts x.b)

-- whether the branch at a position does
abbrev pub is_crossing : List (Option Ends) → List ℕ → ℕ → Bool
is_crossing ends firsts e = is_between firsts (slice_index_or ends e None)

-- the branch that is noted at a vertex, and a number above all positions where none is
abbrev pub noted : List ℕ → ℕ → ℕ
noted lowest v = slice_index_or lowest v 4294967295

-- a branch is noted at the vertices that pass the test, where it is lower than what was noted there, and nothing else changes
pub record IsNotedAt (test : ℕ → Bool) (e : ℕ) (before after : List ℕ) : Type 0 where
  pub no_higher : (v : ℕ) → noted after v ≤ noted before v
  pub here : (v : ℕ) → test v ≡ true → noted after v ≤ e
  pub only : (v : ℕ) → (noted after v ≡ noted before v) ⊎ ((test v ≡ true) × (noted after v ≡ e))

-- at each vertex the lowest branch that passes the test is noted, of those below the limit, and nothing where there is none
pub record AreLowest (ends : List (Option Ends)) (test : ℕ → Bool) (limit : ℕ) (lowest : List ℕ) : Type 0 where
  pub none_lower : (v e : ℕ) → e < limit → has_end v (slice_index_or ends e None) ≡ true → test e ≡ true → noted lowest v ≤ e
  pub at : (v : ℕ) → noted lowest v < length ends → has_end v (slice_index_or ends (noted lowest v) None) ≡ true
  pub passes : (v : ℕ) → noted lowest v < length ends → test (noted lowest v) ≡ true

-- whether an item straddles: the branch that is noted at its hub is one of those that it touches
abbrev pub straddles_at : (ℕ → ℕ) → List ℕ → Option Hub → Bool
straddles_at lowest branches None = false
straddles_at lowest branches (Some h) = list_any (λ p. p == lowest h.vertex) branches

abbrev pub straddles : List (Option Ends) → (ℕ → ℕ) → Touch → Bool
straddles ends lowest t = straddles_at lowest (touched ends t) (hub_of ends t)

-- the touches, where those that straddle are discarded
abbrev pub kept : List (Option Ends) → (ℕ → ℕ) → Touch → Touch
kept ends lowest t = if straddles ends lowest t then Nothing else t

abbrev pub remaining : List (Option Ends) → (ℕ → ℕ) → List Touch → List Touch
remaining ends lowest touches = map (kept ends lowest) touches
