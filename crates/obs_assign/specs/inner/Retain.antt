-- The two steps in which pairs are retained.
use Rattle.std.specs.Prelude.{◌≡◌, ◌↔◌, ℕ, if◌then◌else◌, Option, Some, None, List, slice_index_or}
use Rattle.obs_graph.specs.declared.Ends.{Ends}
use Rattle.obs_graph.specs.declared.search.Up.{Up}
use Rattle.obs_meter.specs.declared.Touch.{Touch}
use Rattle.obs_assign.specs.declared.Move.{Move}
use Rattle.obs_assign.specs.inner.Still.{is_still}

-- the slot of the meter m, where its branch stays only if the meter touches it
abbrev pub touched_slot : List (Option Ends) → List Touch → ℕ → Option ℕ → Option ℕ
touched_slot ends touches m None = None
touched_slot ends touches m (Some e) = if is_still ends touches (m, e) then Some e else None

-- the move is that of the branch that leads up and of its owner
pub record IsPairUp (up : Option Up) (owners : List (Option ℕ)) (x : Move) : Type 0 where
  pub way : Up
  pub there : up ≡ Some way
  pub same : way.branch ≡ x.branch
  pub owned : slice_index_or owners x.branch None ≡ Some x.meter

-- the branch e is that of a way up
abbrev pub LeadsUp : List (Option Up) → ℕ → Type 0
LeadsUp ups e = (v : ℕ) × (x : Up) × (slice_index_or ups v None ≡ Some x) × (x.branch ≡ e)

-- after are the pairs before whose branch leads up
abbrev pub AreChosen : List (Option Up) → List (Option ℕ) → List (Option ℕ) → Type 0
AreChosen ups before after =
    (m e : ℕ) → (slice_index_or after m None ≡ Some e) ↔ ((slice_index_or before m None ≡ Some e) × LeadsUp ups e)
