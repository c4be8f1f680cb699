-- Flags of branches and counts at vertices, as a pass over the meters sets them.
use Rattle.std.specs.Prelude.{◌≡◌, ◌⊎◌, ◌↔◌, ℕ, Bool, true, Option, List, take, slice_index_or}
use Rattle.obs_graph.specs.declared.Ends.{Ends}
use Rattle.obs_graph.specs.Positions.{branches_at}
use Rattle.obs_matroid.specs.Lists.{In}
use Rattle.obs_rankcut.specs.inner.Flags.{marked}

-- the flags after are those before, and those of the listed branches
pub record AreMarkedToo (before : List Bool) (L : List ℕ) (after : List Bool) : Type 0 where
  pub added : (e : ℕ) → In e L → marked after e ≡ true
  pub kept : (e : ℕ) → marked before e ≡ true → marked after e ≡ true
  pub only : (e : ℕ) → marked after e ≡ true → (marked before e ≡ true) ⊎ In e L

-- at each vertex the first so many branches are marked
abbrev pub AreFrontsMarked : List (Option Ends) → List ℕ → List Bool → Type 0
AreFrontsMarked ends fronts flags = (v e : ℕ) → In e (take (slice_index_or fronts v 0) (branches_at ends v)) → marked flags e ≡ true

-- just the listed branches are marked
abbrev pub MarksJust : List ℕ → List Bool → Type 0
MarksJust L flags = (e : ℕ) → (marked flags e ≡ true) ↔ In e L
