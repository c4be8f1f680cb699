-- The labels that a sweep lowers until they are first nodes.
use Rattle.std.specs.Prelude.{ℕ, ◌≡◌, ◌<◌, ◌≤◌, Bool, true, false, List, length, slice_index, sum_by, All}
use Rattle.obs_switch.specs.declared.link.Link.{Link}
use Rattle.obs_switch.specs.Buses.{first_node}

-- each node's label is a node of its bus that isn't above it
pub record AreLabels (links : List Link) (labels : List ℕ) : Type 0 where
  pub one_bus : (u : ℕ) → u < length labels → first_node links (slice_index labels u) ≡ first_node links u
  pub low : (u : ℕ) → u < length labels → slice_index labels u ≤ u

-- both ends of each link have one label
abbrev pub AreSettled : List Link → List ℕ → Type 0
AreSettled links labels = All (λ l. slice_index labels l.from ≡ slice_index labels l.to) links

-- each label is its own label
abbrev pub AreOwn : List ℕ → Type 0
AreOwn labels = (u : ℕ) → u < length labels → slice_index labels (slice_index labels u) ≡ slice_index labels u

-- labels stay labels when they are lowered; where none was, nothing changed
pub record AreLowered (links : List Link) (old new : List ℕ) (lowered : Bool) : Type 0 where
  pub labels : AreLabels links new
  pub sum : sum_by (λ x. x) new ≤ sum_by (λ x. x) old
  pub falls : lowered ≡ true → sum_by (λ x. x) new < sum_by (λ x. x) old
  pub same : lowered ≡ false → new ≡ old
