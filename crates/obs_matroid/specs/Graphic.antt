-- The matroid of a graph: a list of branches spans a branch where it joins its two ends.
-- It has every number as a branch: give a number that is no branch of the graph two equal ends, so that it is a loop.
use Rattle.std.specs.Prelude.{ℕ, Bool, List}
use Rattle.obs_matroid.specs.Matroid.{Matroid}

-- the closure and rank of a graph, by the two ends of each branch, the test which vertices a list joins, and the rank of a list
abbrev pub graphic : (ℕ → ℕ × ℕ) → (List ℕ → ℕ → ℕ → Bool) → (List ℕ → ℕ) → Matroid
graphic ends joined rank = record { spans = λ L e. joined L (ends e).0 (ends e).1; rank = rank }
