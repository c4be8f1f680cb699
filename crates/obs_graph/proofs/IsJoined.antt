-- The test `is_joined`, and one first vertex.
use Rattle.std.proofs.Common.{◌≡◌, ℕ, true, false, List, eq-eqb}
use Rattle.std.proofs.lemmas.Bool.{eqb-true, eqb-false, ne_eqb}
use Rattle.obs_graph.specs.declared.Ends.{Ends}
use Rattle.obs_graph.specs.Joined.{first_joined, is_joined}

pub same-from_true : (es : List Ends) (u v : ℕ) → is_joined es u v ≡ true → first_joined es u ≡ first_joined es v
same-from_true es u v e = eqb-true (first_joined es u) (first_joined es v) e

pub true-from_same : (es : List Ends) (u v : ℕ) → first_joined es u ≡ first_joined es v → is_joined es u v ≡ true
true-from_same es u v e = eq-eqb (first_joined es u) (first_joined es v) e

pub apart-from_false : (es : List Ends) (u v : ℕ) → is_joined es u v ≡ false → first_joined es u ≡ first_joined es v → ⊥
apart-from_false es u v e = eqb-false (first_joined es u) (first_joined es v) e

pub false-from_apart : (es : List Ends) (u v : ℕ) → (first_joined es u ≡ first_joined es v → ⊥) → is_joined es u v ≡ false
false-from_apart es u v e = ne_eqb (first_joined es u) (first_joined es v) e
