-- Bounds on the length of assignments.
use Rattle.std.specs.Prelude.{ℕ, Bool, List, not, filter}

-- the items of M that J marks
abbrev pub inside : (ℕ → Bool) → List ℕ → List ℕ
inside J M = filter J M

-- the items of M that J does not mark
abbrev pub outside : (ℕ → Bool) → List ℕ → List ℕ
outside J M = filter (λ m. not (J m)) M
