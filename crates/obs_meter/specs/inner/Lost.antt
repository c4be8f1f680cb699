-- What is left of a list of items when some are lost.
use Rattle.std.specs.Prelude.{ℕ, Bool, not, List, filter}

-- of a list of items those that aren't lost
abbrev pub left_of : (ℕ → Bool) → List ℕ → List ℕ
left_of lost M = filter (λ m. not (lost m)) M
