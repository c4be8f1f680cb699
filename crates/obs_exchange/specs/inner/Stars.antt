-- What a search knows of the branches at each vertex.
use Rattle.std.specs.Prelude.{ℕ, Bool, if◌then◌else◌, List, [], ◌∷◌}

-- by vertex how many of the first branches at it were walked: the count that was noted where the flag is set, else none
abbrev pub fronts_of : List Bool → List ℕ → List ℕ
fronts_of [] counts = []
fronts_of (b ∷ bs) [] = 0 ∷ fronts_of bs []
fronts_of (b ∷ bs) (n ∷ ns) = (if b then n else 0) ∷ fronts_of bs ns
