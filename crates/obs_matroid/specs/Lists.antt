-- Words on lists, mostly of numbers.
use Rattle.std.specs.Prelude.{◌≡◌, ℕ, ◌<◌, Bool, not, ◌==◌, ◌⊎◌, List, [], ◌∷◌, filter}

-- x is one of xs: std's `Contains xs x`, by recursion
abbrev pub In : {X : Type 0} → X → List X → Type 0
In x [] = ⊥
In x (y ∷ ys) = (x ≡ y) ⊎ In x ys

-- no element stands twice; std's word of this name is a test, this is the fact
abbrev pub IsDistinct : {X : Type 0} → List X → Type 0
IsDistinct [] = Unit {0}
IsDistinct (x ∷ xs) = (In x xs → ⊥) × IsDistinct xs

-- each number is above those before it
abbrev pub IsRising : List ℕ → Type 0
IsRising [] = Unit {0}
IsRising (x ∷ xs) = ((y : ℕ) → In y xs → x < y) × IsRising xs

-- whether x is another number than m
abbrev pub other_than : ℕ → ℕ → Bool
other_than m x = not (x == m)

-- M without m
abbrev pub without : ℕ → List ℕ → List ℕ
without m M = filter (other_than m) M
