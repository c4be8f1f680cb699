-- Lists of bytes: whether two are the same, and the first byte.
use Rattle.std.proofs.Common.{◌≡◌, ℕ, ◌<◌, true, List, [], ◌∷◌, length, set, take, refl, arith}
use Rattle.std.specs.Cmp.Lexicographic.{bytes_decides}
use Rattle.std.specs.Str.{bytes_eq}

-- bytes that pass the test are the same
pub same_bytes : (x y : List ℕ) → bytes_eq x y ≡ true → x ≡ y
same_bytes x y h = (bytes_decides x y).0 h

-- a list whose first item is set begins with it
pub first_set : (xs : List ℕ) (x : ℕ) → 0 < length xs → take 1 (set xs 0 x) ≡ x ∷ []
first_set [] x some = absurd (omega arith)
first_set (y ∷ xs) x some = refl
