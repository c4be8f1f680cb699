-- Items that are critical together: neither is critical, and without both the greatest length of an assignment falls.
use Rattle.std.specs.Prelude.{ℕ, ◌==◌, ◌&&◌, ◌||◌, Bool, not, nat_lt, if◌then◌else◌, List, [], ◌∷◌}
use Rattle.obs_matroid.specs.Lists.{without}
use Rattle.obs_matroid.specs.Matroid.{Matroid}
use Rattle.obs_matroid.specs.Values.{is_critical, rho_of}

-- whether m and k are partners in M
unfoldable pub is_partner : Matroid → (ℕ → List ℕ) → List ℕ → ℕ → ℕ → Bool
is_partner g touch M m k =
    not (is_critical g touch M m) && not (is_critical g touch M k)
    && nat_lt (rho_of g touch (without k (without m M))) (rho_of g touch M)

-- the first of some numbers that passes the test, and d where none does
abbrev pub first_passing : (ℕ → Bool) → ℕ → List ℕ → ℕ
first_passing test d [] = d
first_passing test d (x ∷ xs) = if test x then x else first_passing test d xs

-- the class of m in M: the first item that is m or its partner
abbrev pub class_of : Matroid → (ℕ → List ℕ) → List ℕ → ℕ → ℕ
class_of g touch M m = first_passing (λ x. (x == m) || is_partner g touch M m x) m M
