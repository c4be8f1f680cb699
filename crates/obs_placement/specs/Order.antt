-- In which order the items are taken: the meters, and then the candidates by rising price and, at one price, by position.
use Rattle.std.specs.Prelude.{ℕ, ◌==◌, ◌||◌, ◌&&◌, Bool, nat_lt}

-- whether the item x is taken before c: it is cheaper, or it costs as much and has a lower number
abbrev pub is_earlier : (ℕ → ℕ) → ℕ → ℕ → Bool
is_earlier price c x = nat_lt (price x) (price c) || ((price x == price c) && nat_lt x c)
