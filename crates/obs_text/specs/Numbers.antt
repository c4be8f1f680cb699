-- What a whole number is.
use Rattle.std.specs.Prelude.{ℕ, ◌+◌, ◌-◌, ◌*◌, ◌&&◌, Bool, nat_lt, nat_le, List, [], ◌∷◌, length, Option, None, Some, if◌then◌else◌}
use Rattle.std.specs.Str.{all_ascii_digits}

-- the number that digits write after those of n
abbrev pub value_after : ℕ → List ℕ → ℕ
value_after n [] = n
value_after n (digit ∷ digits) = value_after (n * 10 + (digit - 0x30)) digits

-- 1 to 19 ASCII digits
abbrev pub is_whole : List ℕ → Bool
is_whole bytes = nat_lt 0 (length bytes) && nat_le (length bytes) 19 && all_ascii_digits bytes

-- the number that bytes write in decimal digits, where they are a whole number
abbrev pub whole_of : List ℕ → Option ℕ
whole_of bytes = if is_whole bytes then Some (value_after 0 bytes) else None
