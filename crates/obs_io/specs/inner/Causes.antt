-- What a write has taken.
use Rattle.std.specs.Prelude.{ℕ, Bool, false, nat_lt, Result, Ok, Err}

-- a write took some bytes
abbrev pub wrote_some : {E : Type 0} → Result ℕ E → Bool
wrote_some (Ok n) = nat_lt 0 n
wrote_some (Err e) = false
