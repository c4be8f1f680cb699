-- The generator of numbers.
use Rattle.std.specs.Prelude.{ℕ, zero, suc, ◌+◌, ◌*◌, ◌/◌, ◌%◌}

-- the state after one draw more
abbrev pub next_state : ℕ → ℕ
next_state state = (state * 1103515245 + 12345) % 2147483648

-- the state after so many draws from a seed
abbrev pub state_after : ℕ → ℕ → ℕ
state_after seed zero = seed % 2147483648
state_after seed (suc k) = next_state (state_after seed k)

-- what the draw gives that led to a state
abbrev pub drawn : ℕ → ℕ
drawn state = state / 65536

-- the draw of this number, from 0
abbrev pub draw_at : ℕ → ℕ → ℕ
draw_at seed k = drawn (state_after seed (suc k))
