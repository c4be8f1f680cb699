use Rattle.std.proofs.Common.{◌≡◌, ◌<◌, ◌-◌, ℕ, length, get_or}
use Rattle.obs_assign.proofs.lose.place_of.Given as goal

abbrev pub invariant-loop-i : goal.invariant-loop-i
invariant-loop-i l = (j : ℕ) → j < l.i → get_or l.list j 0 ≡ l.e → ⊥

abbrev pub decreases-loop-i : goal.decreases-loop-i
decreases-loop-i l = length l.list - l.i
