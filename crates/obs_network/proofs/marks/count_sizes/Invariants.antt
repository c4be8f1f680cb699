use Rattle.std.proofs.Common.{◌≡◌, ◌<◌, ℕ, length, get_or, take, count_by}
use Rattle.std.specs.Prelude.{◌==◌}
use Rattle.obs_network.proofs.marks.count_sizes.Given as goal

abbrev pub invariant-loop-number : goal.invariant-loop-number
invariant-loop-number l = (c : ℕ) → c < length l.fn.sizes → get_or l.sizes c 0 ≡ count_by (λ x. x == c) (take l.number-index l.numbers)
