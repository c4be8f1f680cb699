use Rattle.std.proofs.Common.{◌≡◌, ◌+◌, length, take}
use Rattle.obs_c.specs.Blocks.{sum}
use Rattle.obs_c.proofs.lengths.are_lengths.Given as goal

abbrev pub invariant-loop-n : goal.invariant-loop-n
invariant-loop-n l = sum (take l.n-index l.lengths) + l.left ≡ length l.contents
