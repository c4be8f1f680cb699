use Rattle.std.proofs.Common.{map, string_bytes, length}
use Rattle.obs_c.proofs.Taken.{IsTaken}
use Rattle.obs_c.proofs.block_words.words_of.Given as goal

abbrev pub invariant-loop-rest : goal.invariant-loop-rest
invariant-loop-rest l = IsTaken l.fn.block (map string_bytes l.words.items) l.rest

abbrev pub decreases-loop-rest : goal.decreases-loop-rest
decreases-loop-rest l = length l.rest
