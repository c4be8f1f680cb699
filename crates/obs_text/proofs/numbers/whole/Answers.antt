use Rattle.std.proofs.Common.{◌<◌, ◌^◌, arith}
use Rattle.obs_text.proofs.NumberLemmas.{below_next}
use Rattle.obs_text.proofs.numbers.whole.Goals as goal

pub overflow_mul-value : goal.overflow_mul-value
overflow_mul-value c =
    let small : c.loop-byte.value < 10 ^ 18 = below_next _ _ c.loop-byte.invariant.2 (omega arith) in omega arith

pub overflow_add-value : goal.overflow_add-value
overflow_add-value c =
    let small : c.loop-byte.value < 10 ^ 18 = below_next _ _ c.loop-byte.invariant.2 (omega arith) in omega arith
