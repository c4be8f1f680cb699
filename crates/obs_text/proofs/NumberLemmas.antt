-- How large a whole number gets.
use Rattle.std.proofs.Common.{ℕ, ◌^◌, ◌<◌, ◌≤◌, arith}
use Rattle.std.proofs.Math.Nat.{pow-le-pow_right}

-- what up to 18 digits write leaves room for one more digit
pub below_next : (n i : ℕ) → n < 10 ^ i → i < 19 → n < 10 ^ 18
below_next n i small few =
    let top : 10 ^ i ≤ 10 ^ 18 = pow-le-pow_right {n = 10} (omega arith) {i = i} {j = 18} (omega arith) in omega arith
