use Rattle.std.proofs.Common.{length}
use Rattle.obs_notice.proofs.numbers.+write_digits.Given as goal

abbrev pub decreases-write_digits : goal.decreases-write_digits
decreases-write_digits g l = length l.digits.now
