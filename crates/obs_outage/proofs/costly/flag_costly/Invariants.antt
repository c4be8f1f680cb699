use Rattle.std.proofs.Common.{◌≡◌, ◌<◌, ℕ, None, false, get_or, true, length}
use Rattle.obs_assign.specs.inner.Assignment.{has_flag}
use Rattle.obs_outage.specs.inner.Costly.{IsCostly}
use Rattle.obs_outage.proofs.costly.flag_costly.Given as goal

abbrev pub invariant-loop-e : goal.invariant-loop-e
invariant-loop-e l = record {
  long : length l.flags ≡ length l.fn.flags;
  costly : (k : ℕ) → has_flag l.flags k ≡ true → IsCostly l.g.ends l.ms.touches k;
  rest : (k : ℕ) → k < l.e → has_flag l.spared k ≡ false → has_flag l.flags k ≡ false → get_or l.part.ends k None ≡ None;
}
