use Rattle.std.proofs.Common.{◌≡◌, ◌<◌, ℕ, None, length}
use Rattle.std.specs.Prelude.{slice_index_or}
use Rattle.obs_outage.proofs.rowless.copy_ends.Given as goal

abbrev pub invariant-loop-e : goal.invariant-loop-e
invariant-loop-e l =
    (length l.ends ≡ length l.g.ends) × ((k : ℕ) → k < l.e → slice_index_or l.ends k None ≡ slice_index_or l.g.ends k None)
