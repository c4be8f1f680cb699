use Rattle.std.proofs.Common.{◌≡◌, ◌≤◌, take}
use Rattle.std.specs.Prelude.{count_by, nat_lt}
use Rattle.obs_engine.proofs.summary.count_several.Given as goal

abbrev pub invariant-loop-count : goal.invariant-loop-count
invariant-loop-count l = record {
  counted : l.several ≡ count_by (λ n. nat_lt 1 n) (take l.count-index l.counts);
  few : l.several ≤ l.count-index;
}
