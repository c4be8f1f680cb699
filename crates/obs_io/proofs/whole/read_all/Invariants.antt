use Rattle.std.proofs.Common.{◌≡◌, ◌≢◌, ◌<◌, ◌≤◌, ◌-◌, ◌+◌, ℕ, length, take, vec_len}
use Rattle.std.specs.Prelude.{IfSome}
use Rattle.obs_io.proofs.whole.read_all.Given as goal

abbrev pub invariant-loop-bytes : goal.invariant-loop-bytes
invariant-loop-bytes g l = record {
  room : 0 < vec_len l.buffer;
  within : vec_len l.bytes ≤ l.limit + 1;
  front : IfSome (g.F.Files.content l.fn.files l.word) (λ c. (l.bytes.items ≡ take (vec_len l.bytes) c) × (vec_len l.bytes ≤ length c));
  same : (w : ℕ) → g.F.Files.content l.files w ≡ g.F.Files.content l.fn.files w;
  quiet : g.F.Files.faults l.files l.word ≡ g.F.Files.faults l.fn.files l.word;
  others : (w : ℕ) → w ≢ l.word → g.F.Files.faults l.files w ≡ g.F.Files.faults l.fn.files w;
  steady : (w : ℕ) → g.F.Files.steady l.fn.files w → g.F.Files.steady l.files w;
}

abbrev pub decreases-loop-bytes : goal.decreases-loop-bytes
decreases-loop-bytes g l = l.limit + 1 - vec_len l.bytes
