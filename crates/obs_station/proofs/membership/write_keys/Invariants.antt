use Rattle.std.proofs.Common.{◌≡◌, ℕ, ◌<◌, ◌≤◌}
use Rattle.std.specs.Prelude.{slice_index}
use Rattle.obs_station.specs.inner.Held.{station_key}
use Rattle.obs_station.proofs.membership.write_keys.Given as goal

-- the keys of the meters so far
abbrev pub invariant-loop-m : goal.invariant-loop-m
invariant-loop-m l = record {
  keys : (k : ℕ) → k < l.m → slice_index l.keys k ≡ station_key l.present k;
  below : (k : ℕ) → k < l.m → slice_index l.keys k ≤ l.stations.count;
}
