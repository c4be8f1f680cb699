use Rattle.std.proofs.Common.{◌≡◌, ◌≤◌, length, take}
use Rattle.std.specs.Prelude.{filter}
use Rattle.obs_station.specs.inner.Rounds.{is_bare}
use Rattle.obs_station.proofs.shown.count_bare.Given as goal

abbrev pub invariant-loop-m : goal.invariant-loop-m
invariant-loop-m l = record {
  count : l.count ≡ length (filter (is_bare l.a) (take l.m-index l.list));
  few : l.count ≤ l.m-index;
}
