use Rattle.std.proofs.Common.{◌≡◌, ◌≤◌, get_or, length, take}
use Rattle.std.specs.Prelude.{filter, nat_lt}
use Rattle.obs_station.proofs.shown.count_reached.Given as goal

abbrev pub invariant-loop-m : goal.invariant-loop-m
invariant-loop-m l = record {
  count : l.count ≡ length (filter (λ m. nat_lt (get_or l.firsts m 0) l.all) (take l.m-index l.list));
  few : l.count ≤ l.m-index;
}
