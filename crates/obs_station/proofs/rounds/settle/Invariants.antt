use Rattle.std.proofs.Common.{◌≡◌, ◌+◌, ◌≤◌, length}
use Rattle.obs_station.specs.inner.Rounds.{AreRanked, allowance}
use Rattle.obs_station.proofs.rounds.settle.Given as goal

abbrev pub invariant-loop-c : goal.invariant-loop-c
invariant-loop-c l = record {
  ranked : AreRanked l.over l.ranks;
  saved : allowance l.over.stations.now l.fn.ranks l.over.stations.now.buses.count + l.saved ≤ allowance l.over.stations.now l.ranks l.over.stations.now.buses.count;
  length : length l.ranks ≡ length l.fn.ranks;
}
