use Rattle.std.proofs.Common.{◌+◌, ◌≤◌}
use Rattle.obs_switch.specs.inner.Groups.{group_start}
use Rattle.obs_station.specs.inner.Going.{GoesOn}
use Rattle.obs_station.specs.inner.Rounds.{allowance}
use Rattle.obs_station.proofs.Listing.{IsListing}
use Rattle.obs_station.proofs.without.write_losses.Given as goal

abbrev pub invariant-loop-c : goal.invariant-loop-c
invariant-loop-c g l = record {
  listing : IsListing l.over.graph.now l.over.meters.now.touches l.over.stations.now l.over.stations.now.buses.count l.entries l.found l.c;
  low : l.c ≤ l.over.stations.now.buses.count;
  ticks : l.steps + allowance l.over.stations.now l.rounds.ranks l.c
      ≤ l.fn.steps + (allowance l.over.stations.now l.rounds.ranks l.over.stations.now.buses.count + (group_start l.over.stations.now.keys l.c + l.found));
  goes_on : GoesOn l.over l.fn.a l.a l.fn.room l.room l.fn.steps l.steps;
}
