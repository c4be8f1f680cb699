use Rattle.std.proofs.Common.{◌≡◌, ◌<◌, ◌≤◌, ℕ, get_or}
use Rattle.obs_switch.specs.Buses.{bus_of, bus_count}
use Rattle.obs_switch.proofs.number.number.Given as goal

abbrev pub invariant-loop-node : goal.invariant-loop-node
invariant-loop-node l = record {
  numbered : (u : ℕ) → u < l.node → get_or l.numbers u 0 ≡ bus_of l.links u;
  counted : l.count ≡ bus_count l.node l.links;
  few : l.count ≤ l.node;
}
