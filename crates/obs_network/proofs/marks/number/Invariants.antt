use Rattle.std.proofs.Common.{◌≡◌, ◌<◌, ◌≤◌, ℕ, get_or, take, filter}
use Rattle.std.specs.List.{range_with_len}
use Rattle.obs_graph.specs.Positions.{present}
use Rattle.obs_network.specs.Components.{component_count, component_of, is_first_bus}
use Rattle.obs_network.proofs.marks.number.Given as goal

abbrev pub invariant-loop-bus : goal.invariant-loop-bus
invariant-loop-bus l = record {
  numbered : (u : ℕ) → u < l.bus → get_or l.numbers u 0 ≡ component_of (present l.live) u;
  noted : take l.count l.first_buses ≡ filter (is_first_bus (present l.live)) (range_with_len 0 l.bus);
  counted : l.count ≡ component_count l.bus (present l.live);
  few : l.count ≤ l.bus;
}
