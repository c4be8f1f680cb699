use Rattle.std.proofs.Common.{◌≡◌, ◌<◌, ℕ, length}
use Rattle.obs_network.specs.Switched.{case_bus_count}
use Rattle.obs_engine.proofs.Summed.{CountedTo}
use Rattle.obs_engine.proofs.summary.count_injections.Given as goal

abbrev pub invariant-loop-m : goal.invariant-loop-m
invariant-loop-m l = record {
  counted : (bus : ℕ) → bus < case_bus_count l.case → CountedTo l.case l.counts l.m bus;
  buses : length l.counts ≡ case_bus_count l.case;
}
