use Rattle.std.proofs.Common.{◌≡◌, ◌≤◌, take}
use Rattle.std.specs.Prelude.{count_by, false, slice_index_or}
use Rattle.obs_report.proofs.counts.count_energised.Given as goal

abbrev pub invariant-loop-bus : goal.invariant-loop-bus
invariant-loop-bus l = record {
  counted : l.energised ≡ count_by (λ c. slice_index_or l.network.components.energised c false) (take l.bus l.network.components.of_buses);
  few : l.energised ≤ l.bus;
}
