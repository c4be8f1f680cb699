use Rattle.std.proofs.Common.{◌≡◌, ◌≤◌, length, take}
use Rattle.std.specs.Prelude.{count_by}
use Rattle.std.specs.List.{range_with_len}
use Rattle.obs_meter.specs.Touches.{is_live}
use Rattle.obs_report.proofs.counts.count_live.Given as goal

abbrev pub invariant-loop-m : goal.invariant-loop-m
invariant-loop-m l = record {
  counted : l.live ≡ count_by (is_live l.graph.ends l.meters.touches) (take l.m (range_with_len 0 (length l.meters.touches)));
  few : l.live ≤ l.m;
}
