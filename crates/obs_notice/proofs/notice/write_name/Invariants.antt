use Rattle.std.proofs.Common.{◌≤◌, ◌-◌, ◌+◌, ℕ, length, take, drop}
use Rattle.obs_io.specs.Bytes.{Wrote}
use Rattle.obs_notice.specs.Notices.{name_said}
use Rattle.obs_notice.proofs.notice.write_name.Given as goal

abbrev pub invariant-loop-at : goal.invariant-loop-at
invariant-loop-at g l = record {
  within : l.at ≤ length l.name;
  wrote : Wrote (g.E.Sink.written l.fn.errors) (g.E.Sink.written l.errors) (name_said (take l.at l.name));
  room : (rest : ℕ) → g.E.Sink.has_room l.fn.errors (length (name_said l.name) + rest) → g.E.Sink.has_room l.errors (length (name_said (drop l.at l.name)) + rest);
}

abbrev pub decreases-loop-at : goal.decreases-loop-at
decreases-loop-at g l = length l.name - l.at
