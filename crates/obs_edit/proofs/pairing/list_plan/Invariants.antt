use Rattle.std.proofs.Common.{◌≡◌, ◌<◌, ℕ, cond, not, get_or, length, take}
use Rattle.std.specs.Prelude.{nat_lt}
use Rattle.obs_meter.specs.declared.Touch.TheVariants.{Nothing}
use Rattle.obs_edit.specs.Planned.{listed_touches, planned_items}
use Rattle.obs_edit.proofs.pairing.list_plan.Given as goal

abbrev pub invariant-loop-m : goal.invariant-loop-m
invariant-loop-m l = record {
  listed : (k : ℕ) → k < l.m → get_or l.items.touches k Nothing ≡ cond (not (nat_lt k l.meters)) Nothing (get_or l.offered.touches k Nothing);
  one_each : length l.items.touches ≡ length l.offered.touches;
  most : l.items.most ≡ l.fn.items.most;
}

abbrev pub invariant-loop-k : goal.invariant-loop-k
invariant-loop-k l = record {
  planned : l.items.touches ≡ listed_touches l.offered.touches (planned_items l.meters (take l.k-index l.chosen));
  one_each : length l.items.touches ≡ length l.offered.touches;
  most : l.items.most ≡ l.fn.items.most;
}
