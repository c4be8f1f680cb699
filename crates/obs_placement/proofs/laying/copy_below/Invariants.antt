use Rattle.std.proofs.Common.{◌≡◌, ℕ, ◌-◌, ◌<◌, ◌≤◌, length, get_or, take}
use Rattle.obs_placement.specs.inner.Order.{item_at}
use Rattle.obs_placement.proofs.laying.copy_below.Given as goal

abbrev pub invariant-loop-upto : goal.invariant-loop-upto
invariant-loop-upto l = record {
  from : l.fn.listed ≤ l.upto;
  high : l.upto ≤ length l.keys;
  below : (k : ℕ) → l.fn.listed ≤ k → k < l.upto → (get_or l.keys k (0, 0)).0 < l.to;
  copied : (k : ℕ) → l.fn.listed ≤ k → k < l.upto → get_or l.inside k 0 ≡ item_at l.keys k;
  kept : take l.fn.listed l.inside ≡ take l.fn.listed l.fn.inside;
}

abbrev pub decreases-loop-upto : goal.decreases-loop-upto
decreases-loop-upto l = length l.keys - l.upto
