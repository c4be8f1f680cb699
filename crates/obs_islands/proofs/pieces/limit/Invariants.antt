use Rattle.std.proofs.Common.{◌≤◌, length}
use Rattle.obs_islands.proofs.Noting.{IsAbove}
use Rattle.obs_islands.proofs.pieces.limit.Given as goal

abbrev pub invariant-loop-m : goal.invariant-loop-m
invariant-loop-m l = record {
  low : l.limit ≤ length l.g.ends;
  above : IsAbove l.g.ends l.used.touches l.m l.limit;
}
