use Rattle.std.proofs.Common.{◌≡◌, take, map, true}
use Rattle.obs_network.specs.Components.{if_energised}
use Rattle.obs_network.proofs.Marked.{AreAllKept}
use Rattle.obs_network.proofs.marks.write_energised.Given as goal

abbrev pub invariant-loop-i : goal.invariant-loop-i
invariant-loop-i l = record {
  kept : take l.i l.kept ≡ map (if_energised l.numbers l.energised) (take l.i l.live);
  all : l.all ≡ true → AreAllKept l.numbers l.energised l.live l.i;
}
