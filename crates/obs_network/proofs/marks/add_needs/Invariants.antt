use Rattle.std.proofs.Common.{◌≡◌, ◌≤◌, take}
use Rattle.std.specs.Prelude.{sum}
use Rattle.obs_network.specs.Components.{needed_of}
use Rattle.obs_network.proofs.marks.add_needs.Given as goal

abbrev pub invariant-loop-c : goal.invariant-loop-c
invariant-loop-c l = record {
  added : l.needed ≡ needed_of l.sizes l.energised l.absolute l.c;
  small : l.needed ≤ sum (take l.c l.sizes);
}
