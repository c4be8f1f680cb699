use Rattle.std.proofs.Common.{◌≡◌, ◌≤◌, ◌++◌, take, drop}
use Rattle.obs_network.specs.Switched.{closed_links}
use Rattle.obs_network.proofs.rebuild.write_links.Given as goal

abbrev pub invariant-loop-switch : goal.invariant-loop-switch
invariant-loop-switch l = record {
  links : take l.count l.links ++ closed_links (drop l.switch-index l.switches) ≡ closed_links l.switches;
  few : l.count ≤ l.switch-index;
}
