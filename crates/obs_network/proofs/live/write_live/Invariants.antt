use Rattle.std.proofs.Common.{◌≡◌, take, map}
use Rattle.obs_network.specs.Live.{live_ends}
use Rattle.obs_network.proofs.live.write_live.Given as goal

abbrev pub invariant-loop-i : goal.invariant-loop-i
invariant-loop-i l = take l.i l.live ≡ map (live_ends l.buses.buses) (take l.i l.branches)
