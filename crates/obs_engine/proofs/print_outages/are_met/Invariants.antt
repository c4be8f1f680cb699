use Rattle.std.proofs.Common.{◌≡◌, true, take}
use Rattle.std.specs.List.{list_all}
use Rattle.obs_engine.specs.OutageReply.{is_met}
use Rattle.obs_engine.proofs.print_outages.are_met.Given as goal

abbrev pub invariant-loop-k : goal.invariant-loop-k
invariant-loop-k l = list_all (is_met) (take l.k l.entries) ≡ true
