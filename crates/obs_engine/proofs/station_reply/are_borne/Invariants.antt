use Rattle.std.proofs.Common.{◌≡◌, true, take}
use Rattle.std.specs.List.{list_all}
use Rattle.obs_engine.specs.StationReply.{is_borne}
use Rattle.obs_engine.proofs.station_reply.are_borne.Given as goal

abbrev pub invariant-loop-k : goal.invariant-loop-k
invariant-loop-k l = list_all (is_borne l.needed) (take l.k l.entries) ≡ true
