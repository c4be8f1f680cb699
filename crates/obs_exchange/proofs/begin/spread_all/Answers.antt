use Rattle.std.proofs.Common.{arith}
use Rattle.obs_exchange.proofs.Trails.{RunsOn-then}
use Rattle.obs_exchange.proofs.begin.spread_all.Goals as goal

pub spread_range-requires : goal.spread_range-requires
spread_range-requires c = let r = c.requires in record { noted = r.noted; first = r.middle; limit = omega (arith, c.end-end.ensures.end); resting = r.resting }

pub spread_range-requires-2 : goal.spread_range-requires-2
spread_range-requires-2 c = let e = c.in_default.ensures in record {
  noted = c.requires.noted;
  first = omega (arith, c.first.ensures.first);
  limit = omega (arith, c.end-end.ensures.end);
  resting = record { running = e.runs_on.running; done = e.found.0 };
}

pub returns-in-Some : goal.returns-in-Some
returns-in-Some c = let e = c.in-Some.ensures in record { runs_on = e.runs_on; found = e.found }

pub returns : goal.returns
returns c = let e = c.spread_range-2.ensures in record {
  runs_on = RunsOn-then c.args.over.now c.args.search.now c.spread_range.new.search c.spread_range-2.new.search c.spread_range.ensures.runs_on e.runs_on;
  found = rw (c.first.ensures.first, c.end-end.ensures.end) at e.found;
}
