use Rattle.std.proofs.Common.{arith}
use Rattle.obs_exchange.proofs.Trails.{RunsOn-same, RunsOn-then}
use Rattle.obs_exchange.proofs.begin.spread_open.Goals as goal

pub next-m-requires : goal.next-m-requires
next-m-requires c = record { limit = omega (arith, c.end-limit.ensures.low, c.requires.room) }

pub next-m-requires-in-loop-m : goal.next-m-requires-in-loop-m
next-m-requires-in-loop-m c = record { limit = omega (arith, c.end-limit.ensures.low, c.requires.room) }

pub spread_unshut-requires : goal.spread_unshut-requires
spread_unshut-requires c = let i = c.loop-m.invariant in record {
  first = omega (arith, c.requires.first, i.first);
  end = omega (arith, c.end-limit.ensures.end, c.loop-m-test.true);
  resting = record { running = i.runs_on.running; done = i.done };
}

pub loop-m-init : goal.loop-m-init
loop-m-init c = let r = c.requires.resting in
    record { runs_on = RunsOn-same c.args.over.now c.args.search.now r.running; done = r.done; first = c.next-m.ensures.first }

pub loop-m-preserved : goal.loop-m-preserved
loop-m-preserved c = let l = c.loop-m in let e = c.in_default.ensures in record {
  runs_on = RunsOn-then c.args.over.now c.args.search.now l.search c.spread_unshut.new.search l.invariant.runs_on e.runs_on;
  done = e.found;
  first = omega (arith, l.invariant.first, c.next-m-in-loop-m.ensures.first);
}

pub returns-in-Some : goal.returns-in-Some
returns-in-Some c = let l = c.loop-m in let e = c.in-Some.ensures in
    record { runs_on = RunsOn-then c.args.over.now c.args.search.now l.search c.spread_unshut.new.search l.invariant.runs_on e.runs_on; found = e.found }

pub returns : goal.returns
returns c = record { runs_on = c.loop-m.invariant.runs_on; found = tt }
