use Rattle.std.proofs.Common.{arith}
use Rattle.obs_exchange.proofs.Noting.{marked_first, marked_next}
use Rattle.obs_exchange.proofs.Trails.{RunsOn-same, RunsOn-then}
use Rattle.obs_exchange.proofs.begin.spread_range.Goals as goal

pub next-m-requires : goal.next-m-requires
next-m-requires c = let s = c.requires.resting.running.searching in record { limit = omega (arith, c.requires.limit, s.sound.sources_low, c.requires.noted.room) }

pub next-m-requires-in-loop-m : goal.next-m-requires-in-loop-m
next-m-requires-in-loop-m c = let s = c.requires.resting.running.searching in record { limit = omega (arith, c.requires.limit, s.sound.sources_low, c.requires.noted.room) }

pub spread_source-requires : goal.spread_source-requires
spread_source-requires c = let i = c.loop-m.invariant in record {
  first = omega (arith, c.requires.first, i.first);
  end = omega (arith, c.requires.limit, c.loop-m-test.true);
  resting = record { running = i.runs_on.running; done = i.done };
}

pub loop-m-init : goal.loop-m-init
loop-m-init c = let r = c.requires.resting in record {
  runs_on = RunsOn-same c.args.over.now c.args.search.now r.running;
  done = r.done;
  first = c.next-m.ensures.first;
  marked = marked_first c.args.over.now c.args.noted.now c.requires.noted c.args.first c.args.limit c.next-m.result c.args.search.now.trail.marks c.next-m.ensures.passed;
}

pub loop-m-preserved : goal.loop-m-preserved
loop-m-preserved c = let l = c.loop-m in let e = c.in_default.ensures in let n = c.next-m-in-loop-m in record {
  runs_on = RunsOn-then c.args.over.now c.args.search.now l.search c.spread_source.new.search l.invariant.runs_on e.runs_on;
  done = e.found;
  first = omega (arith, l.invariant.first, n.ensures.first);
  marked = marked_next c.args.over.now c.args.noted.now c.requires.noted c.args.first c.args.limit n.result l.m l.search.trail.marks c.spread_source.new.search.trail.marks e.runs_on.follows.marks l.invariant.marked e.marked n.ensures.passed;
}

pub returns-in-Some : goal.returns-in-Some
returns-in-Some c = let l = c.loop-m in let e = c.in-Some.ensures in
    record { runs_on = RunsOn-then c.args.over.now c.args.search.now l.search c.spread_source.new.search l.invariant.runs_on e.runs_on; found = e.found }

pub returns : goal.returns
returns c = let i = c.loop-m.invariant in
    record { runs_on = i.runs_on; found = (i.done, λ m low l s. i.marked m low (omega (arith, l, c.loop-m-test.false)) l s) }
