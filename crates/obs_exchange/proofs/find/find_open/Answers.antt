use Rattle.std.proofs.Common.{arith}
use Rattle.obs_exchange.proofs.Trails.{IsAsLarge-run, IsAsLarge-same, IsAsLarge-then}
use Rattle.obs_exchange.proofs.find.find_open.Goals as goal

pub returns-then-not-start : goal.returns-then-not-start
returns-then-not-start c = record { found = tt; as_large = IsAsLarge-same c.args.search.now }

pub spread_open-requires : goal.spread_open-requires
spread_open-requires c = let r = c.requires in record { room = r.flags; first = r.searched; resting = c.start_anew.ensures.resting }

pub trace-requires : goal.trace-requires
trace-requires c = let e = c.in-Some.ensures in record {
  end = (c.args.ahead.now, e.found);
  room = omega (arith, e.runs_on.follows.meters, c.start_anew.ensures.as_large.meters, c.requires.path);
}

pub returns-in-Some : goal.returns-in-Some
returns-in-Some c =
    let s = c.start_anew in
    let e = c.in-Some.ensures in
    let n = c.spread_open.new.search in
    record {
      found = record { bound = c.trace.ensures.bound; ready = c.trace.ensures.ready c.args.ahead.now e.found };
      as_large = IsAsLarge-then c.args.search.now s.new.search n s.ensures.as_large (IsAsLarge-run c.args.ahead.now s.new.search n s.ensures.resting.running e.runs_on);
    }

pub returns-in-None : goal.returns-in-None
returns-in-None c =
    let s = c.start_anew in
    let n = c.spread_open.new.search in
    record {
      found = tt;
      as_large = IsAsLarge-then c.args.search.now s.new.search n s.ensures.as_large (IsAsLarge-run c.args.ahead.now s.new.search n s.ensures.resting.running c.spread_open.ensures.runs_on);
    }
