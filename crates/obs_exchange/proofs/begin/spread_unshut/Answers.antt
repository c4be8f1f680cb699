use Rattle.obs_exchange.proofs.Trails.{RunsOn-same}
use Rattle.obs_exchange.proofs.begin.spread_unshut.Goals as goal

pub returns-then-is_shut : goal.returns-then-is_shut
returns-then-is_shut c = let r = c.requires.resting in
    record { runs_on = RunsOn-same c.args.over.now c.args.search.now r.running; found = r.done }
