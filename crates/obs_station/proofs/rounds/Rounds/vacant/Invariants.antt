use Rattle.std.proofs.Common.{◌≡◌, ℕ, ◌<◌, None, get_or}
use Rattle.obs_exchange.specs.declared.Sources.TheVariants.{All}
use Rattle.obs_exchange.specs.inner.Closed.{IsSource}
use Rattle.obs_station.proofs.rounds.Rounds.vacant.Given as goal

abbrev pub invariant-loop-m : goal.invariant-loop-m
invariant-loop-m l = record {
  none : (k : ℕ) → k < l.m → IsSource l.over.graph.now.ends l.over.meters.now.touches All l.a k → get_or l.self.ranks (get_or l.over.stations.now.keys k 0) None ≡ None → ⊥;
}
