use Rattle.std.proofs.Common.{◌≡◌, ◌+◌, ◌<◌, ◌≤◌, ℕ, length, get_or, drop}
use Rattle.std.specs.Prelude.{slice_index}
use Rattle.obs_graph.specs.Positions.{positions_from}
use Rattle.obs_network.specs.Components.{is_source}
use Rattle.obs_network.specs.inner.Components.{source_nodes}
use Rattle.obs_outage.specs.inner.Feeds.{sources_at}
use Rattle.obs_outage.proofs.feeds.count_by_bus.Given as goal

abbrev pub invariant-loop-u : goal.invariant-loop-u
invariant-loop-u l = record {
  counted : (b : ℕ) → b < length l.fn.counts
      → get_or l.counts b 0 + sources_at (λ u. slice_index l.fn.network.buses.buses u) (positions_from is_source l.u (drop l.u l.fn.nodes)) b
      ≡ sources_at (λ u. slice_index l.fn.network.buses.buses u) (source_nodes l.fn.nodes) b;
  small : (b : ℕ) → b < length l.fn.counts → get_or l.counts b 0 ≤ l.u;
}
