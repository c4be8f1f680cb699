use Rattle.std.proofs.Common.{◌≡◌, ◌<◌, ◌≤◌, ℕ, length}
use Rattle.std.specs.Prelude.{slice_index, slice_index_or}
use Rattle.obs_meter.specs.declared.Touch.TheVariants.{Nothing}
use Rattle.obs_outage.specs.inner.AtVertices.{front_vertex}
use Rattle.obs_outage.proofs.at_vertices.write_vertices.Given as goal

abbrev pub invariant-loop-m : goal.invariant-loop-m
invariant-loop-m l =
    (length l.at ≡ length l.ms.touches)
    × ((k : ℕ) → k < l.m → (slice_index l.at k ≡ front_vertex l.g.vertices (slice_index_or l.ms.touches k Nothing)) × (slice_index l.at k ≤ l.g.vertices))
