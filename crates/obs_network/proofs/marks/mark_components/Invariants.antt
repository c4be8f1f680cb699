use Rattle.std.proofs.Common.{◌≡◌, ◌<◌, ◌||◌, ℕ, length, get_or, drop, false}
use Rattle.std.specs.Prelude.{◌==◌, slice_index}
use Rattle.std.specs.List.{list_any}
use Rattle.obs_graph.specs.Positions.{positions_from}
use Rattle.obs_network.specs.Components.{is_marked}
use Rattle.obs_network.specs.inner.Kept.{flag_of}
use Rattle.obs_network.proofs.marks.mark_components.Given as goal

abbrev pub invariant-loop-u : goal.invariant-loop-u
invariant-loop-u l = (c : ℕ) → c < length l.fn.marks
    → (get_or l.marks c false || list_any (λ u. slice_index l.numbers (slice_index l.buses.buses u) == c) (positions_from (flag_of l.flag) l.u (drop l.u l.nodes)))
    ≡ is_marked (flag_of l.flag) l.numbers l.buses.buses l.nodes c
