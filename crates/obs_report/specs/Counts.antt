-- The counts of a network, and the verdict.
use Rattle.std.specs.Prelude.{ℕ, ◌==◌, false, List, [], ◌∷◌, ◌++◌, length, codes, count_by, if◌then◌else◌, slice_index_or}
use Rattle.obs_meter.specs.Touches.{live_items}
use Rattle.obs_network.specs.Network.{Network, live_branch_count}
use Rattle.obs_report.specs.Lines.{count_line, line_of}

-- how many buses energised components have
abbrev pub energised_buses : Network → ℕ
energised_buses n = count_by (λ c. slice_index_or n.components.energised c false) n.components.of_buses

-- how many meters touch a branch
abbrev pub live_count : Network → ℕ
live_count n = length (live_items n.graph.ends n.meters.touches)

-- the verdict on a rank and a needed number
abbrev pub verdict_word : ℕ → ℕ → List ℕ
verdict_word rank needed = if rank == needed then codes "observable" else codes "short"

-- the line of the verdict
abbrev pub verdict_line : ℕ → ℕ → List ℕ
verdict_line rank needed = line_of (codes "verdict" ∷ verdict_word rank needed ∷ [])

-- the six counts and the verdict
abbrev pub counts_text : Network → ℕ → List ℕ
counts_text n rank =
    count_line (codes "buses") n.buses.count
    ++ (count_line (codes "energised") (energised_buses n)
    ++ (count_line (codes "branches") (live_branch_count n)
    ++ (count_line (codes "meters") (live_count n)
    ++ (count_line (codes "needed") n.needed
    ++ (count_line (codes "rank") rank
    ++ verdict_line rank n.needed)))))
