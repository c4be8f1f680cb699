-- The lines of islands. `islands` has for each bus the first bus of its island.
use Rattle.std.specs.Prelude.{ℕ, Bool, List, [], ◌∷◌, codes, filter, slice_index}
use Rattle.std.specs.List.{flat_map, range_with_len}
use Rattle.obs_case.specs.Tables.{Tables}
use Rattle.obs_network.specs.Network.{case_components}
use Rattle.obs_network.specs.Observable.{is_energised_component}
use Rattle.obs_network.specs.Switched.{case_bus_count}
use Rattle.obs_report.specs.Lines.{line_of}
use Rattle.obs_report.specs.Meters.{bus_name}

-- the first bus of an island, and a bus of it
abbrev pub island_line : Tables → ℕ → ℕ → List ℕ
island_line t first bus = line_of (codes "island" ∷ bus_name t first ∷ bus_name t bus ∷ [])

-- whether a bus is one of an energised component
abbrev pub is_energised_bus : Tables → ℕ → Bool
is_energised_bus t bus = is_energised_component t (slice_index (case_components t) bus)

-- a line for each of some buses that is energised
abbrev pub island_lines : Tables → List ℕ → List ℕ → List ℕ
island_lines t islands buses =
    flat_map (λ bus. island_line t (slice_index islands bus) bus) (filter (is_energised_bus t) buses)

-- a line for each energised bus, in the order of the buses
abbrev pub islands_text : Tables → List ℕ → List ℕ
islands_text t islands = island_lines t islands (range_with_len 0 (case_bus_count t))
