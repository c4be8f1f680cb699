-- Angle branches: from the bus of an angle item's node to the reference vertex of that bus's component, where this is energised
-- and absolute. `buses` has the bus of each node, `components` the component of each bus.
use Rattle.std.specs.Prelude.{ℕ, ◌+◌, ◌&&◌, Bool, false, if◌then◌else◌, Option, Some, None, List, ◌++◌, length, map, slice_index, slice_index_or}
use Rattle.std.specs.List.{list_any}
use Rattle.obs_graph.specs.declared.Ends.{Ends}
use Rattle.obs_case.specs.declared.rows.Candidate.{Candidate}
use Rattle.obs_case.specs.declared.rows.Kind.{Kind}
use Rattle.obs_case.specs.declared.rows.Kind.TheVariants.{Flow, Injection, Zero, Angle}
use Rattle.obs_case.specs.declared.rows.Meter.{Meter}
use Rattle.obs_case.specs.Items.{angle_flags}
use Rattle.obs_case.specs.Tables.{Tables}

-- whether one of the items of a case is an angle item
abbrev pub has_angle : Tables → Bool
has_angle t = list_any (λ b. b) (angle_flags t)

-- which components take angle branches: the energised ones that are absolute
abbrev pub takes_angles : List Bool → List Bool → ℕ → Bool
takes_angles energised absolute c = slice_index_or energised c false && slice_index_or absolute c false

-- the reference vertex of a component, behind all buses
abbrev pub reference_of : List ℕ → ℕ → ℕ
reference_of components c = length components + c

-- the ends of an angle branch at a bus
abbrev pub bus_angle : List ℕ → List Bool → List Bool → ℕ → Option Ends
bus_angle components energised absolute bus =
    if takes_angles energised absolute (slice_index components bus)
    then Some (record { a = bus; b = reference_of components (slice_index components bus) })
    else None

-- the ends of the angle branch of an item of this kind at a place, whether the item is in service or not
abbrev pub item_angle : List ℕ → List ℕ → List Bool → List Bool → Kind → ℕ → Option Ends
item_angle buses components energised absolute Flow at = None
item_angle buses components energised absolute Injection at = None
item_angle buses components energised absolute Zero at = None
item_angle buses components energised absolute Angle at = bus_angle components energised absolute (slice_index buses at)

-- the angle branches of the meters and then of the candidates, by item
abbrev pub angle_branches : List ℕ → List ℕ → List Bool → List Bool → List Meter → List Candidate → List (Option Ends)
angle_branches buses components energised absolute meters candidates =
    map (λ (row : Meter). item_angle buses components energised absolute row.kind row.at) meters
    ++ map (λ (row : Candidate). item_angle buses components energised absolute row.kind row.at) candidates
