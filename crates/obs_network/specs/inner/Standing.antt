-- What is present in the graph of a case, and what items touch there, in the words of the tables.
use Rattle.std.specs.Prelude.{◌≡◌, ◌≢◌, ℕ, ◌<◌, Bool, true, Some, None, IsSome, List, ◌++◌, length, map, slice_get, slice_index, slice_index_or}
use Rattle.obs_graph.specs.declared.Ends.{Ends}
use Rattle.obs_graph.specs.Positions.{has_end}
use Rattle.obs_case.specs.declared.rows.Branch.{Branch}
use Rattle.obs_case.specs.declared.rows.Candidate.{Candidate}
use Rattle.obs_case.specs.declared.rows.Kind.{Kind}
use Rattle.obs_case.specs.declared.rows.Kind.TheVariants.{Flow, Injection, Zero, Angle}
use Rattle.obs_case.specs.declared.rows.Meter.{Meter}
use Rattle.obs_case.specs.declared.rows.Node.{Node}
use Rattle.obs_case.specs.Items.{angle_position}
use Rattle.obs_case.specs.Tables.{Tables}
use Rattle.obs_network.specs.Switched.{case_buses}
use Rattle.obs_network.specs.inner.Edited.{reference_vertex}
use Rattle.obs_network.specs.Network.{case_branches, case_components}
use Rattle.obs_network.specs.Observable.{is_absolute_component, is_energised_component}

-- what its table says of an item: its kind, the node or the branch at which it stands, and whether it counts
pub record ItemRow : Type 0 where
  pub kind : Kind
  pub at : ℕ
  pub counts : Bool

-- a meter counts where it is in service
abbrev pub meter_row : Meter → ItemRow
meter_row row = record { kind = row.kind; at = row.at; counts = row.inservice }

-- a candidate always counts
abbrev pub candidate_row : Candidate → ItemRow
candidate_row row = record { kind = row.kind; at = row.at; counts = true }

-- the items of a case: its meters and then its candidates
abbrev pub item_rows : Tables → List ItemRow
item_rows t = map meter_row t.meters ++ map candidate_row t.candidates

-- a component has a node that the flag marks
pub record HasMarkedNode (flag : Node → Bool) (t : Tables) (c : ℕ) : Type 0 where
  pub node : ℕ
  pub row : Node
  pub at : slice_get t.nodes node ≡ Some row
  pub marked : flag row ≡ true
  pub of_component : slice_index (case_components t) (slice_index (case_buses t) node) ≡ c

-- a row of the branch table is present with these ends: it is in service, the ends are the buses of its two nodes, these
-- differ, and their component is energised
pub record IsPresentRow (t : Tables) (e : ℕ) (ends : Ends) : Type 0 where
  pub row : Branch
  pub at : slice_get t.branches e ≡ Some row
  pub inservice : row.inservice ≡ true
  pub from : ends.a ≡ slice_index (case_buses t) row.from
  pub to : ends.b ≡ slice_index (case_buses t) row.to
  pub apart : ends.a ≢ ends.b
  pub energised : is_energised_component t (slice_index (case_components t) ends.a) ≡ true

-- the angle branch of an angle item is present with these ends: from the bus of the item's node to the reference vertex of
-- that bus's component, which is energised and absolute
pub record IsPresentAngle (t : Tables) (m : ℕ) (ends : Ends) : Type 0 where
  pub item : ItemRow
  pub row : slice_get (item_rows t) m ≡ Some item
  pub angle : item.kind ≡ Angle
  pub bus : ends.a ≡ slice_index (case_buses t) item.at
  pub reference : ends.b ≡ reference_vertex t ends.a
  pub energised : is_energised_component t (slice_index (case_components t) ends.a) ≡ true
  pub absolute : is_absolute_component t (slice_index (case_components t) ends.a) ≡ true

-- a row of the branch table is present and has an end at a bus
abbrev pub IsRowAt : Tables → ℕ → ℕ → Type 0
IsRowAt t bus e = (e < length t.branches) × (has_end bus (slice_index_or (case_branches t) e None) ≡ true)

-- an item of this number, kind and place stands at a branch: a flow at its own row, an injection or a zero at each row at
-- the bus of its node, and an angle at its angle branch
abbrev pub StandsAt : Tables → ℕ → Kind → ℕ → ℕ → Type 0
StandsAt t m Flow at e = e ≡ at
StandsAt t m Injection at e = IsRowAt t (slice_index (case_buses t) at) e
StandsAt t m Zero at e = IsRowAt t (slice_index (case_buses t) at) e
StandsAt t m Angle at e = e ≡ angle_position t m

-- an item touches a branch: the item counts, the branch is present, and the item stands at it
pub record Touches (t : Tables) (m e : ℕ) : Type 0 where
  pub item : ItemRow
  pub row : slice_get (item_rows t) m ≡ Some item
  pub counts : item.counts ≡ true
  pub present : IsSome (slice_index_or (case_branches t) e None)
  pub stands : StandsAt t m item.kind item.at e
