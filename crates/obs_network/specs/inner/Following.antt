-- What items touch where one row of the graph changed: `before` are the ends that it had, and `after` those that it has.
use Rattle.std.specs.Prelude.{ℕ, ◌≡◌, ◌+◌, ◌<◌, ◌≤◌, ◌==◌, ◌||◌, Bool, false, if◌then◌else◌, Option, IfSome, List, length, map, slice_index, slice_index_or, take}
use Rattle.obs_graph.specs.declared.Ends.{Ends}
use Rattle.obs_graph.specs.Graph.{Graph}
use Rattle.obs_graph.specs.Positions.{has_end}
use Rattle.obs_meter.specs.declared.Touch.{Touch}
use Rattle.obs_meter.specs.declared.Touch.TheVariants.{Nothing, Edge, Star, Front}
use Rattle.obs_meter.specs.Held.{Meters}
use Rattle.obs_meter.specs.inner.Touches.{AreInRange}
use Rattle.obs_network.specs.Touching.{rows_at}
use Rattle.obs_network.specs.Network.{Components}
use Rattle.obs_network.specs.inner.Kept.{Listed, lists_of}
use Rattle.obs_network.specs.declared.following.Change.{Change}

-- whether a vertex was an end of the row, or is one
abbrev pub is_end : Option Ends → Option Ends → ℕ → Bool
is_end before after v = has_end v before || has_end v after

-- what is touched now, where this was touched: at a bus that was an end or is one, the rows that are there now
abbrev pub followed : List (Option Ends) → Option Ends → Option Ends → Touch → Touch
followed rows before after Nothing = Nothing
followed rows before after (Edge e) = Edge e
followed rows before after (Star v) = Star v
followed rows before after (Front v count) = if is_end before after v then rows_at rows v else Front v count

-- whether this is the row by its position
abbrev pub is_row : ℕ → Touch → Bool
is_row at Nothing = false
is_row at (Edge e) = e == at
is_row at (Star v) = false
is_row at (Front v count) = false

-- whether what is touched so may be the row: it by its position, or branches at one of those ends
abbrev pub is_near : ℕ → Option Ends → Option Ends → Touch → Bool
is_near at before after Nothing = false
is_near at before after (Edge e) = e == at
is_near at before after (Star v) = is_end before after v
is_near at before after (Front v count) = is_end before after v

-- the items touch what they do now
abbrev pub followed_items : List (Option Ends) → Change → Meters → Meters
followed_items rows change items = record items { touches = map (followed rows change.before change.after) items.touches }

-- each meter that touches nothing near the row stands in the list of what it touches
abbrev pub AreListedFar : List (Option Ends) → Change → Components → Graph → Meters → List ℕ → Type 0
AreListedFar rows change components graph meters lists =
    (m : ℕ) → m < length lists → is_near change.at change.before change.after (slice_index_or meters.touches m Nothing) ≡ false
    → slice_index lists m ≡ slice_index (lists_of components graph (followed_items rows change meters)) m

-- the items from `first` on and below `end` follow, and the others touch what they did
pub record AreFollowed (follow : Touch → Touch) (before after : Meters) (first end : ℕ) : Type 0 where
  pub most : after.most ≡ before.most
  pub len : length after.touches ≡ length before.touches
  pub below : (k : ℕ) → k < first → slice_index_or after.touches k Nothing ≡ slice_index_or before.touches k Nothing
  pub done : (k : ℕ) → first ≤ k → k < end → slice_index_or after.touches k Nothing ≡ follow (slice_index_or before.touches k Nothing)
  pub rest : (k : ℕ) → end ≤ k → slice_index_or after.touches k Nothing ≡ slice_index_or before.touches k Nothing

-- the rows are among the branches of the graph, and the ends that the row had and has are vertices
pub record IsChangeIn (graph : Graph) (rows : ℕ) (change : Change) : Type 0 where
  pub low : rows ≤ length graph.ends
  pub before : IfSome change.before (λ x. (x.a < graph.vertices) × (x.b < graph.vertices))
  pub after : IfSome change.after (λ x. (x.a < graph.vertices) × (x.b < graph.vertices))

-- what is followed where a row changed: meters, these with candidates behind them, and lists of all meters but those near the row
pub record CanFollow (components : Components) (graph : Graph) (rows : ℕ) (change : Change) (meters items : Meters) (listed : Listed) : Type 0 where
  pub vertices : graph.vertices ≡ length components.of_buses + length components.first_buses
  pub row : IsChangeIn graph rows change
  pub in_range : AreInRange graph (followed_items (take rows graph.ends) change meters).touches
  pub first : take (length meters.touches) items.touches ≡ meters.touches
  pub count : listed.components ≡ length components.first_buses
  pub one_each : length listed.lists ≡ length meters.touches
  pub far : AreListedFar (take rows graph.ends) change components graph meters listed.lists

-- the lists are of as many components, and the room is the same
pub record AreOfAsMany (before after : Listed) : Type 0 where
  pub components : after.components ≡ before.components
  pub most_meters : after.most_meters ≡ before.most_meters
  pub most_components : after.most_components ≡ before.most_components
