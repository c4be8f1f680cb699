-- What an edit of a flag does to the network of a case: `t` are the tables before it, and `after` those after it.
use Rattle.std.specs.Prelude.{ℕ, ◌≡◌, ◌≢◌, ◌↔◌, ◌<◌, All, IsSome, Bool, false, true, Option, Some, None, List, [], ◌∷◌, length, slice_index, slice_index_or, slice_set}
use Rattle.obs_graph.specs.declared.Ends.{Ends}
use Rattle.obs_graph.specs.inner.Joined.{AreMergedBy, renamed_one}
use Rattle.obs_case.specs.Flags.{with_branch_inservice, with_closed, with_meter_inservice}
use Rattle.obs_case.specs.Tables.{Tables}
use Rattle.obs_matroid.specs.Lists.{In}
use Rattle.obs_meter.specs.Touches.{touch_at}
use Rattle.obs_network.specs.Switched.{case_bus_count, case_buses}
use Rattle.obs_network.specs.Angles.{reference_of}
use Rattle.obs_network.specs.Network.{Components, Network, case_branches, case_components, case_vertex_count, network_of}
use Rattle.obs_network.specs.declared.rebuild.Known.{Known}
use Rattle.obs_network.specs.declared.rebuild.Known.TheVariants.{Nothing, TheBuses, ByCount}
use Rattle.obs_network.specs.inner.Parted.{AreJoinedWithout}

-- all these positions have present branches
abbrev pub ArePresent : List (Option Ends) → List ℕ → Type 0
ArePresent branches positions = All (λ p. IsSome (slice_index_or branches p None)) positions

-- a branch that is present before and after has as its ends after those before by their new names
abbrev pub AreRenamed : (ℕ → ℕ) → List (Option Ends) → List (Option Ends) → Type 0
AreRenamed name before after =
    (e : ℕ) (x y : Ends) → slice_index_or before e None ≡ Some x → slice_index_or after e None ≡ Some y → y ≡ renamed_one name x

-- the buses stay, and a branch that is present before and after keeps its ends
pub record AreKept (t after : Tables) : Type 0 where
  pub buses : case_buses after ≡ case_buses t
  pub count : case_bus_count after ≡ case_bus_count t
  pub ends : AreRenamed (λ b. b) (case_branches t) (case_branches after)

-- the vertices that the pairs of a list join become one, and no others: each node's bus has its new name after, and so
-- have the ends of branches
pub record AreMerged (t after : Tables) (merges : List Ends) : Type 0 where
  pub name : ℕ → ℕ
  pub merged : AreMergedBy (case_vertex_count t) (case_vertex_count after) merges name
  pub nodes : (u : ℕ) → u < length t.nodes → slice_index (case_buses after) u ≡ name (slice_index (case_buses t) u)
  pub ends : AreRenamed name (case_branches t) (case_branches after)

-- the reference vertex of a bus's component
abbrev pub reference_vertex : Tables → ℕ → ℕ
reference_vertex t bus = reference_of (case_components t) (slice_index (case_components t) bus)

-- the reference vertices of two buses' components, as a pair that becomes one
abbrev pub references : Tables → ℕ → ℕ → Ends
references t one other = record { a = reference_vertex t one; b = reference_vertex t other }

-- the buses stay, and the components of two buses become one, where they are two
pub record IsReferenceMerge (t after : Tables) : Type 0 where
  pub one : ℕ
  pub other : ℕ
  pub one_low : one < case_bus_count t
  pub other_low : other < case_bus_count t
  pub buses : case_buses after ≡ case_buses t
  pub merged : AreMerged t after (references t one other ∷ [])

-- two different buses become one, and so do their components, where they are two
pub record IsOneMerge (t after : Tables) : Type 0 where
  pub one : ℕ
  pub other : ℕ
  pub one_low : one < case_bus_count t
  pub other_low : other < case_bus_count t
  pub apart : one ≢ other
  pub merged : AreMerged t after (record { a = one; b = other } ∷ references t one other ∷ [])

-- a network is that of the tables before the flag of this meter was set
pub record IsBeforeMeter (n : Network) (m : ℕ) (after : Tables) : Type 0 where
  pub tables : Tables
  pub inservice : Bool
  pub network : n ≡ network_of tables
  pub edited : after ≡ with_meter_inservice tables m inservice

-- a network is that of the tables before the flag of this branch was set
pub record IsBeforeBranch (n : Network) (at : ℕ) (after : Tables) : Type 0 where
  pub tables : Tables
  pub inservice : Bool
  pub network : n ≡ network_of tables
  pub edited : after ≡ with_branch_inservice tables at inservice

-- a network is that of the tables before the flag of this switch was set
pub record IsBeforeSwitch (n : Network) (at : ℕ) (after : Tables) : Type 0 where
  pub tables : Tables
  pub closed : Bool
  pub network : n ≡ network_of tables
  pub edited : after ≡ with_closed tables at closed

-- what is known of a network before it is made that of a case: nothing, that its buses are those of the case, or that it is the
-- network of the case where this has as many buses
abbrev pub IsKnown : Known → Network → Tables → Type 0
IsKnown Nothing n t = Unit {0}
IsKnown TheBuses n t = n.buses ≡ (network_of t).buses
IsKnown ByCount n t = case_bus_count t ≡ n.buses.count → n ≡ network_of t

-- two networks are the same but for one branch: they have the same vertices, components and needed number, and at every other
-- position the same ends, which the same meters touch
pub record AreSameBut (at : ℕ) (one other : Network) : Type 0 where
  pub vertices : other.graph.vertices ≡ one.graph.vertices
  pub components : other.components ≡ one.components
  pub needed : other.needed ≡ one.needed
  pub ends : other.graph.ends ≡ slice_set one.graph.ends at (slice_index_or other.graph.ends at None)
  pub touched : (m e : ℕ) → e ≢ at → In e (touch_at one.graph.ends one.meters.touches m) ↔ In e (touch_at other.graph.ends other.meters.touches m)

-- a branch comes or goes alone: the buses that it joins now lie in one energised component already, or the other rows join the ends
-- that it had
abbrev pub ChangesAlone : Components → List (Option Ends) → ℕ → Option Ends → Type 0
ChangesAlone components rows at None = IsSome (slice_index_or rows at None) × AreJoinedWithout rows at
ChangesAlone components rows at (Some x) =
    (slice_index components.of_buses x.a ≡ slice_index components.of_buses x.b)
    × (slice_index_or components.energised (slice_index components.of_buses x.a) false ≡ true)
