-- Buses that become one, and with them the reference vertices of their components.
use Rattle.std.proofs.Common.{◌≡◌, ℕ, ◌+◌, ◌<◌, List, [], ◌∷◌, ◌++◌, length, get_or, sym, ap, ◌∙◌, subst, arith}
use Rattle.obs_graph.specs.declared.Ends.{Ends}
use Rattle.obs_graph.specs.inner.Joined.{AreMergedBy, beside, renamed_one}
use Rattle.obs_graph.specs.Positions.{present}
use Rattle.obs_graph.proofs.MergedBy.{beside-low, beside-shifted, merged_beside, merged_by-nothing}
use Rattle.obs_case.specs.Tables.{Tables, IsValid}
use Rattle.obs_network.specs.Switched.{case_bus_count, case_buses}
use Rattle.obs_network.specs.Components.{component_count, component_of, components_of}
use Rattle.obs_network.specs.Network.{case_component_count, case_components, case_live, case_vertex_count}
use Rattle.obs_network.specs.inner.Edited.{AreKept, AreMerged, reference_vertex, references}
use Rattle.obs_network.proofs.MergedComponents.{JoinsWith, component_under, component_under-of, merged_components}
use Rattle.obs_network.proofs.OfCase.{case_bus-below, length-case_components}
use Rattle.obs_network.proofs.OfLaws.{case_component-at}
use Rattle.obs_network.proofs.RenamedEnds.{angle_ends, ends_renamed, froms, tos, two_ends}
use Rattle.obs_network.proofs.Vertices.{item_sites}

-- where the buses and the live branches stay, the components do
components_stay : (t after : Tables) → case_bus_count after ≡ case_bus_count t → case_live after ≡ case_live t
    → (case_components after ≡ case_components t) × (case_component_count after ≡ case_component_count t)
unfolding case_components case_component_count
components_stay t after count live =
    let same_live : present (case_live after) ≡ present (case_live t) = ap present live in (
      ap (λ n. components_of n (present (case_live after))) count ∙ ap (components_of (case_bus_count t)) same_live,
      ap (λ n. component_count n (present (case_live after))) count ∙ ap (component_count (case_bus_count t)) same_live,
    )

-- where the buses stay and there are as many components, no vertices become one
pub merged_kept : (t after : Tables) → AreKept t after → case_component_count after ≡ case_component_count t → AreMerged t after []
merged_kept t after kept components = record {
  name = λ v. v;
  merged = subst (λ m. AreMergedBy (case_vertex_count t) m [] (λ v. v)) (omega (arith, kept.count, components)) (merged_by-nothing (case_vertex_count t));
  nodes = λ u l. ap (λ buses. get_or buses u 0) kept.buses;
  ends = kept.ends;
}

-- where the buses and the live branches stay, so do the ends of branches, and no vertices become one
pub kept_by_live : (t after : Tables) → IsValid t → IsValid after → froms after ≡ froms t → tos after ≡ tos t → item_sites after ≡ item_sites t
    → case_buses after ≡ case_buses t → case_bus_count after ≡ case_bus_count t → case_live after ≡ case_live t → AreKept t after × AreMerged t after []
kept_by_live t after v w from to sites buses count live =
    let stay = components_stay t after count live in
    let kept : AreKept t after = record {
      buses = buses;
      count = count;
      ends = ends_renamed t after (λ b. b) v w from to sites (λ u l. same_ends (case_buses t) (case_buses after) (case_components t) (case_components after) u buses stay.0);
    } in
    (kept, merged_kept t after kept stay.1)
  where
    of : List ℕ → List ℕ → ℕ → Ends
    of buses components u = record { a = get_or buses u 0; b = length components + get_or components (get_or buses u 0) 0 }

    same_ends : (b b' c c' : List ℕ) (u : ℕ) → b' ≡ b → c' ≡ c → of b' c' u ≡ of b c u
    same_ends b b' c c' u e f = ap (λ x. of x c' u) e ∙ ap (λ x. of b x u) f

-- the reference vertex of a bus's component, by number
reference_is : (t : Tables) (b : ℕ) → b < case_bus_count t → reference_vertex t b ≡ case_bus_count t + component_of (present (case_live t)) b
reference_is t b l = omega (arith, length-case_components t, case_component-at t b l)

-- buses become one as the pairs of a list join them, and the live branches after join what those before join with one branch more:
-- then the reference vertices of that branch's ends become one too
module _ (t after : Tables) (v : IsValid t) (w : IsValid after) (one other : ℕ) (one_low : one < case_bus_count t) (other_low : other < case_bus_count t) (merges : List Ends) (h : ℕ → ℕ)
    (buses : AreMergedBy (case_bus_count t) (case_bus_count after) merges h)
    (nodes : (u : ℕ) → u < length t.nodes → get_or (case_buses after) u 0 ≡ h (get_or (case_buses t) u 0))
    (joins : JoinsWith (case_bus_count t) (present (case_live t)) (present (case_live after)) h (record { a = one; b = other })) where
  abbrev before : List Ends
  before = present (case_live t)

  abbrev behind : List Ends
  behind = present (case_live after)

  abbrev link : Ends
  link = record { a = one; b = other }

  -- the new numbers of components
  abbrev g : ℕ → ℕ
  g = component_under (case_bus_count t) before behind h

  -- and of vertices
  abbrev name : ℕ → ℕ
  name = beside (case_bus_count t) (case_bus_count after) h g

  abbrev pair : Ends
  pair = record { a = component_of before one; b = component_of before other }

  pairs_are : references t one other ≡ renamed_one (λ x. case_bus_count t + x) pair
  pairs_are = two_ends (references t one other) (renamed_one (λ x. case_bus_count t + x) pair) (reference_is t one one_low) (reference_is t other other_low)

  vertices : AreMergedBy (case_vertex_count t) (case_vertex_count after) (merges ++ references t one other ∷ []) name
  unfolding case_component_count
  vertices =
      let n = case_bus_count t in
      let m = case_bus_count after in
      let components = merged_components n m before behind h link one_low other_low buses.into joins in
      subst (λ x. AreMergedBy (case_vertex_count t) (case_vertex_count after) (merges ++ x ∷ []) name) (sym pairs_are)
      (merged_beside n m (case_component_count t) (case_component_count after) merges (pair ∷ []) h g buses components)

  bus_named : (b : ℕ) → b < case_bus_count t → name b ≡ h b
  bus_named b l = beside-low (case_bus_count t) (case_bus_count after) h g b l

  reference_named : (b : ℕ) → b < case_bus_count t → reference_vertex after (h b) ≡ name (reference_vertex t b)
  reference_named b l =
      let n = case_bus_count t in
      let m = case_bus_count after in
      let same : g (component_of before b) ≡ component_of behind (h b) = component_under-of n m before behind h link one_low other_low buses.into joins b l in
      reference_is after (h b) (buses.into b l)
      ∙ ap (λ c. m + c) (sym same)
      ∙ sym (beside-shifted n m h g (component_of before b))
      ∙ ap name (sym (reference_is t b l))

  angles_named : (u : ℕ) → u < length t.nodes → angle_ends after u ≡ renamed_one name (angle_ends t u)
  angles_named u l =
      let bus = get_or (case_buses t) u 0 in
      let low = case_bus-below t u l in
      two_ends (angle_ends after u) (renamed_one name (angle_ends t u))
      (nodes u l ∙ sym (bus_named bus low))
      (ap (reference_vertex after) (nodes u l) ∙ reference_named bus low)

  pub merged_vertices : froms after ≡ froms t → tos after ≡ tos t → item_sites after ≡ item_sites t → AreMerged t after (merges ++ references t one other ∷ [])
  merged_vertices from to sites = record {
    name = name;
    merged = vertices;
    nodes = λ u l. nodes u l ∙ sym (bus_named (get_or (case_buses t) u 0) (case_bus-below t u l));
    ends = ends_renamed t after name v w from to sites angles_named;
  }
