-- What a case's network is made of is in range.
use Rattle.std.proofs.Common.{◌≡◌, ◌≢◌, ℕ, suc, ◌+◌, ◌<◌, ◌≤◌, Bool, true, false, not, eqb, Option, Some, None, List, [], ◌∷◌, length, map, get_or, refl, ap, ◌∙◌, arith, inl, inr, length-append}
use Rattle.std.specs.Prelude.{All, IfSome, if◌then◌else◌, slice_index, slice_index_or}
use Rattle.std.proofs.lemmas.Bool.{cases_Bool, and_parts, eq-eqb}
use Rattle.std.proofs.lemmas.List.{length-map}
use Rattle.std.proofs.lemmas.List.Elements.{All-append, All-cons, All-head, All-map, All-nil, All-tail}
use Rattle.std.proofs.lemmas.List.FromFn.{length-map-range_with_len}
use Rattle.obs_graph.specs.declared.Ends.{Ends}
use Rattle.obs_graph.specs.Positions.{AreBranches, present}
use Rattle.obs_switch.specs.Buses.{bus_of}
use Rattle.obs_switch.specs.inner.Buses.{LinksBelow}
use Rattle.obs_switch.proofs.FirstNodes.{buses_of-at, bus_of-below, bus_count-le}
use Rattle.obs_case.specs.declared.rows.Branch.{Branch}
use Rattle.obs_case.specs.declared.rows.Candidate.{Candidate}
use Rattle.obs_case.specs.declared.rows.Kind.{Kind}
use Rattle.obs_case.specs.declared.rows.Kind.TheVariants.{Flow, Injection, Zero, Angle}
use Rattle.obs_case.specs.declared.rows.Meter.{Meter}
use Rattle.obs_case.specs.declared.rows.Switch.{Switch}
use Rattle.obs_case.specs.Tables.{Tables, IsValid, places, most_rows}
use Rattle.obs_network.specs.Switched.{case_bus_count, case_buses, closed_links}
use Rattle.obs_network.specs.Live.{is_live_branch, live_ends}
use Rattle.obs_network.specs.Components.{component_of, if_energised, need_of}
use Rattle.obs_network.specs.Angles.{angle_branches, bus_angle, has_angle, item_angle, takes_angles}
use Rattle.obs_network.specs.Touching.{candidate_touches, meter_touches}
use Rattle.obs_network.proofs.Marked.{length-first_buses_of}
use Rattle.obs_network.proofs.Numbered.{component_count-le, component_of-below, components_of-at}
use Rattle.obs_network.specs.Network.{Network, case_absolute, case_angles, case_branches, case_component_count, case_components, case_energised, case_first_buses, case_item_count, case_live, case_meters, case_need, case_offered, case_position_room, case_rows, case_vertex_count, case_vertex_room, network_of}
use Rattle.obs_network.specs.inner.Network.{case_position_count}

-- closed switches join nodes of the case
closed-below : (n : ℕ) (switches : List Switch) → All (λ row. (row.from < n) × (row.to < n)) switches → LinksBelow n (closed_links switches)
closed-below n [] a = λ k d l. absurd (omega (arith, l))
closed-below n (s ∷ switches) a =
    let rest = closed-below n switches (All-tail (λ row. (row.from < n) × (row.to < n)) s switches a) in
    elim (cases_Bool s.closed) [
      | inl e ↦ rw e (All-cons (λ l. (l.from < n) × (l.to < n)) (record { from = s.from; to = s.to }) (closed_links switches) (All-head (λ row. (row.from < n) × (row.to < n)) s switches a) rest)
      | inr e ↦ rw e rest
    ]

pub case_links-below : (t : Tables) → IsValid t → LinksBelow (length t.nodes) (closed_links t.switches)
case_links-below t v = closed-below (length t.nodes) t.switches v.switch_ends

pub length-case_buses : (t : Tables) → length (case_buses t) ≡ length t.nodes
length-case_buses t = length-map-range_with_len (bus_of (closed_links t.switches)) 0 (length t.nodes)

pub case_bus-below : (t : Tables) (u : ℕ) → u < length t.nodes → get_or (case_buses t) u 0 < case_bus_count t
case_bus-below t u l = omega (arith, buses_of-at (length t.nodes) (closed_links t.switches) u l, bus_of-below (length t.nodes) (closed_links t.switches) u l)

pub case_bus_count-le : (t : Tables) → case_bus_count t ≤ length t.nodes
case_bus_count-le t = bus_count-le (length t.nodes) (closed_links t.switches)

-- a present branch has two different ends below n
abbrev pub IsBranch : ℕ → Option Ends → Type 0
IsBranch n o = IfSome o (λ e. (e.a < n) × (e.b < n) × (e.a ≢ e.b))

live_branch : (n count : ℕ) (buses : List ℕ) → ((u : ℕ) → u < n → get_or buses u 0 < count) → (row : Branch) → row.from < n → row.to < n → IsBranch count (live_ends buses row)
live_branch n count buses below row f g =
    elim (cases_Bool (is_live_branch buses row)) [
      | inl e ↦ let p = and_parts row.inservice (not (eqb (get_or buses row.from 0) (get_or buses row.to 0))) e in
          rw e (below row.from f, below row.to g, λ same. clash_not (eqb (get_or buses row.from 0) (get_or buses row.to 0)) (eq-eqb (get_or buses row.from 0) (get_or buses row.to 0) same) p.1)
      | inr e ↦ rw e tt
    ]
  where
    clash_not : (b : Bool) → b ≡ true → not b ≡ true → ⊥
    clash_not true e f = cc f
    clash_not false e f = cc e

pub case_live-branches : (t : Tables) → IsValid t → AreBranches (case_bus_count t) (case_live t)
unfolding case_live
case_live-branches t v =
    All-map (IsBranch (case_bus_count t)) (live_ends (case_buses t)) t.branches
    (λ k d l. let ends = v.branch_ends k d l in live_branch (length t.nodes) (case_bus_count t) (case_buses t) (case_bus-below t) (get_or t.branches k d) ends.0 ends.1)

pub length-case_live : (t : Tables) → length (case_live t) ≡ length t.branches
unfolding case_live
length-case_live t = length-map t.branches (live_ends (case_buses t))

one_end : (n : ℕ) (o : Option Ends) → IsBranch n o → IfSome o (λ e. e.a < n)
one_end n None b = tt
one_end n (Some e) b = b.0

pub length-case_components : (t : Tables) → length (case_components t) ≡ case_bus_count t
unfolding case_components
length-case_components t = length-map-range_with_len (component_of (present (case_live t))) 0 (case_bus_count t)

-- the first end of a live branch is a bus, which has a component
pub case_live-ends : (t : Tables) → IsValid t → All (λ o. IfSome o (λ e. e.a < length (case_components t))) (case_live t)
case_live-ends t v = λ k d l. rw (length-case_components t) (one_end (case_bus_count t) (get_or (case_live t) k d) (case_live-branches t v k d l))

kept_branch : (n : ℕ) (components : List ℕ) (energised : List Bool) (o : Option Ends) → IsBranch n o → IsBranch n (if_energised components energised o)
kept_branch n components energised None b = tt
kept_branch n components energised (Some e) b =
    elim (cases_Bool (slice_index_or energised (slice_index components e.a) false)) [ inl t ↦ rw t b | inr t ↦ rw t tt ]

-- a branch that fits a number of vertices fits more of them
pub more_vertices : (n m : ℕ) (o : Option Ends) → n ≤ m → IsBranch n o → IsBranch m o
more_vertices n m None l b = tt
more_vertices n m (Some e) l b = (omega (arith, b.0, l), omega (arith, b.1, l), b.2)

pub case_rows-are : (t : Tables) → IsValid t → AreBranches (case_bus_count t) (case_rows t)
unfolding case_rows
case_rows-are t v =
    let live = case_live-branches t v in
    All-map (IsBranch (case_bus_count t)) (if_energised (case_components t) (case_energised t)) (case_live t)
    (λ k d l. kept_branch (case_bus_count t) (case_components t) (case_energised t) (get_or (case_live t) k d) (live k d l))

pub length-case_rows : (t : Tables) → length (case_rows t) ≡ length t.branches
unfolding case_rows
length-case_rows t = length-map (case_live t) (if_energised (case_components t) (case_energised t)) ∙ length-case_live t

-- each component has a first bus
pub length-case_first_buses : (t : Tables) → length (case_first_buses t) ≡ case_component_count t
unfolding case_first_buses case_component_count
length-case_first_buses t = length-first_buses_of (case_bus_count t) (present (case_live t))

-- and there are no more of them than buses
pub case_component_count-le : (t : Tables) → case_component_count t ≤ case_bus_count t
unfolding case_component_count
case_component_count-le t = component_count-le (case_bus_count t) (present (case_live t))

-- the component of a bus is one of them
pub case_component-below : (t : Tables) (b : ℕ) → b < case_bus_count t → get_or (case_components t) b 0 < case_component_count t
unfolding case_components case_component_count
case_component-below t b l =
    let live = present (case_live t) in
    omega (arith, components_of-at (case_bus_count t) live b l, component_of-below (case_bus_count t) live b l)

-- whichever switches are closed, there is room for the vertices
pub case_vertex_count-le : (t : Tables) → case_vertex_count t ≤ case_vertex_room t
case_vertex_count-le t = omega (arith, case_bus_count-le t, case_component_count-le t)

-- an angle branch leads from a bus to the reference vertex of its component
angle-branch : (t : Tables) (bus : ℕ) → bus < case_bus_count t → IsBranch (case_vertex_count t) (bus_angle (case_components t) (case_energised t) (case_absolute t) bus)
angle-branch t bus l =
    let c = get_or (case_components t) bus 0 in
    let few = case_component-below t bus l in
    let all = length-case_components t in
    elim (cases_Bool (takes_angles (case_energised t) (case_absolute t) c)) [
      | inl e ↦ rw e (omega (arith, l), omega (arith, few, all), λ (same : bus ≡ length (case_components t) + c). omega (arith, same, l, all))
      | inr e ↦ rw e tt
    ]

angle_of_kind : (t : Tables) (kind : Kind) (at : ℕ) → at < places t kind
    → IsBranch (case_vertex_count t) (item_angle (case_buses t) (case_components t) (case_energised t) (case_absolute t) kind at)
angle_of_kind t Flow at l = tt
angle_of_kind t Injection at l = tt
angle_of_kind t Zero at l = tt
angle_of_kind t Angle at l = angle-branch t (get_or (case_buses t) at 0) (case_bus-below t at l)

all_angles : (t : Tables) → IsValid t
    → AreBranches (case_vertex_count t) (angle_branches (case_buses t) (case_components t) (case_energised t) (case_absolute t) t.meters t.candidates)
all_angles t v =
    let of : Kind → ℕ → Option Ends = item_angle (case_buses t) (case_components t) (case_energised t) (case_absolute t) in
    let is : Option Ends → Type 0 = IsBranch (case_vertex_count t) in
    All-append is (map (λ (row : Meter). of row.kind row.at) t.meters) (map (λ (row : Candidate). of row.kind row.at) t.candidates)
    (All-map is (λ (row : Meter). of row.kind row.at) t.meters (λ k d l. angle_of_kind t (get_or t.meters k d).kind (get_or t.meters k d).at (v.meter_places k d l)))
    (All-map is (λ (row : Candidate). of row.kind row.at) t.candidates (λ k d l. angle_of_kind t (get_or t.candidates k d).kind (get_or t.candidates k d).at (v.candidate_places k d l)))

pub case_angles-are : (t : Tables) → IsValid t → AreBranches (case_vertex_count t) (case_angles t)
unfolding case_angles
case_angles-are t v =
    elim (cases_Bool (has_angle t)) [ inl e ↦ rw e (all_angles t v) | inr e ↦ rw e (All-nil (IsBranch (case_vertex_count t))) ]

pub length-case_angles : (t : Tables) → length (case_angles t) ≡ (if has_angle t then case_item_count t else 0)
unfolding case_angles
length-case_angles t =
    let of : Kind → ℕ → Option Ends = item_angle (case_buses t) (case_components t) (case_energised t) (case_absolute t) in
    let meters = length-map t.meters (λ (row : Meter). of row.kind row.at) in
    let candidates = length-map t.candidates (λ (row : Candidate). of row.kind row.at) in
    let both = length-append (map (λ (row : Meter). of row.kind row.at) t.meters) (map (λ (row : Candidate). of row.kind row.at) t.candidates) in
    elim (cases_Bool (has_angle t)) [ inl e ↦ rw e (omega (arith, meters, candidates, both)) | inr e ↦ rw e refl ]

pub case_branches-are : (t : Tables) → IsValid t → AreBranches (case_vertex_count t) (case_branches t)
unfolding case_branches
case_branches-are t v =
    let rows = case_rows-are t v in
    All-append (IsBranch (case_vertex_count t)) (case_rows t) (case_angles t)
    (λ k d l. more_vertices (case_bus_count t) (case_vertex_count t) (get_or (case_rows t) k d) (omega arith) (rows k d l))
    (case_angles-are t v)

pub length-case_branches : (t : Tables) → length (case_branches t) ≡ case_position_count t
unfolding case_branches
length-case_branches t = omega (arith, length-append (case_rows t) (case_angles t), length-case_rows t, length-case_angles t)

pub case_position_count-le : (t : Tables) → case_position_count t ≤ case_position_room t
case_position_count-le t = elim (cases_Bool (has_angle t)) [ inl e ↦ rw e (omega arith) | inr e ↦ rw e (omega arith) ]

-- what is no flow stands at a node
at_node : (t : Tables) (kind : Kind) (at : ℕ) → at < places t kind → kind ≢ Flow → at < length t.nodes
at_node t Flow at l other = absurd (other refl)
at_node t Injection at l other = l
at_node t Zero at l other = l
at_node t Angle at l other = l

pub meters-at_nodes : (t : Tables) → IsValid t → All (λ row. row.kind ≢ Flow → row.at < length t.nodes) t.meters
meters-at_nodes t v = λ k d l. at_node t (get_or t.meters k d).kind (get_or t.meters k d).at (v.meter_places k d l)

pub candidates-at_nodes : (t : Tables) → IsValid t → All (λ row. row.kind ≢ Flow → row.at < length t.nodes) t.candidates
candidates-at_nodes t v = λ k d l. at_node t (get_or t.candidates k d).kind (get_or t.candidates k d).at (v.candidate_places k d l)

-- a table has no more rows than the limit of its case, and so no more than a case may have
pub nodes_in_limit : (t : Tables) → IsValid t → length t.nodes ≤ t.most
nodes_in_limit t v = let few = v.nodes.few in omega (arith, few, length-map t.nodes (λ row. row.name))

pub meters_in_limit : (t : Tables) → IsValid t → length t.meters ≤ t.most
meters_in_limit t v = let few = v.meters.few in omega (arith, few, length-map t.meters (λ row. row.name))

pub candidates_in_limit : (t : Tables) → IsValid t → length t.candidates ≤ t.most
candidates_in_limit t v = let few = v.candidates.few in omega (arith, few, length-map t.candidates (λ row. row.name))

pub few_nodes : (t : Tables) → IsValid t → length t.nodes ≤ most_rows
few_nodes t v = let limit = v.limit in omega (arith, nodes_in_limit t v, limit)

pub length-meter_touches : (rows : List (Option Ends)) (buses : List ℕ) (m : ℕ) (meters : List Meter) → length (meter_touches rows buses m meters) ≡ length meters
length-meter_touches rows buses m [] = refl
length-meter_touches rows buses m (row ∷ meters) = ap suc (length-meter_touches rows buses (suc m) meters)

pub length-candidate_touches : (rows : List (Option Ends)) (buses : List ℕ) (m : ℕ) (candidates : List Candidate) → length (candidate_touches rows buses m candidates) ≡ length candidates
length-candidate_touches rows buses m [] = refl
length-candidate_touches rows buses m (row ∷ candidates) = ap suc (length-candidate_touches rows buses (suc m) candidates)

pub length-case_meters : (t : Tables) → length (case_meters t) ≡ length t.meters
unfolding case_meters
length-case_meters t = length-meter_touches (case_rows t) (case_buses t) 0 t.meters

pub length-case_offered : (t : Tables) → length (case_offered t) ≡ case_item_count t
unfolding case_offered
length-case_offered t =
    let meters = length-meter_touches (case_rows t) (case_buses t) 0 t.meters in
    let candidates = length-candidate_touches (case_rows t) (case_buses t) (length t.meters) t.candidates in
    length-append (meter_touches (case_rows t) (case_buses t) 0 t.meters) (candidate_touches (case_rows t) (case_buses t) (length t.meters) t.candidates)
    ∙ omega (arith, meters, candidates)

pub few_switches : (t : Tables) → IsValid t → length t.switches ≤ most_rows
few_switches t v =
    let few = v.switches.few in
    let limit = v.limit in
    omega (arith, few, limit, length-map t.switches (λ row. row.name))

pub few_branches : (t : Tables) → IsValid t → length t.branches ≤ most_rows
few_branches t v =
    let few = v.branches.few in
    let limit = v.limit in
    omega (arith, few, limit, length-map t.branches (λ row. row.name))

pub few_candidates : (t : Tables) → IsValid t → length t.candidates ≤ most_rows
few_candidates t v = let limit = v.limit in omega (arith, candidates_in_limit t v, limit)

pub few_meters : (t : Tables) → IsValid t → length t.meters ≤ most_rows
few_meters t v = let limit = v.limit in omega (arith, meters_in_limit t v, limit)

-- a network that is that of a case has as many components
pub count_of : (n : Network) (t : Tables) → n ≡ network_of t → length n.components.first_buses ≡ case_component_count t
count_of n t same = ap (λ (x : Network). length x.components.first_buses) same ∙ length-case_first_buses t

pub need_from : (n : Network) (t : Tables) (c : ℕ) → n ≡ network_of t → need_of n.components.sizes n.components.absolute c ≡ case_need t c
need_from n t c same = ap (λ (x : Network). need_of x.components.sizes x.components.absolute c) same
