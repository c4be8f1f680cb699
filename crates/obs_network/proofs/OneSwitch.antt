-- A switch that is opened or closed: the network stays where its nodes are one bus without it, and so where there are as many buses.
use Rattle.std.proofs.Common.{◌⊎◌, inl, inr, ◌≡◌, ℕ, zero, suc, ◌+◌, ◌<◌, Bool, true, false, not, List, [], ◌∷◌, ◌++◌, length, get_or, refl, sym, ap, ◌∙◌, subst, arith}
use Rattle.std.specs.Prelude.{if◌then◌else◌}
use Rattle.std.proofs.lemmas.Bool.{cases_Bool, cases_eq, true≢false}
use Rattle.std.proofs.lemmas.List.{map-append}
use Rattle.obs_graph.specs.Joined.{count_below, rank}
use Rattle.obs_graph.specs.Positions.{present}
use Rattle.obs_graph.proofs.Counts.{count_below-no, count_below-yes}
use Rattle.obs_graph.proofs.Forests.{among_back, among_front, rank-among}
use Rattle.obs_graph.proofs.Ranks.{is_moved, rank-add_new, rank_is}
use Rattle.obs_switch.specs.declared.link.Link.{Link}
use Rattle.obs_switch.specs.Buses.{bus_count, buses_of, ends_of_link, ends_of_links, first_node, is_first_node}
use Rattle.obs_switch.proofs.FirstNodes.{buses_of-at, same_first-from_same_bus}
use Rattle.obs_case.specs.declared.rows.Switch.{Switch}
use Rattle.obs_case.specs.Flags.{with_closed}
use Rattle.obs_case.specs.Tables.{IsValid, Tables}
use Rattle.obs_case.proofs.ValidLemmas.{valid-with_closed}
use Rattle.obs_network.specs.Switched.{case_bus_count, case_buses}
use Rattle.obs_network.specs.Network.{Network, Rows, case_absolute, case_angles, case_branches, case_component_count, case_components, case_energised, case_first_buses, case_item_count, case_live, case_meters, case_needed, case_offered, case_position_room, case_rows, case_sizes, case_vertex_room, network_of, rows_of}
use Rattle.obs_network.specs.Live.{live_branches}
use Rattle.obs_network.specs.Components.{absolute_of, component_count, components_of, energised_branches, energised_of, first_buses_of, needed_of, sizes_of}
use Rattle.obs_network.specs.Angles.{angle_branches, has_angle}
use Rattle.obs_network.specs.Touching.{meter_touches, offered_touches}
use Rattle.obs_network.specs.inner.Edited.{IsBeforeSwitch}
use Rattle.obs_network.proofs.Edited.{OneMore, as_it_is, link_at, links_of, one_more, same_buses, same_count}
use Rattle.obs_network.proofs.OfCase.{length-case_buses}
use Rattle.obs_network.proofs.OfLaws.{changed_at-twice, item-changed_at, length-changed_at, rows-with_closed}

-- each number passes a test or fails it
count_both : (p : ℕ → Bool) (n : ℕ) → count_below p n + count_below (λ k. not (p k)) n ≡ n
count_both p zero = refl
count_both p (suc n) =
    let before = count_both p n in
    elim (cases_Bool (p n)) [
      | inl t ↦ omega (arith, before, count_below-yes p n t, count_below-no (λ k. not (p k)) n (ap not t))
      | inr f ↦ omega (arith, before, count_below-no p n f, count_below-yes (λ k. not (p k)) n (ap not f))
    ]

-- a bus for each node that isn't joined with a lower one
buses_and_rank : (n : ℕ) (links : List Link) → bus_count n links + rank n (ends_of_links links) ≡ n
buses_and_rank n links =
    let both : bus_count n links + count_below (is_moved (ends_of_links links)) n ≡ n = count_both (is_first_node links) n in
    omega (arith, both, rank_is n (ends_of_links links))

-- a link between two buses makes one bus fewer
module _ (n : ℕ) (o c xs : List Link) (l : Link) (ys : List Link) (from : l.from < n) (to : l.to < n) (without : o ≡ xs ++ ys) (with_it : c ≡ xs ++ l ∷ ys) where
  fewer_buses : (first_node o l.from ≡ first_node o l.to → ⊥) → suc (bus_count n c) ≡ bus_count n o
  fewer_buses apart =
      let e = ends_of_link l in
      let fs = ends_of_links xs in
      let gs = ends_of_links ys in
      let at_o : ends_of_links o ≡ fs ++ gs = ap ends_of_links without ∙ map-append ends_of_link xs ys in
      let at_c : ends_of_links c ≡ fs ++ e ∷ gs = ap ends_of_links with_it ∙ map-append ends_of_link xs (l ∷ ys) in
      let more : rank n (e ∷ (fs ++ gs)) ≡ suc (rank n (fs ++ gs)) = rank-add_new n e (fs ++ gs) from to (rw at_o at apart) in
      let front = rank-among n (fs ++ e ∷ gs) (e ∷ (fs ++ gs)) (among_front fs e gs) in
      let back = rank-among n (e ∷ (fs ++ gs)) (fs ++ e ∷ gs) (among_back fs e gs) in
      omega (arith, more, front, back, ap (rank n) at_o, ap (rank n) at_c, buses_and_rank n o, buses_and_rank n c)

-- the network of tables, as it follows from their buses
abbrev of_buses : Tables → List ℕ → ℕ → Network
of_buses t buses count =
    let live = live_branches buses t.branches in
    let pairs = present live in
    let components = components_of count pairs in
    let many = component_count count pairs in
    let sizes = sizes_of many components in
    let energised = energised_of many components buses t.nodes in
    let absolute = absolute_of many components buses t.nodes in
    let rows = energised_branches components energised live in
    let angles = if has_angle t then angle_branches buses components energised absolute t.meters t.candidates else [] in
    record {
      rows = rows_of t;
      buses = record { buses = buses; count = count; most_nodes = length t.nodes };
      components = record { of_buses = components; first_buses = first_buses_of count pairs; sizes = sizes; energised = energised; absolute = absolute; most_buses = length t.nodes };
      graph = record { vertices = count + many; ends = rows ++ angles; most_vertices = case_vertex_room t; most_branches = case_position_room t };
      meters = record { touches = meter_touches rows buses 0 t.meters; most = length t.meters };
      offered = record { touches = offered_touches rows buses t.meters t.candidates; most = case_item_count t };
      needed = needed_of sizes energised absolute many;
    }

network_by : (t : Tables) → network_of t ≡ of_buses t (case_buses t) (case_bus_count t)
unfolding case_absolute case_angles case_branches case_component_count case_components case_energised case_first_buses case_live case_meters case_needed case_offered case_rows case_sizes
network_by t = refl

-- a switch, open and closed
module _ (t : Tables) (v : IsValid t) (at : ℕ) where
  abbrev set_to : Bool → Tables
  set_to closed = with_closed t at closed

  abbrev opened : List Link
  opened = links_of false at t.switches

  abbrev closed : List Link
  closed = links_of true at t.switches

  -- nothing but the buses and the numbers of rows depends on it
  same_network : (b c : Bool) → case_buses (set_to b) ≡ case_buses (set_to c) → case_bus_count (set_to b) ≡ case_bus_count (set_to c) → network_of (set_to b) ≡ network_of (set_to c)
  same_network b c buses count =
      network_by (set_to b)
      ∙ ap (λ bs. of_buses (set_to b) bs (case_bus_count (set_to b))) buses
      ∙ ap (λ k. of_buses (set_to b) (case_buses (set_to c)) k) count
      ∙ ap (λ (r : Rows). record (of_buses (set_to c) (case_buses (set_to c)) (case_bus_count (set_to c))) { rows = r }) (rows-with_closed t at b ∙ sym (rows-with_closed t at c))
      ∙ sym (network_by (set_to c))

  both : opened ≡ closed → network_of (set_to false) ≡ network_of (set_to true)
  both same = same_network false true (ap (buses_of (length t.nodes)) same) (ap (bus_count (length t.nodes)) same)

  -- where it joins nodes that were one bus, nothing changes
  over_joined : (l : Link) → OneMore (length t.nodes) l opened closed → first_node opened l.from ≡ first_node opened l.to → network_of (set_to false) ≡ network_of (set_to true)
  over_joined l one joined =
      same_network false true
      (sym (same_buses (length t.nodes) opened closed one.before l one.behind one.from one.to one.without one.with_it joined))
      (sym (same_count (length t.nodes) opened closed one.before l one.behind one.from one.to one.without one.with_it joined))

  as_many : (d : Switch) → case_bus_count (set_to false) ≡ case_bus_count (set_to true) → network_of (set_to false) ≡ network_of (set_to true)
  as_many d count =
      let l = link_at t.switches at d in
      elim (one_more (length t.nodes) t.switches at d v.switch_ends) [
        | inl same ↦ both same
        | inr one ↦ elim (cases_eq (first_node opened l.from) (first_node opened l.to)) [
          | inl joined ↦ over_joined l one joined
          | inr apart ↦
              let fewer = fewer_buses (length t.nodes) opened closed one.before l one.behind one.from one.to one.without one.with_it apart in
              absurd (omega (arith, fewer, count))
        ]
      ]

  one_bus : (d : Switch) → let l = link_at t.switches at d in (OneMore (length t.nodes) l opened closed → first_node opened l.from ≡ first_node opened l.to) → network_of (set_to false) ≡ network_of (set_to true)
  one_bus d joined =
      elim (one_more (length t.nodes) t.switches at d v.switch_ends) [
        | inl same ↦ both same
        | inr one ↦ over_joined (link_at t.switches at d) one (joined one)
      ]

  pub stays_by_count : (d : Switch) (b c : Bool) → case_bus_count (set_to c) ≡ case_bus_count (set_to b) → network_of (set_to b) ≡ network_of (set_to c)
  stays_by_count d false false count = refl
  stays_by_count d true true count = refl
  stays_by_count d false true count = as_many d (sym count)
  stays_by_count d true false count = sym (as_many d count)

  pub stays_by_nodes : (d : Switch) (b c : Bool) → let l = link_at t.switches at d in
      get_or (case_buses (set_to b)) l.from 0 ≡ get_or (case_buses (set_to b)) l.to 0 → (c ≡ true) ⊎ (l.from ≡ l.to) → network_of (set_to b) ≡ network_of (set_to c)
  stays_by_nodes d false false same how = refl
  stays_by_nodes d true true same how = refl
  stays_by_nodes d false true same how =
      let l = link_at t.switches at d in
      one_bus d (λ one. same_first-from_same_bus opened l.from l.to (sym (buses_of-at (length t.nodes) opened l.from one.from) ∙ same ∙ buses_of-at (length t.nodes) opened l.to one.to))
  stays_by_nodes d true false same (inl put) = absurd (true≢false (sym put))
  stays_by_nodes d true false same (inr itself) = sym (one_bus d (λ one. ap (first_node opened) itself))

-- what a switch that was set leaves of a network
pub record IsLeft (n : Network) (at : ℕ) (after : Tables) : Type 0 where
  pub rows : n.rows ≡ rows_of after
  pub nodes : length n.buses.buses ≡ length after.nodes
  pub by_count : case_bus_count after ≡ n.buses.count → n ≡ network_of after
  pub by_nodes : (d : Switch) → let row = get_or after.switches at d in
      at < length after.switches → get_or n.buses.buses row.from 0 ≡ get_or n.buses.buses row.to 0 → (row.closed ≡ true) ⊎ (row.from ≡ row.to) → n ≡ network_of after

left_as : (t : Tables) → IsValid t → (at : ℕ) (b c : Bool) → IsLeft (network_of (with_closed t at b)) at (with_closed t at c)
left_as t v at b c =
    let none : Switch = record { name = []; from = 0; to = 0; closed = false } in
    record {
      rows = rows-with_closed t at b ∙ sym (rows-with_closed t at c);
      nodes = length-case_buses (with_closed t at b);
      by_count = λ count. stays_by_count t v at none b c count;
      by_nodes = λ d low same how.
          let set : Switch → Switch = λ (row : Switch). record row { closed = c } in
          let is : get_or (with_closed t at c).switches at d ≡ set (get_or t.switches at d) = item-changed_at set at t.switches d (omega (arith, low, length-changed_at set at t.switches)) in
          let buses = case_buses (with_closed t at b) in
          stays_by_nodes t v at d b c
          (subst (λ (row : Switch). get_or buses row.from 0 ≡ get_or buses row.to 0) is same)
          (subst (λ (row : Switch). (row.closed ≡ true) ⊎ (row.from ≡ row.to)) is how);
    }

set_twice : (t : Tables) (at : ℕ) (b c : Bool) → with_closed (with_closed t at b) at c ≡ with_closed t at c
set_twice t at b c =
    ap (λ (rows : List Switch). record t { switches = rows })
    (changed_at-twice (λ (row : Switch). record row { closed = b }) (λ (row : Switch). record row { closed = c }) (λ row. refl) at t.switches)

pub switch_edited : (n : Network) (at : ℕ) (after : Tables) → IsValid after → IsBeforeSwitch n at after → IsLeft n at after
switch_edited n at after v before =
    let t = before.tables in
    let c = before.closed in
    let from : (b : Bool) → t ≡ with_closed t at b → IsLeft n at after =
    λ b is.
    let valid : IsValid t = subst IsValid (set_twice t at c b ∙ sym is) (valid-with_closed (with_closed t at c) (subst IsValid before.edited v) at b) in
    let left = left_as t valid at b c in
    subst (λ (u : Tables). IsLeft n at u) (sym before.edited) (subst (λ (m : Network). IsLeft m at (with_closed t at c)) (sym (before.network ∙ ap network_of is)) left) in
    elim (as_it_is t at) [ inl e ↦ from false e | inr e ↦ from true e ]

-- the switch as it is read, and the buses of its nodes
module _ (n : Network) (at : ℕ) (after : Tables) (v : IsValid after) (before : IsBeforeSwitch n at after) (low : at < length after.switches) (row : Switch) (is : row ≡ get_or after.switches at row) where
  pub nodes_low : (buses : List ℕ) → buses ≡ n.buses.buses → (row.from < length buses) × (row.to < length buses)
  nodes_low buses of =
      let ends = v.switch_ends at row low in
      let left = switch_edited n at after v before in
      let nodes = left.nodes in
      let many = ap length of in
      (omega (arith, nodes, many, ends.0, ap (λ (r : Switch). r.from) is), omega (arith, nodes, many, ends.1, ap (λ (r : Switch). r.to) is))

  pub stays : (buses : List ℕ) → buses ≡ n.buses.buses → (x y : ℕ) → x ≡ get_or buses row.from 0 → y ≡ get_or buses row.to 0 → x ≡ y → (row.closed ≡ true) ⊎ (row.from ≡ row.to) → n ≡ network_of after
  stays buses of x y at_from at_to one how =
      let left = switch_edited n at after v before in
      let same : get_or n.buses.buses row.from 0 ≡ get_or n.buses.buses row.to 0 =
      ap (λ bs. get_or bs row.from 0) (sym of) ∙ (sym at_from ∙ one ∙ at_to) ∙ ap (λ bs. get_or bs row.to 0) of in
      left.by_nodes row low
      (subst (λ (r : Switch). get_or n.buses.buses r.from 0 ≡ get_or n.buses.buses r.to 0) is same)
      (subst (λ (r : Switch). (r.closed ≡ true) ⊎ (r.from ≡ r.to)) is how)
