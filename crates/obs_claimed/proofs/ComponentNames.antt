-- The name of a component stands for it: its first bus has a first node, and this has the name.
use Rattle.std.proofs.Common.{◌≡◌, ℕ, zero, suc, ◌+◌, ◌<◌, Bool, true, false, cond, not, Some, List, [], ◌∷◌, length, get_or, sym, ap, ◌∙◌, inl, inr, arith}
use Rattle.std.specs.Prelude.{slice_index, ◌==◌}
use Rattle.std.specs.Str.{bytes_eq}
use Rattle.std.proofs.lemmas.Bool.{and_from, cases_Bool, eq-eqb, or_left, or_right}
use Rattle.std.proofs.lemmas.List.{length-map}
use Rattle.obs_graph.specs.Joined.{count_below}
use Rattle.obs_graph.specs.Positions.{present}
use Rattle.obs_graph.proofs.First.{first_joined-first_joined, first_joined-le}
use Rattle.obs_matroid.proofs.Lists.{clash}
use Rattle.obs_switch.specs.Buses.{first_node, members_of}
use Rattle.obs_switch.proofs.FirstNodes.{bus_at, bus_of-first_node, buses_of-at, first_member, first_node-first_node, first_node-le}
use Rattle.obs_case.specs.Tables.{IsValid, Tables, are_different, has_name, node_names, place_of, position_of}
use Rattle.obs_case.proofs.NameLemmas.{bytes_eq-itself, different-parts, position-there}
use Rattle.obs_network.specs.Components.{component_of, components_of, first_bus, first_buses_of, is_first_bus}
use Rattle.obs_network.specs.Network.{case_component_count, case_components, case_first_buses, case_live, case_need, node_component}
use Rattle.obs_network.specs.Observable.{is_energised_component}
use Rattle.obs_network.specs.Switched.{case_bus_count, case_buses, case_first_node, closed_links}
use Rattle.obs_network.proofs.Marked.{first_bus_at}
use Rattle.obs_network.proofs.Numbered.{component_at, components_of-at}
use Rattle.obs_report.specs.Meters.{component_name}
use Rattle.obs_report.specs.Nodes.{node_name}
use Rattle.obs_cert.specs.Scopes.{named_component, named_need, names_at, names_component}
use Rattle.obs_text.proofs.ByteLemmas.{same_bytes}

-- each of some names is there
pub has_own : (names : List (List ℕ)) (k : ℕ) → k < length names → has_name names (get_or names k []) ≡ true
has_own [] k l = absurd (omega arith)
has_own (x ∷ xs) zero l = or_left (bytes_eq x x) (has_name xs x) (bytes_eq-itself x)
has_own (x ∷ xs) (suc k) l = or_right (bytes_eq (get_or xs k []) x) (has_name xs (get_or xs k [])) (has_own xs k (omega arith))

-- a later name isn't the first
later_differs : (x : List ℕ) (xs : List (List ℕ)) (k : ℕ) → has_name xs x ≡ false → k < length xs → bytes_eq (get_or xs k []) x ≡ false
later_differs x xs k absent l = elim (cases_Bool (bytes_eq (get_or xs k []) x)) [
  | inl e ↦ clash (ap (has_name xs) (sym (same_bytes (get_or xs k []) x e)) ∙ has_own xs k l) absent
  | inr e ↦ e
]

-- where no two names are equal, each stands at its place
pub place_own : (names : List (List ℕ)) (k : ℕ) → are_different names ≡ true → k < length names → place_of names (get_or names k []) ≡ k
place_own [] k d l = absurd (omega arith)
place_own (x ∷ xs) zero d l = ap (λ (b : Bool). cond (not b) (1 + place_of xs x) 0) (bytes_eq-itself x)
place_own (x ∷ xs) (suc k) d l =
    let parts = different-parts x xs d in
    let rest = place_own xs k parts.1 (omega arith) in
    ap (λ (b : Bool). cond (not b) (1 + place_of xs (get_or xs k [])) 0) (later_differs x xs k parts.0 (omega arith)) ∙ omega (arith, rest)

pub position_own : (names : List (List ℕ)) (k : ℕ) → are_different names ≡ true → k < length names → position_of names (get_or names k []) ≡ Some k
position_own names k d l = position-there (bytes_eq (get_or names k [])) names (has_own names k l) ∙ ap Some (place_own names k d l)

-- the first node of the first bus of a component
pub record IsFirstOf (t : Tables) (c u : ℕ) : Type 0 where
  pub low : u < length t.nodes
  pub name : component_name t c ≡ node_name t u
  pub own : case_first_node t u ≡ u
  pub bus : slice_index (case_first_buses t) c ≡ slice_index (case_buses t) u
  pub component : node_component t u ≡ c

pub first_of_component : (t : Tables) (c : ℕ) → c < case_component_count t → (u : ℕ) × IsFirstOf t c u
unfolding case_component_count case_components case_first_buses
first_of_component t c l =
    let n = case_bus_count t in
    let live = present (case_live t) in
    let links = closed_links t.switches in
    let b = component_at n live c l in
    let bus : ℕ = first_bus live b.0 in
    let at : get_or (first_buses_of n live) c 0 ≡ bus = ap (λ (k : ℕ). get_or (first_buses_of n live) k 0) (sym b.2) ∙ first_bus_at n live b.0 b.1 in
    let same : component_of live bus ≡ c = ap (count_below (is_first_bus live)) (first_joined-first_joined live b.0) ∙ b.2 in
    let low : bus < n = (let le = first_joined-le live b.0 in let here = b.1 in omega (arith, le, here)) in
    let node = bus_at (length t.nodes) links bus low in
    let member = first_member (length t.nodes) links node.0 node.1 in
    let u : ℕ = first_node links node.0 in
    let u_low : u < length t.nodes = (let le = first_node-le links node.0 in let here = node.1 in omega (arith, le, here)) in
    let u_bus : get_or (case_buses t) u 0 ≡ bus = buses_of-at (length t.nodes) links u u_low ∙ (bus_of-first_node links node.0 ∙ node.2) in (
      u,
      record {
        low = u_low;
        name = ap (node_name t) (ap (λ (k : ℕ). get_or (members_of (case_buses t) k) 0 0) (at ∙ sym node.2) ∙ member.1);
        own = first_node-first_node links node.0;
        bus = at ∙ sym u_bus;
        component = ap (λ (k : ℕ). get_or (components_of n live) k 0) u_bus ∙ (components_of-at n live bus low ∙ same);
      },
    )

module _ (t : Tables) (v : IsValid t) (c : ℕ) (l : c < case_component_count t) where
  -- the name is in the table
  pub component_known : has_name (node_names t) (component_name t c) ≡ true
  component_known =
      let f = first_of_component t c l in
      let low = f.1.low in
      ap (has_name (node_names t)) f.1.name ∙ has_own (node_names t) f.0 (omega (arith, low, length-map t.nodes (λ row. row.name)))

  -- at the place of the first node
  pub component_place : place_of (node_names t) (component_name t c) ≡ (first_of_component t c l).0
  component_place =
      let f = first_of_component t c l in
      let low = f.1.low in
      ap (place_of (node_names t)) f.1.name ∙ place_own (node_names t) f.0 v.nodes.different (omega (arith, low, length-map t.nodes (λ row. row.name)))

  -- it stands for the component
  pub component_named : named_component t (component_name t c) ≡ c
  component_named = ap (node_component t) component_place ∙ (first_of_component t c l).1.component

  -- which it names where this is energised
  pub component_names : is_energised_component t c ≡ true → names_component t (component_name t c) ≡ true
  component_names energised =
      let f = first_of_component t c l in
      let u = f.0 in
      let own : (case_first_node t u == u) ≡ true = eq-eqb (case_first_node t u) u f.1.own in
      let bus : (slice_index (case_first_buses t) (node_component t u) == slice_index (case_buses t) u) ≡ true =
      eq-eqb (slice_index (case_first_buses t) (node_component t u)) (slice_index (case_buses t) u) (ap (λ (k : ℕ). slice_index (case_first_buses t) k) f.1.component ∙ f.1.bus) in
      let on : is_energised_component t (node_component t u) ≡ true = ap (is_energised_component t) f.1.component ∙ energised in
      ap (names_at t) component_place
      ∙ and_from (case_first_node t u == u) _ own (and_from (slice_index (case_first_buses t) (node_component t u) == slice_index (case_buses t) u) (is_energised_component t (node_component t u)) bus on)

  -- and it needs what the component needs
  pub component_need : named_need t (component_name t c) ≡ case_need t c
  component_need = ap (case_need t) component_named
