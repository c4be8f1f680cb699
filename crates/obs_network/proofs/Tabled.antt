-- Buses, energised and absolute components in the words of the tables.
use Rattle.std.proofs.Common.{◌≡◌, ◌↔◌, ◌⊎◌, ◌∙◌, ℕ, zero, suc, ◌+◌, ◌<◌, inl, inr, Bool, true, false, List, [], ◌∷◌, length, get_or, refl, sym, ap, subst, arith}
use Rattle.std.specs.Prelude.{Contains, Some, slice_get, slice_index, slice_index_or}
use Rattle.std.proofs.lemmas.Bool.{cases_Bool}
use Rattle.std.proofs.lemmas.List.FromFn.{get_or-map-range_with_len}
use Rattle.std.proofs.lemmas.Option.{get_or_from_slice_get, slice_get-get_or, slice_get_within}
use Rattle.obs_graph.proofs.AtVertex.{positions_from-contains, positions_from-pass}
use Rattle.obs_switch.specs.declared.link.Link.{Link}
use Rattle.obs_switch.specs.Buses.{AreOneBus}
use Rattle.obs_switch.proofs.FirstNodes.{buses_of-at, one_bus}
use Rattle.obs_case.specs.declared.rows.Node.{Node}
use Rattle.obs_case.specs.declared.rows.Switch.{Switch}
use Rattle.obs_case.specs.Tables.{Tables}
use Rattle.obs_network.specs.Switched.{case_buses, closed_links}
use Rattle.obs_network.specs.inner.Switched.{IsClosedSwitch}
use Rattle.obs_network.specs.Components.{is_absolute_node, is_marked, is_source, marked_nodes, marked_of}
use Rattle.obs_network.specs.Network.{case_absolute, case_component_count, case_components, case_energised}
use Rattle.obs_network.specs.Observable.{is_absolute_component, is_energised_component}
use Rattle.obs_network.specs.inner.Standing.{HasMarkedNode}
use Rattle.obs_network.proofs.OfLaws.{marked_by_a_node}

pub one_case_bus : (t : Tables) (u v : ℕ) → u < length t.nodes → v < length t.nodes
    → (slice_index (case_buses t) u ≡ slice_index (case_buses t) v) ↔ AreOneBus (closed_links t.switches) u v
one_case_bus t u v lu lv =
    let links = closed_links t.switches in
    let a = buses_of-at (length t.nodes) links u lu in
    let b = buses_of-at (length t.nodes) links v lv in
    ((λ e. (one_bus links u v).0 (sym a ∙ (e ∙ b))), (λ k. a ∙ ((one_bus links u v).1 k ∙ sym b)))

-- an item of a list is one of a longer list, and an item of a longer list is the first or one of the others
contained_here : {X : Type 0} (x : X) (xs : List X) → Contains (x ∷ xs) x
contained_here x xs = (0, omega arith, refl)

contained_later : {X : Type 0} (y x : X) (xs : List X) → Contains xs x → Contains (y ∷ xs) x
contained_later y x xs (k, l, is) = (suc k, omega (arith, l), is)

contained_parts : {X : Type 0} (y x : X) (xs : List X) → Contains (y ∷ xs) x → (y ≡ x) ⊎ Contains xs x
contained_parts y x xs (zero, l, is) = inl is
contained_parts y x xs (suc k, l, is) = inr (k, omega (arith, l), is)

closed_more : (s : Switch) (switches : List Switch) (l : Link) → IsClosedSwitch switches l → IsClosedSwitch (s ∷ switches) l
closed_more s switches l h = record {
  row = h.row;
  listed = contained_later s h.row switches h.listed;
  closed = h.closed;
  from = h.from;
  to = h.to;
}

closed_from : (switches : List Switch) (l : Link) → Contains (closed_links switches) l → IsClosedSwitch switches l
closed_from [] l (k, low, is) = absurd (omega (arith, low))
closed_from (s ∷ switches) l has = elim (cases_Bool s.closed) [
  | inl on ↦
      elim (contained_parts (record { from = s.from; to = s.to }) l (closed_links switches) (rw on at has)) [
        | inl same ↦ record {
          row = s;
          listed = contained_here s switches;
          closed = on;
          from = ap (λ (x : Link). x.from) (sym same);
          to = ap (λ (x : Link). x.to) (sym same);
        }
        | inr later ↦ closed_more s switches l (closed_from switches l later)
      ]
  | inr off ↦ closed_more s switches l (closed_from switches l (rw off at has))
]

closed_to : (switches : List Switch) (l : Link) (row : Switch) → Contains switches row → row.closed ≡ true → l ≡ record { from = row.from; to = row.to } → Contains (closed_links switches) l
closed_to [] l row (k, low, is) on same = absurd (omega (arith, low))
closed_to (s ∷ switches) l row has on same = elim (contained_parts s row switches has) [
  | inl first ↦
      let closed : s.closed ≡ true = ap (λ (x : Switch). x.closed) first ∙ on in
      let link : record { from = s.from; to = s.to } ≡ l = ap (λ (x : Switch). record { from = x.from; to = x.to }) first ∙ sym same in
      rw closed (subst (λ (x : Link). Contains (record { from = s.from; to = s.to } ∷ closed_links switches) x) link (contained_here (record { from = s.from; to = s.to }) (closed_links switches)))
  | inr later ↦
      let rest = closed_to switches l row later on same in
      elim (cases_Bool s.closed) [
        | inl shut ↦ rw shut (contained_later (record { from = s.from; to = s.to }) l (closed_links switches) rest)
        | inr free ↦ rw free rest
      ]
]

pub closed_exactly : (t : Tables) (l : Link) → Contains (closed_links t.switches) l ↔ IsClosedSwitch t.switches l
closed_exactly t l = (
  closed_from t.switches l,
  (λ h. closed_to t.switches l h.row h.listed h.closed (ap (λ (a : ℕ). record { from = a; to = l.to }) h.from ∙ ap (λ (b : ℕ). record { from = h.row.from; to = b }) h.to)),
)

-- a listed position is that of a row which the flag marks
marked_from : (flag : Node → Bool) (nodes : List Node) (u : ℕ) → Contains (marked_nodes flag nodes) u → (row : Node) × (slice_get nodes u ≡ Some row) × (flag row ≡ true)
marked_from flag [] u (k, low, is) = absurd (omega (arith, low))
marked_from flag (first ∷ nodes) u (k, low, is) =
    let p = positions_from-pass flag 0 (first ∷ nodes) k u first low in
    let same : u ≡ p.0 = sym is ∙ (p.2 ∙ omega arith) in
    let row = get_or (first ∷ nodes) u first in
    let within : u < length (first ∷ nodes) = omega (arith, same, p.1) in
    (row, slice_get-get_or (first ∷ nodes) u first within, ap (λ k. flag (get_or (first ∷ nodes) k first)) same ∙ p.3)

marked_to : (flag : Node → Bool) (nodes : List Node) (u : ℕ) (row : Node) → slice_get nodes u ≡ Some row → flag row ≡ true → Contains (marked_nodes flag nodes) u
marked_to flag nodes u row at marked =
    let there : Contains (marked_nodes flag nodes) (0 + u) =
    positions_from-contains flag 0 nodes u row (slice_get_within nodes u row at) (ap flag (get_or_from_slice_get nodes u row row at) ∙ marked) in
    let none : 0 + u ≡ u = omega arith in
    subst (λ k. Contains (marked_nodes flag nodes) k) none there

marked_exactly : (flag : Node → Bool) (t : Tables) (c : ℕ) → c < case_component_count t
    → (slice_index_or (marked_of flag (case_component_count t) (case_components t) (case_buses t) t.nodes) c false ≡ true) ↔ HasMarkedNode flag t c
marked_exactly flag t c low =
    let components = case_components t in
    let buses = case_buses t in
    let is : slice_index_or (marked_of flag (case_component_count t) components buses t.nodes) c false ≡ is_marked flag components buses t.nodes c =
    get_or-map-range_with_len (is_marked flag components buses t.nodes) 0 (case_component_count t) c c false low (omega arith) in
    let by = marked_by_a_node flag components buses t.nodes c in (
      (λ marked.
          let node = by.0 (sym is ∙ marked) in
          let row = marked_from flag t.nodes node.0 node.1 in
          record { node = node.0; row = row.0; at = row.1; marked = row.2; of_component = node.2 }),
      (λ h. is ∙ by.1 (h.node, marked_to flag t.nodes h.node h.row h.at h.marked, h.of_component)),
    )

pub energised_exactly : (t : Tables) (c : ℕ) → c < case_component_count t → (is_energised_component t c ≡ true) ↔ HasMarkedNode is_source t c
unfolding case_energised
energised_exactly t c low = marked_exactly is_source t c low

pub absolute_exactly : (t : Tables) (c : ℕ) → c < case_component_count t → (is_absolute_component t c ≡ true) ↔ HasMarkedNode is_absolute_node t c
unfolding case_absolute
absolute_exactly t c low = marked_exactly is_absolute_node t c low
