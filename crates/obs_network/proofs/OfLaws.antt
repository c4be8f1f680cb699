-- What a reader means by components, sources and edits.
use Rattle.std.proofs.Common.{◌≡◌, ◌↔◌, ℕ, zero, suc, ◌<◌, ◌≤◌, Bool, true, List, [], ◌∷◌, length, get_or, refl, sym, ap, ◌∙◌, arith}
use Rattle.std.specs.Prelude.{Contains, IsTrue, slice_index, ◌==◌}
use Rattle.std.proofs.lemmas.Bool.{eq-eqb, eqb-true}
use Rattle.std.proofs.lemmas.List.Folds.{Any-from_list_any, list_any-from_Any}
use Rattle.obs_graph.specs.declared.Ends.{Ends}
use Rattle.obs_graph.specs.Joined.{Chain, is_joined}
use Rattle.obs_graph.specs.Positions.{present}
use Rattle.obs_graph.proofs.Chains.{same_first-from_Chain, is_joined-true, is_joined-from_Chain}
use Rattle.obs_graph.proofs.First.{first_joined-le}
use Rattle.obs_switch.specs.declared.link.Link.{Link}
use Rattle.obs_switch.specs.Buses.{bus_of, ends_of_links}
use Rattle.obs_switch.proofs.FirstNodes.{one_bus}
use Rattle.obs_case.specs.declared.rows.Branch.{Branch}
use Rattle.obs_case.specs.declared.rows.Meter.{Meter}
use Rattle.obs_case.specs.declared.rows.Node.{Node}
use Rattle.obs_case.specs.declared.rows.Switch.{Switch}
use Rattle.obs_case.specs.Flags.{changed_at, with_branch_inservice, with_closed, with_meter_inservice}
use Rattle.obs_case.specs.Tables.{Tables}
use Rattle.obs_network.specs.Switched.{case_bus_count}
use Rattle.obs_network.specs.Components.{component_of, first_bus, is_marked, marked_nodes}
use Rattle.obs_network.specs.Network.{case_components, case_live, rows_of}
use Rattle.obs_network.proofs.Whole.{rows_are}
use Rattle.obs_network.proofs.Numbered.{components_of-at, one_component}

pub bus-is_joined : (links : List Link) (u v : ℕ) → (bus_of links u ≡ bus_of links v) ↔ IsTrue (is_joined (ends_of_links links) u v)
bus-is_joined links u v = (
  (λ same. is_joined-from_Chain (ends_of_links links) u v ((one_bus links u v).0 same)),
  (λ joined. (one_bus links u v).1 (is_joined-true (ends_of_links links) u v joined)),
)

pub case_component-at : (t : Tables) (b : ℕ) → b < case_bus_count t → get_or (case_components t) b 0 ≡ component_of (present (case_live t)) b
unfolding case_components
case_component-at t b l = components_of-at (case_bus_count t) (present (case_live t)) b l

pub one_case_component : (t : Tables) (b c : ℕ) → b < case_bus_count t → c < case_bus_count t → (get_or (case_components t) b 0 ≡ get_or (case_components t) c 0) ↔ Chain (present (case_live t)) b c
one_case_component t b c l m =
    let at_b = case_component-at t b l in
    let at_c = case_component-at t c m in
    let one = one_component (present (case_live t)) b c in
    ((λ same. one.0 (sym at_b ∙ same ∙ at_c)), (λ chain. at_b ∙ one.1 chain ∙ sym at_c))

pub lowest_bus : (live : List Ends) (b c : ℕ) → Chain live b c → first_bus live b ≤ c
lowest_bus live b c chain = omega (arith, same_first-from_Chain live chain, first_joined-le live c)

-- a component is marked exactly where one of its nodes is
pub marked_by_a_node : (flag : Node → Bool) (components buses : List ℕ) (nodes : List Node) (c : ℕ)
    → (is_marked flag components buses nodes c ≡ true) ↔ (u : ℕ) × Contains (marked_nodes flag nodes) u × (slice_index components (slice_index buses u) ≡ c)
marked_by_a_node flag components buses nodes c =
    let there : ℕ → Bool = λ u. slice_index components (slice_index buses u) == c in (
      (λ marked.
          let any = Any-from_list_any there (marked_nodes flag nodes) marked in
          (any.1, (any.0, any.2, any.3), eqb-true (slice_index components (slice_index buses any.1)) c any.4)),
      (λ node.
          list_any-from_Any there (marked_nodes flag nodes)
          (node.1.0, node.0, node.1.1, node.1.2, eq-eqb (slice_index components (slice_index buses node.0)) c node.2)),
    )

pub length-changed_at : {A : Type 0} (change : A → A) (i : ℕ) (xs : List A) → length (changed_at change i xs) ≡ length xs
unfolding changed_at
length-changed_at change i [] = refl
length-changed_at change zero (x ∷ xs) = refl
length-changed_at change (suc i) (x ∷ xs) = ap suc (length-changed_at change i xs)

-- the changed item
pub item-changed_at : {A : Type 0} (change : A → A) (i : ℕ) (xs : List A) (d : A) → i < length xs → get_or (changed_at change i xs) i d ≡ change (get_or xs i d)
unfolding changed_at
item-changed_at change i [] d l = absurd (omega (arith, l))
item-changed_at change zero (x ∷ xs) d l = refl
item-changed_at change (suc i) (x ∷ xs) d l = item-changed_at change i xs d (omega (arith, l))

-- an item that is set twice is set once
pub changed_at-twice : {A : Type 0} (one other : A → A) → ((x : A) → other (one x) ≡ other x) → (i : ℕ) (xs : List A) → changed_at other i (changed_at one i xs) ≡ changed_at other i xs
unfolding changed_at
changed_at-twice one other last i [] = refl
changed_at-twice one other last zero (x ∷ xs) = ap (λ y. y ∷ xs) (last x)
changed_at-twice one other last (suc i) (x ∷ xs) = ap (λ ys. x ∷ ys) (changed_at-twice one other last i xs)

-- a new flag leaves the numbers of rows
pub rows-with_closed : (t : Tables) (at : ℕ) (closed : Bool) → rows_of (with_closed t at closed) ≡ rows_of t
rows-with_closed t at closed =
    rows_are (rows_of (with_closed t at closed)) (rows_of t) refl (length-changed_at (λ (row : Switch). record row { closed = closed }) at t.switches) refl refl refl

pub rows-with_branch : (t : Tables) (at : ℕ) (inservice : Bool) → rows_of (with_branch_inservice t at inservice) ≡ rows_of t
rows-with_branch t at inservice =
    rows_are (rows_of (with_branch_inservice t at inservice)) (rows_of t) refl refl (length-changed_at (λ (row : Branch). record row { inservice = inservice }) at t.branches) refl refl

pub rows-with_meter : (t : Tables) (at : ℕ) (inservice : Bool) → rows_of (with_meter_inservice t at inservice) ≡ rows_of t
rows-with_meter t at inservice =
    rows_are (rows_of (with_meter_inservice t at inservice)) (rows_of t) refl refl refl (length-changed_at (λ (row : Meter). record row { inservice = inservice }) at t.meters) refl
