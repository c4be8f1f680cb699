-- What the program reads off a network, as definitions on the case say it.
use Rattle.std.proofs.Common.{◌≡◌, ℕ, ◌<◌, ◌≤◌, true, false, Option, Some, List, length, map, get_or, sym, ap, ◌∙◌, inl, inr, arith}
use Rattle.std.proofs.lemmas.Bool.{cases_Bool}
use Rattle.obs_graph.specs.declared.Ends.{Ends}
use Rattle.obs_graph.proofs.Present.{present_low}
use Rattle.obs_matroid.specs.Lists.{In}
use Rattle.obs_switch.specs.Buses.{members_of}
use Rattle.obs_switch.proofs.FirstNodes.{buses_of-at, first_member}
use Rattle.obs_case.specs.Tables.{Tables}
use Rattle.obs_meter.specs.declared.Touch.{Touch}
use Rattle.obs_meter.specs.Touches.{touched}
use Rattle.obs_meter.proofs.Touched.{In-from_any, touched-present}
use Rattle.obs_network.specs.Switched.{case_buses, case_first_node, closed_links}
use Rattle.std.proofs.lemmas.List.{length-map}
use Rattle.std.specs.Str.{bytes_eq}
use Rattle.obs_case.specs.Tables.{has_name, place_of, position_of}
use Rattle.obs_case.proofs.NameLemmas.{place-there, position-some}
use Rattle.obs_switch.specs.Held.{Buses}
use Rattle.obs_network.specs.Network.{Network, network_of}
use Rattle.obs_network.proofs.OfCase.{length-case_buses}
use Rattle.obs_meter.specs.Lost.{is_listed}

pub has_not : (xs : List ℕ) (x : ℕ) → (In x xs → ⊥) → is_listed xs x ≡ false
has_not xs x n = elim (cases_Bool (is_listed xs x)) [ inl t ↦ absurd (n (In-from_any xs x t)) | inr f ↦ f ]

-- what is touched is one of the graph's positions
pub not_past : (ends : List (Option Ends)) (t : Touch) (e : ℕ) → length ends ≤ e → false ≡ is_listed (touched ends t) e
not_past ends t e past = sym (has_not (touched ends t) e (λ i. let l = present_low ends e (touched-present ends t e i) in omega (arith, l, past)))

-- the first member of a node's bus
pub member : (t : Tables) (u : ℕ) → u < length t.nodes
    → (0 < length (members_of (case_buses t) (get_or (case_buses t) u 0))) × (get_or (members_of (case_buses t) (get_or (case_buses t) u 0)) 0 0 ≡ case_first_node t u)
member t u l = rw (buses_of-at (length t.nodes) (closed_links t.switches) u l) (first_member (length t.nodes) (closed_links t.switches) u l)

pub buses_long : (t : Tables) (n : Network) (b : Buses) → n ≡ network_of t → b ≡ n.buses → length b.buses ≡ length t.nodes
buses_long t n b is same = ap (λ (l : Buses). length l.buses) (same ∙ ap (λ (m : Network). m.buses) is) ∙ length-case_buses t

pub buses_are : (t : Tables) (n : Network) (b : Buses) → n ≡ network_of t → b ≡ n.buses → b.buses ≡ case_buses t
buses_are t n b is same = ap (λ (l : Buses). l.buses) (same ∙ ap (λ (m : Network). m.buses) is)

-- the first member is read off the bus of a node
pub read_member : (t : Tables) (u : ℕ) (buses members : List ℕ) (bus : ℕ) → u < length t.nodes → buses ≡ case_buses t → bus ≡ get_or buses u 0 → members ≡ members_of buses bus
    → (0 < length members) × (get_or members 0 0 ≡ case_first_node t u)
read_member t u buses members bus l is at read =
    let e : members ≡ members_of (case_buses t) (get_or (case_buses t) u 0) = read ∙ ap (members_of buses) (at ∙ ap (λ bs. get_or bs u 0) is) ∙ ap (λ bs. members_of bs (get_or (case_buses t) u 0)) is in
    rw e (member t u l)

-- a row that is found
pub found_row : {R : Type 0} (name_of : R → List ℕ) (rows : List R) (name : List ℕ) (i : ℕ) → Some i ≡ position_of (map name_of rows) name
    → (has_name (map name_of rows) name ≡ true) × (i < length rows) × (i ≡ place_of (map name_of rows) name)
found_row name_of rows name i e =
    let p = position-some (bytes_eq name) (map name_of rows) i (sym e) in
    (p.0, omega (arith, place-there (bytes_eq name) (map name_of rows) p.0, p.1, length-map rows name_of), p.1)
