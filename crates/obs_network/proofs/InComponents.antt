-- Each branch lies in one component, and so does what an item touches.
use Rattle.std.proofs.Common.{◌≡◌, ℕ, ◌+◌, ◌-◌, ◌<◌, Bool, true, false, ◌&&◌, Option, Some, None, List, length, map, get_or, refl, sym, ap, ◌∙◌, subst, arith, inl, inr}
use Rattle.std.specs.Prelude.{IsSome, slice_index, slice_index_or, ◌==◌}
use Rattle.std.proofs.lemmas.Bool.{and_parts, cases_Bool, cases_lt, eq-eqb}
use Rattle.std.proofs.lemmas.List.{get_or-map, get_or_past, length-map}
use Rattle.obs_graph.specs.declared.Ends.{Ends}
use Rattle.obs_graph.specs.Joined.{count_below}
use Rattle.obs_graph.specs.Positions.{present}
use Rattle.obs_graph.proofs.Chains.{first_joined-contains}
use Rattle.obs_graph.proofs.Present.{branch_at, contains_present, some_is_in, some_one}
use Rattle.obs_case.specs.Tables.{Tables, IsValid}
use Rattle.obs_matroid.specs.Lists.{In}
use Rattle.obs_matroid.specs.inner.Components.{IsSumOfKinds}
use Rattle.obs_matroid.proofs.Components.{IsSumOfKinds-graphic}
use Rattle.obs_meter.specs.declared.Touch.{Touch}
use Rattle.obs_meter.specs.declared.Touch.TheVariants.{Nothing}
use Rattle.obs_meter.specs.Spanned.{both_ends, ends_at, graph_matroid, joined_at, rank_at}
use Rattle.obs_meter.specs.Touches.{touch_at}
use Rattle.obs_meter.proofs.Instance.{IsJoining-graph}
use Rattle.obs_meter.proofs.Touched.{touched-vertex}
use Rattle.obs_network.specs.Switched.{case_bus_count}
use Rattle.obs_network.specs.Components.{if_energised, is_first_bus}
use Rattle.obs_network.specs.Network.{case_absolute, case_branches, case_component_count, case_components, case_energised, case_live, case_rows, case_vertex_component, case_vertex_count}
use Rattle.obs_network.specs.Observable.{branch_component, is_absolute_component, is_energised_component, is_vertex_of, item_component}
use Rattle.obs_network.proofs.OfCase.{case_component-below, case_live-branches, length-case_components}
use Rattle.obs_network.proofs.OfLaws.{case_component-at}
use Rattle.obs_network.proofs.Vertices.{IsAngleBranch, case_vertex_component-bus, case_vertex_component-reference, is_vertex_of-bus, is_vertex_of-reference, row_or_angle}

-- a row of the network is a live one, of an energised component
pub get_or-energised : (t : Tables) (e : ℕ) → get_or (case_rows t) e None ≡ if_energised (case_components t) (case_energised t) (get_or (case_live t) e None)
unfolding case_rows
get_or-energised t e =
    let f = if_energised (case_components t) (case_energised t) in
    elim (cases_lt e (length (case_live t))) [
      | inl l ↦ get_or-map f (case_live t) e None None l
      | inr l ↦ get_or_past (map f (case_live t)) e None (omega (arith, l, length-map (case_live t) f)) ∙ ap f (sym (get_or_past (case_live t) e None l))
    ]

live_from : (components : List ℕ) (energised : List Bool) (o : Option Ends) (x : Ends) → if_energised components energised o ≡ Some x
    → (o ≡ Some x) × (slice_index_or energised (slice_index components x.a) false ≡ true)
live_from components energised None x h = absurd (cc h)
live_from components energised (Some y) x h =
    let test : Ends → Bool = λ z. slice_index_or energised (slice_index components z.a) false in
    elim (cases_Bool (slice_index_or energised (slice_index components y.a) false)) [
      | inl e ↦ let k = rw e at h in (k, sym (ap test (some_one y x k)) ∙ e)
      | inr e ↦ absurd (cc (rw e at h))
    ]

pub row_is_live : (t : Tables) (e : ℕ) (x : Ends) → get_or (case_rows t) e None ≡ Some x
    → (get_or (case_live t) e None ≡ Some x) × (is_energised_component t (get_or (case_components t) x.a 0) ≡ true)
row_is_live t e x h = live_from (case_components t) (case_energised t) (get_or (case_live t) e None) x (sym (get_or-energised t e) ∙ h)

-- both ends of a live branch are buses of one component
pub live_ends-same : (t : Tables) → IsValid t → (e : ℕ) (x : Ends) → get_or (case_live t) e None ≡ Some x
    → (x.a < case_bus_count t) × (x.b < case_bus_count t) × (get_or (case_components t) x.a 0 ≡ get_or (case_components t) x.b 0)
live_ends-same t v e x h =
    let live = present (case_live t) in
    let b = branch_at (case_bus_count t) (case_live t) e x (case_live-branches t v) (some_is_in (case_live t) e x h) h in
    let first = first_joined-contains live x (contains_present (case_live t) e x h) in
    (b.0, b.1, case_component-at t x.a b.0 ∙ (ap (count_below (is_first_bus live)) first ∙ sym (case_component-at t x.b b.1)))

-- where a present branch lies: both ends are vertices of its component, which is energised; the first is a bus
pub record IsPlaced (t : Tables) (x : Ends) (c : ℕ) : Type 0 where
  pub bus : x.a < case_bus_count t
  pub low : x.b < case_vertex_count t
  pub at_a : case_vertex_component t x.a ≡ c
  pub at_b : case_vertex_component t x.b ≡ c
  pub of_a : is_vertex_of t c x.a ≡ true
  pub of_b : is_vertex_of t c x.b ≡ true
  pub energised : is_energised_component t c ≡ true
  pub few : c < case_component_count t

row_placed : (t : Tables) → IsValid t → (e : ℕ) (x : Ends) → get_or (case_rows t) e None ≡ Some x → IsPlaced t x (get_or (case_components t) x.a 0)
row_placed t v e x h =
    let live = row_is_live t e x h in
    let c = get_or (case_components t) x.a 0 in
    let b = live_ends-same t v e x live.0 in
    let low = b.1 in
    record {
      bus = b.0;
      low = omega (arith, low);
      at_a = case_vertex_component-bus t x.a b.0;
      at_b = case_vertex_component-bus t x.b low ∙ sym b.2;
      of_a = is_vertex_of-bus t c x.a b.0 ∙ eq-eqb c c refl;
      of_b = is_vertex_of-bus t c x.b low ∙ eq-eqb (get_or (case_components t) x.b 0) c (sym b.2);
      energised = live.1;
      few = case_component-below t x.a b.0;
    }

angle_placed : (t : Tables) → IsValid t → (m : ℕ) (x : Ends) → IsAngleBranch t m x → IsPlaced t x (get_or (case_components t) x.a 0)
angle_placed t v m x a =
    let c = get_or (case_components t) x.a 0 in
    let few = case_component-below t x.a a.low in
    let takes = and_parts (slice_index_or (case_energised t) c false) (slice_index_or (case_absolute t) c false) a.takes in
    let end : x.b ≡ case_bus_count t + c = a.reference ∙ ap (λ n. n + c) (length-case_components t) in
    let tests : ((c == c) && is_absolute_component t c) ≡ true = rw (eq-eqb c c refl) takes.1 in
    record {
      bus = a.low;
      low = omega (arith, few, end);
      at_a = case_vertex_component-bus t x.a a.low;
      at_b = ap (case_vertex_component t) end ∙ case_vertex_component-reference t c;
      of_a = is_vertex_of-bus t c x.a a.low ∙ eq-eqb c c refl;
      of_b = ap (is_vertex_of t c) end ∙ is_vertex_of-reference t c c ∙ tests;
      energised = takes.0;
      few = few;
    }

pub placed : (t : Tables) → IsValid t → (e : ℕ) (x : Ends) → get_or (case_branches t) e None ≡ Some x → IsPlaced t x (case_vertex_component t x.a)
placed t v e x h =
    let at : IsPlaced t x (get_or (case_components t) x.a 0) = elim (row_or_angle t v e x h) [
      | inl row ↦ row_placed t v e x row.1
      | inr angle ↦ angle_placed t v (e - length t.branches) x angle.1
    ] in
    subst (λ (c : ℕ). IsPlaced t x c) (sym at.at_a) at

ends_component_of : (t : Tables) → IsValid t → (e : ℕ) (o : Option Ends) → get_or (case_branches t) e None ≡ o
    → case_vertex_component t (both_ends o).0 ≡ case_vertex_component t (both_ends o).1
ends_component_of t v e None h = refl
ends_component_of t v e (Some x) h = sym (placed t v e x h).at_b

pub ends_component : (t : Tables) → IsValid t → (e : ℕ) → case_vertex_component t (ends_at (case_branches t) e).0 ≡ case_vertex_component t (ends_at (case_branches t) e).1
ends_component t v e = ends_component_of t v e (get_or (case_branches t) e None) refl

-- what some branches join, those of one component join there
pub kinds_sum : (t : Tables) → IsValid t → IsSumOfKinds (graph_matroid (case_vertex_count t) (case_branches t)) (branch_component t)
kinds_sum t v =
    IsSumOfKinds-graphic (ends_at (case_branches t)) (joined_at (case_branches t)) (rank_at (case_vertex_count t) (case_branches t)) (IsJoining-graph (case_branches t))
    (case_vertex_component t) (ends_component t v)

-- what an item touches lies in its component
pub touched_component : (t : Tables) → IsValid t → (touches : List Touch) (m e : ℕ) → In e (touch_at (case_branches t) touches m) → branch_component t e ≡ item_component t touches m
touched_component t v touches m e i =
    let of : ℕ → ℕ = case_vertex_component t in
    elim (touched-vertex (case_branches t) (slice_index_or touches m Nothing) e i) [ inl h ↦ ap of h | inr h ↦ ends_component t v e ∙ ap of h ]

placed_at : (t : Tables) → IsValid t → (e : ℕ) (o : Option Ends) → get_or (case_branches t) e None ≡ o → IsSome o → IsPlaced t (record { a = (both_ends o).0; b = (both_ends o).1 }) (case_vertex_component t (both_ends o).0)
placed_at t v e None h s = absurd (cc s)
placed_at t v e (Some x) h s = placed t v e x h

-- where a branch that is present lies
pub present_placed : (t : Tables) → IsValid t → (e : ℕ) → IsSome (slice_index_or (case_branches t) e None) → IsPlaced t (record { a = (ends_at (case_branches t) e).0; b = (ends_at (case_branches t) e).1 }) (branch_component t e)
present_placed t v e s = placed_at t v e (get_or (case_branches t) e None) refl s

-- it is of an energised component
pub present_energised : (t : Tables) → IsValid t → (e : ℕ) → IsSome (slice_index_or (case_branches t) e None) → is_energised_component t (branch_component t e) ≡ true
present_energised t v e s = (present_placed t v e s).energised

pub present_below : (t : Tables) → IsValid t → (e : ℕ) → IsSome (slice_index_or (case_branches t) e None) → ((ends_at (case_branches t) e).0 < case_vertex_count t) × ((ends_at (case_branches t) e).1 < case_vertex_count t)
present_below t v e s =
    let p = present_placed t v e s in
    let bus = p.bus in
    (omega (arith, bus), p.low)

pub branch_component-below : (t : Tables) → IsValid t → (e : ℕ) → IsSome (slice_index_or (case_branches t) e None) → branch_component t e < case_component_count t
branch_component-below t v e s = (present_placed t v e s).few
