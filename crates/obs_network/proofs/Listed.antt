-- The lists of live meters, and the components of branches and items.
use Rattle.std.proofs.Common.{◌≡◌, ◌↔◌, ℕ, suc, ◌+◌, ◌<◌, inl, inr, Bool, true, false, ◌&&◌, Option, Some, None, List, [], ◌∷◌, length, filter, map, get_or, refl, sym, ap, ◌∙◌, subst, arith}
use Rattle.std.specs.Prelude.{All, IsSome, nat_lt, slice_index_or, ◌==◌, if◌then◌else◌}
use Rattle.std.specs.List.{range_with_len}
use Rattle.std.proofs.lemmas.Bool.{cases_Bool, cases_lt, eq-eqb, eqb-true, ne_eqb}
use Rattle.std.proofs.lemmas.List.{get_or-map, get_or_past, length-map}
use Rattle.std.proofs.lemmas.Option.{same_Some}
use Rattle.obs_graph.specs.declared.Ends.{Ends}
use Rattle.obs_graph.specs.Positions.{positions_from}
use Rattle.obs_graph.specs.Graph.{Graph}
use Rattle.obs_case.specs.Tables.{Tables, IsValid}
use Rattle.obs_matroid.specs.Lists.{In, IsRising}
use Rattle.obs_matroid.specs.Assignments.{Pair}
use Rattle.obs_matroid.proofs.Contained.{All-from_In}
use Rattle.obs_matroid.proofs.Lists.{In-filter, In-filter_from}
use Rattle.obs_matroid.proofs.Ranges.{range_in, range_rising, rising_filter}
use Rattle.obs_meter.specs.declared.Touch.{Touch}
use Rattle.obs_meter.specs.declared.Touch.TheVariants.{Nothing}
use Rattle.obs_meter.specs.Assignments.{IsAssignmentAt}
use Rattle.obs_meter.specs.Held.{Meters}
use Rattle.obs_meter.specs.Spanned.{both_ends, common_vertex}
use Rattle.obs_meter.specs.Touches.{every_item, is_live, live_items, touch_at, touched}
use Rattle.obs_meter.proofs.Touched.{live-from_In, touched-present}
use Rattle.obs_switch.specs.Groups.{items_with}
use Rattle.obs_network.specs.Network.{Components, Network, case_branches, case_component_count, case_components, case_meters, case_offered, case_vertex_component, network_of}
use Rattle.obs_network.specs.Components.{vertex_component}
use Rattle.obs_network.specs.Located.{component_of_item, touch_component}
use Rattle.obs_network.specs.inner.Located.{component_of_branch, ends_component, is_meter_in, live_meters_of}
use Rattle.obs_network.specs.Observable.{branch_component, case_live_meters, is_energised_component, item_component}
use Rattle.obs_network.specs.inner.Kept.{list_of, lists_of}
use Rattle.obs_network.proofs.InComponents.{branch_component-below, placed, present_energised, touched_component}
use Rattle.obs_network.proofs.Marked.{filtered_below}

-- the positions of a key are the numbers that pass two tests, where just these have the key
passing : (p q : ℕ → Bool) (key : ℕ) (keys : List ℕ) (i : ℕ) → ((k : ℕ) → k < length keys → (get_or keys k 0 == key) ≡ (q (i + k) && p (i + k)))
    → positions_from (λ b. b == key) i keys ≡ filter p (filter q (range_with_len i (length keys)))
passing p q key [] i same = refl
passing p q key (x ∷ keys) i same =
    let start : i + 0 ≡ i = omega arith in
    let next : i + 1 ≡ suc i = omega arith in
    let here : (x == key) ≡ (q i && p i) = subst (λ (n : ℕ). (x == key) ≡ (q n && p n)) start (same 0 (omega arith)) in
    let rest : positions_from (λ b. b == key) (suc i) keys ≡ filter p (filter q (range_with_len (i + 1) (length keys))) =
    ap (λ (n : ℕ). positions_from (λ b. b == key) n keys) (sym next)
    ∙ passing p q key keys (i + 1) (λ k l. let e : i + suc k ≡ i + 1 + k = omega arith in subst (λ (n : ℕ). (get_or keys k 0 == key) ≡ (q n && p n)) e (same (suc k) (omega (arith, l)))) in
    elim (cases_Bool (q i)) [
      | inr b ↦ rw (here, b) rest
      | inl b ↦ elim (cases_Bool (p i)) [
        | inr c ↦ rw (here, b, c) rest
        | inl c ↦ rw (here, b, c) (ap (λ (l : List ℕ). i ∷ l) rest)
      ]
    ]

-- a live meter is in the list of its component, and an idle one in none of a component
in_list : (count c home : ℕ) (live : Bool) → c < count → (list_of count (if live then Some home else None) == c) ≡ (live && (home == c))
in_list count c home true l = refl
in_list count c home false l = ne_eqb count c (λ e. absurd (omega (arith, e, l)))

-- the list of a component has its live meters
pub listed_meters : (components : Components) (graph : Graph) (meters : Meters) (c : ℕ) → c < length components.first_buses
    → items_with (lists_of components graph meters) c
    ≡ filter (λ m. vertex_component components.of_buses (common_vertex graph.ends (slice_index_or meters.touches m Nothing)) == c) (live_items graph.ends meters.touches)
listed_meters components graph meters c l =
    let count = length components.first_buses in
    let touches = meters.touches in
    let list : Touch → ℕ = λ touch. list_of count (touch_component components.of_buses graph.ends touch) in
    let home : ℕ → ℕ = λ m. vertex_component components.of_buses (common_vertex graph.ends (slice_index_or touches m Nothing)) in
    let live : ℕ → Bool = is_live graph.ends touches in
    let same = length-map touches list in
    let at : (k : ℕ) → k < length (map list touches) → (get_or (map list touches) k 0 == c) ≡ (live (0 + k) && (home (0 + k) == c)) =
    λ k low.
    let e : 0 + k ≡ k = omega arith in
    rw e (ap (λ (x : ℕ). x == c) (get_or-map list touches k Nothing 0 (omega (arith, low, same))) ∙ in_list count c (home k) (live k) l) in
    passing (λ m. home m == c) live c (map list touches) 0 at ∙ ap (λ (n : ℕ). filter (λ m. home m == c) (filter live (range_with_len 0 n))) same

pub live_meters-below : (n : Network) (c : ℕ) → All (λ m. m < length n.meters.touches) (live_meters_of n c)
live_meters-below n c =
    All-from_In (λ m. m < length n.meters.touches) (live_meters_of n c)
    (λ m i. let low = filtered_below (is_live n.graph.ends n.meters.touches) 0 (length n.meters.touches) m (In-filter_from (is_meter_in n c) m (live_items n.graph.ends n.meters.touches) i).0 in omega (arith, low))

pub live_meters-rising : (n : Network) (c : ℕ) → IsRising (live_meters_of n c)
live_meters-rising n c =
    rising_filter (is_meter_in n c) (live_items n.graph.ends n.meters.touches)
    (rising_filter (is_live n.graph.ends n.meters.touches) (every_item n.meters.touches) (range_rising 0 (length n.meters.touches)))

pub one_list : (n : Network) (c d m : ℕ) → In m (live_meters_of n c) → In m (live_meters_of n d) → c ≡ d
one_list n c d m i j =
    let live = live_items n.graph.ends n.meters.touches in
    let home = vertex_component n.components.of_buses (common_vertex n.graph.ends (slice_index_or n.meters.touches m Nothing)) in
    sym (eqb-true home c (In-filter_from (is_meter_in n c) m live i).1) ∙ eqb-true home d (In-filter_from (is_meter_in n d) m live j).1

some_branch : (L : List ℕ) → nat_lt 0 (length L) ≡ true → (e : ℕ) × In e L
some_branch [] t = absurd (cc t)
some_branch (e ∷ L) t = (e, inl refl)

live_of : (t : Tables) (m : ℕ) → In m (case_live_meters t) → is_live (case_branches t) (case_meters t) m ≡ true
live_of t m i = (In-filter_from (is_live (case_branches t) (case_meters t)) m (every_item (case_meters t)) i).1

live_in : (t : Tables) (m : ℕ) → is_live (case_branches t) (case_meters t) m ≡ true → In m (case_live_meters t)
live_in t m live =
    let low : m < length (case_meters t) = elim (cases_lt m (length (case_meters t))) [
      | inl l ↦ l
      | inr past ↦ absurd (idle (slice_index_or (case_meters t) m Nothing) (get_or_past (case_meters t) m Nothing past) live)
    ] in
    In-filter (is_live (case_branches t) (case_meters t)) m (every_item (case_meters t)) (range_in 0 (length (case_meters t)) m (omega arith) (omega (arith, low))) live
  where
    idle : (touch : Touch) → touch ≡ Nothing → nat_lt 0 (length (touched (case_branches t) touch)) ≡ true → ⊥
    idle touch e live = cc (rw e at live)

-- a present branch has a component
present_component : (t : Tables) (e : ℕ) (o : Option Ends) → get_or (case_branches t) e None ≡ o → IsSome o → ends_component (case_components t) o ≡ Some (case_vertex_component t (both_ends o).0)
present_component t e None same s = absurd (cc s)
present_component t e (Some x) same s = refl

pub branch_in : (t : Tables) (e : ℕ) → IsSome (slice_index_or (case_branches t) e None) → component_of_branch (network_of t) e ≡ Some (branch_component t e)
branch_in t e s = present_component t e (get_or (case_branches t) e None) refl s

-- the live meters of a component are those that touch one of its branches
pub live_meters-touch : (t : Tables) → IsValid t → (c m : ℕ)
    → In m (live_meters_of (network_of t) c) ↔ (e : ℕ) × In e (touch_at (case_branches t) (case_meters t) m) × (component_of_branch (network_of t) e ≡ Some c)
live_meters-touch t v c m = (
  (λ i.
      let passed = In-filter_from (is_meter_in (network_of t) c) m (case_live_meters t) i in
      let b = some_branch (touch_at (case_branches t) (case_meters t) m) (live_of t m passed.0) in
      let there = touched-present (case_branches t) (slice_index_or (case_meters t) m Nothing) b.0 b.1 in
      let same : branch_component t b.0 ≡ c = touched_component t v (case_meters t) m b.0 b.1 ∙ eqb-true (item_component t (case_meters t) m) c passed.1 in
      (b.0, b.1, branch_in t b.0 there ∙ ap (λ (k : ℕ). Some k) same)),
  (λ b.
      let there = touched-present (case_branches t) (slice_index_or (case_meters t) m Nothing) b.0 b.1 in
      let same : branch_component t b.0 ≡ c = same_Some (branch_component t b.0) c (sym (branch_in t b.0 there) ∙ b.2) in
      let home : item_component t (case_meters t) m ≡ c = sym (touched_component t v (case_meters t) m b.0 b.1) ∙ same in
      In-filter (is_meter_in (network_of t) c) m (case_live_meters t) (live_in t m (live-from_In (case_branches t) (case_meters t) m b.0 b.1)) (eq-eqb (item_component t (case_meters t) m) c home)),
)

nothing_in : (A : List Pair) → ((p : Pair) → In p A → ⊥) → A ≡ []
nothing_in [] none = refl
nothing_in (p ∷ A) none = absurd (none p (inl refl))

-- no pair of an assignment lies in a component without a live meter
pub no_pairs_in : (t : Tables) → IsValid t → (c : ℕ) → live_meters_of (network_of t) c ≡ [] → (M : List ℕ) (A : List Pair) → IsAssignmentAt (case_branches t) (case_meters t) M A
    → filter (λ p. branch_component t p.1 == c) A ≡ []
no_pairs_in t v c lone M A assigns =
    nothing_in (filter (λ p. branch_component t p.1 == c) A) (λ p i.
    let lies = In-filter_from (λ (q : Pair). branch_component t q.1 == c) p A i in
    let e = assigns.touched p lies.0 in
    let there = touched-present (case_branches t) (slice_index_or (case_meters t) p.0 Nothing) p.1 e in
    let home = branch_in t p.1 there ∙ ap (λ (k : ℕ). Some k) (eqb-true (branch_component t p.1) c lies.1) in
    subst (λ (l : List ℕ). In p.0 l) lone ((live_meters-touch t v c p.0).1 (p.1, e, home)))

pub some_list : (t : Tables) → IsValid t → (m : ℕ) → In m (case_live_meters t) → (c : ℕ) × (c < case_component_count t) × In m (live_meters_of (network_of t) c)
some_list t v m i =
    let home = item_component t (case_meters t) m in
    let b = some_branch (touch_at (case_branches t) (case_meters t) m) (live_of t m i) in
    let there = touched-present (case_branches t) (slice_index_or (case_meters t) m Nothing) b.0 b.1 in
    let low = branch_component-below t v b.0 there in
    let same = touched_component t v (case_meters t) m b.0 b.1 in
    (home, omega (arith, low, same), In-filter (is_meter_in (network_of t) home) m (case_live_meters t) i (eq-eqb home home refl))

-- both ends of a branch lie in its component
pub both_ends_in : (t : Tables) → IsValid t → (e : ℕ) (x : Ends) → slice_index_or (case_branches t) e None ≡ Some x
    → (component_of_branch (network_of t) e ≡ Some (case_vertex_component t x.a)) × (component_of_branch (network_of t) e ≡ Some (case_vertex_component t x.b))
both_ends_in t v e x h =
    let a : component_of_branch (network_of t) e ≡ Some (case_vertex_component t x.a) = ap (ends_component (case_components t)) h in
    (a, a ∙ ap (λ (k : ℕ). Some k) (sym (placed t v e x h).at_b))

pub absent_in_none : (t : Tables) (e : ℕ) → slice_index_or (case_branches t) e None ≡ None → component_of_branch (network_of t) e ≡ None
absent_in_none t e h = ap (ends_component (case_components t)) h

fed_from : (t : Tables) → IsValid t → (e c : ℕ) (o : Option Ends) → get_or (case_branches t) e None ≡ o → ends_component (case_components t) o ≡ Some c → IsSome o
fed_from t v e c None h same = absurd (cc same)
fed_from t v e c (Some x) h same = refl

-- a component with a branch is energised
pub component_with_branch : (t : Tables) → IsValid t → (e c : ℕ) → component_of_branch (network_of t) e ≡ Some c → (c < case_component_count t) × (is_energised_component t c ≡ true)
component_with_branch t v e c h =
    let there : IsSome (slice_index_or (case_branches t) e None) = fed_from t v e c (get_or (case_branches t) e None) refl h in
    let same : branch_component t e ≡ c = same_Some (branch_component t e) c (sym (branch_in t e there) ∙ h) in
    let low = branch_component-below t v e there in
    (omega (arith, low, same), sym (ap (is_energised_component t) same) ∙ present_energised t v e there)

-- an item lies in the component of what it touches
pub item_in : (t : Tables) → IsValid t → (m e : ℕ) → In e (touch_at (case_branches t) (case_offered t) m) → component_of_item (network_of t) m ≡ component_of_branch (network_of t) e
item_in t v m e i =
    let live : is_live (case_branches t) (case_offered t) m ≡ true = live-from_In (case_branches t) (case_offered t) m e i in
    let home : ℕ = item_component t (case_offered t) m in
    let there = touched-present (case_branches t) (slice_index_or (case_offered t) m Nothing) e i in
    let is : component_of_item (network_of t) m ≡ Some home = ap (λ (b : Bool). if b then Some home else None) live in
    is ∙ (ap (λ (k : ℕ). Some k) (sym (touched_component t v (case_offered t) m e i)) ∙ sym (branch_in t e there))

pub idle_in_none : (t : Tables) (m : ℕ) → touch_at (case_branches t) (case_offered t) m ≡ [] → component_of_item (network_of t) m ≡ None
idle_in_none t m none =
    let home : ℕ = item_component t (case_offered t) m in
    ap (λ (xs : List ℕ). if nat_lt 0 (length xs) then Some home else None) none
