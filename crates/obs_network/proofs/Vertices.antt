-- The vertices of a case: its buses, and the reference vertices of its components. Angle branches, and how many vertices a component has.
use Rattle.std.proofs.Common.{◌≡◌, ℕ, zero, suc, ◌+◌, ◌-◌, ◌<◌, ◌≤◌, Bool, true, false, ◌&&◌, ◌||◌, ◌⊎◌, Option, Some, None, List, [], ◌∷◌, ◌++◌, length, map, filter, get_or, refl, sym, ap, ◌∙◌, arith, inl, inr, length-append}
use Rattle.std.specs.Prelude.{cond, nat_lt, slice_index, ◌==◌}
use Rattle.std.specs.List.{range_with_len}
use Rattle.std.proofs.lemmas.Bool.{cases_Bool, cases_lt, cond-false, cond-true, eq-eqb, le-ltb, lt-ltb, ne_eqb, true≢false}
use Rattle.std.proofs.lemmas.List.{get_or-map, get_or-append_right, get_or_append_left, length-map}
use Rattle.std.proofs.lemmas.List.Elements.{filter-append}
use Rattle.std.proofs.lemmas.List.Sums.{length-filter}
use Rattle.std.proofs.lemmas.Option.{cond_some}
use Rattle.obs_graph.specs.declared.Ends.{Ends}
use Rattle.obs_graph.specs.Positions.{present}
use Rattle.obs_graph.proofs.Present.{none_some, some_is_in}
use Rattle.obs_matroid.proofs.Ranges.{range_append}
use Rattle.obs_case.specs.declared.rows.Candidate.{Candidate}
use Rattle.obs_case.specs.declared.rows.Kind.{Kind}
use Rattle.obs_case.specs.declared.rows.Kind.TheVariants.{Flow, Injection, Zero, Angle}
use Rattle.obs_case.specs.declared.rows.Meter.{Meter}
use Rattle.obs_case.specs.Items.{is_angle, is_angle_kind}
use Rattle.obs_case.specs.Tables.{Tables, IsValid, places}
use Rattle.obs_network.specs.Switched.{case_bus_count, case_buses}
use Rattle.obs_network.specs.Components.{vertex_component}
use Rattle.obs_network.specs.Angles.{bus_angle, has_angle, item_angle, reference_of, takes_angles}
use Rattle.obs_network.specs.inner.Edited.{reference_vertex}
use Rattle.obs_network.specs.Network.{case_absolute, case_angles, case_branches, case_component_count, case_components, case_energised, case_item_count, case_live, case_need, case_rows, case_sizes, case_vertex_component, case_vertex_count}
use Rattle.obs_network.specs.Observable.{is_absolute_component, is_vertex_of}
use Rattle.obs_network.proofs.Grouping.{size-some, sizes_of-at}
use Rattle.obs_network.proofs.Items.{is_angle-candidate, is_angle-meter, some_row}
use Rattle.obs_network.proofs.OfCase.{case_bus-below, length-case_angles, length-case_components, length-case_rows}

-- the component of a vertex, of both sorts
pub vertex_component-bus : (components : List ℕ) (v : ℕ) → v < length components → vertex_component components v ≡ slice_index components v
vertex_component-bus components v l = cond-true _ (slice_index components v) (v - length components) (lt-ltb v (length components) l)

pub vertex_component-reference : (components : List ℕ) (c : ℕ) → vertex_component components (reference_of components c) ≡ c
vertex_component-reference components c =
    let v = length components + c in
    cond-false _ (slice_index components v) (v - length components) (le-ltb v (length components) (omega arith)) ∙ omega arith

pub case_vertex_component-bus : (t : Tables) (v : ℕ) → v < case_bus_count t → case_vertex_component t v ≡ slice_index (case_components t) v
case_vertex_component-bus t v l = vertex_component-bus (case_components t) v (omega (arith, l, length-case_components t))

pub case_vertex_component-reference : (t : Tables) (c : ℕ) → case_vertex_component t (case_bus_count t + c) ≡ c
case_vertex_component-reference t c =
    ap (λ n. case_vertex_component t (n + c)) (sym (length-case_components t)) ∙ vertex_component-reference (case_components t) c

-- the nodes or branches at which the items stand
unfoldable pub item_sites : Tables → List ℕ
item_sites t = map (λ (row : Meter). row.at) t.meters ++ map (λ (row : Candidate). row.at) t.candidates

-- a present angle branch: of which item it is, and that it leads from the bus of its node to that bus's reference vertex
pub record IsAngleBranch (t : Tables) (m : ℕ) (x : Ends) : Type 0 where
  pub few : m < case_item_count t
  pub flag : is_angle t m ≡ true
  pub node : slice_index (item_sites t) m < length t.nodes
  pub bus : x.a ≡ slice_index (case_buses t) (slice_index (item_sites t) m)
  pub low : x.a < case_bus_count t
  pub reference : x.b ≡ reference_vertex t x.a
  pub takes : takes_angles (case_energised t) (case_absolute t) (slice_index (case_components t) x.a) ≡ true

angle_kind : (buses components : List ℕ) (energised absolute : List Bool) (kind : Kind) (at : ℕ) (x : Ends) → item_angle buses components energised absolute kind at ≡ Some x
    → (is_angle_kind kind ≡ true) × (bus_angle components energised absolute (slice_index buses at) ≡ Some x)
angle_kind buses components energised absolute Flow at x is = absurd (none_some x is)
angle_kind buses components energised absolute Injection at x is = absurd (none_some x is)
angle_kind buses components energised absolute Zero at x is = absurd (none_some x is)
angle_kind buses components energised absolute Angle at x is = (refl, is)

node_place : (t : Tables) (kind : Kind) (at : ℕ) → is_angle_kind kind ≡ true → at < places t kind → at < length t.nodes
node_place t Flow at e l = absurd (true≢false (sym e))
node_place t Injection at e l = l
node_place t Zero at e l = l
node_place t Angle at e l = l

-- the angle branch of a row that stands for an item
of_row : (t : Tables) (m : ℕ) (kind : Kind) (at : ℕ) (x : Ends) → m < case_item_count t → is_angle t m ≡ is_angle_kind kind → slice_index (item_sites t) m ≡ at → at < places t kind
    → item_angle (case_buses t) (case_components t) (case_energised t) (case_absolute t) kind at ≡ Some x → IsAngleBranch t m x
of_row t m kind at x few flag site low is =
    let k = angle_kind (case_buses t) (case_components t) (case_energised t) (case_absolute t) kind at x is in
    let bus = slice_index (case_buses t) at in
    let takes = takes_angles (case_energised t) (case_absolute t) (slice_index (case_components t) bus) in
    let ends : Ends = record { a = bus; b = reference_of (case_components t) (slice_index (case_components t) bus) } in
    let c = cond_some takes ends x k.1 in
    let node = node_place t kind at k.0 low in
    let here : x.a ≡ bus = sym (ap (λ (e : Ends). e.a) c.1) in
    let below = case_bus-below t at node in
    record {
      few = few;
      flag = flag ∙ k.0;
      node = rw site node;
      bus = here ∙ ap (λ u. slice_index (case_buses t) u) (sym site);
      low = omega (arith, here, below);
      reference = sym (ap (λ (e : Ends). e.b) c.1) ∙ ap (reference_vertex t) (sym here);
      takes = ap (λ u. takes_angles (case_energised t) (case_absolute t) (slice_index (case_components t) u)) here ∙ c.0;
    }

pub angle_branch-at : (t : Tables) → IsValid t → (m : ℕ) (x : Ends) → get_or (case_angles t) m None ≡ Some x → IsAngleBranch t m x
unfolding case_angles item_sites
angle_branch-at t v m x is =
    let of : Kind → ℕ → Option Ends = item_angle (case_buses t) (case_components t) (case_energised t) (case_absolute t) in
    let fm : Meter → Option Ends = λ row. of row.kind row.at in
    let fc : Candidate → Option Ends = λ row. of row.kind row.at in
    let sm : Meter → ℕ = λ row. row.at in
    let sc : Candidate → ℕ = λ row. row.at in
    let all : has_angle t ≡ true = some_angle in
    let some : get_or (map fm t.meters ++ map fc t.candidates) m None ≡ Some x = sym (ap (λ (l : List (Option Ends)). get_or l m None) (cond-true (has_angle t) (map fm t.meters ++ map fc t.candidates) [] all)) ∙ is in
    let few : m < case_item_count t = omega (arith, some_is_in (case_angles t) m x is, length-case_angles t, cond-true {A = ℕ} (has_angle t) (case_item_count t) 0 all) in
    elim (cases_lt m (length t.meters)) [
      | inl l ↦
          let d = some_row t.meters m l in
          of_row t m (get_or t.meters m d).kind (get_or t.meters m d).at x few (is_angle-meter t m d l)
          (get_or_append_left (map sm t.meters) (map sc t.candidates) 0 m (omega (arith, l, length-map t.meters sm)) ∙ get_or-map sm t.meters m d 0 l)
          (v.meter_places m d l)
          (sym (get_or_append_left (map fm t.meters) (map fc t.candidates) None m (omega (arith, l, length-map t.meters fm)) ∙ get_or-map fm t.meters m d None l) ∙ some)
      | inr past ↦
          let k = m - length t.meters in
          let l : k < length t.candidates = omega (arith, past, few) in
          let d = some_row t.candidates k l in
          of_row t m (get_or t.candidates k d).kind (get_or t.candidates k d).at x few (is_angle-candidate t m d past few)
          (get_or-append_right (map sm t.meters) (map sc t.candidates) (length t.meters) m 0 (length-map t.meters sm) past ∙ get_or-map sc t.candidates k d 0 l)
          (v.candidate_places k d l)
          (sym (get_or-append_right (map fm t.meters) (map fc t.candidates) (length t.meters) m None (length-map t.meters fm) past ∙ get_or-map fc t.candidates k d None l) ∙ some)
    ]
  where
    some_angle : has_angle t ≡ true
    some_angle = elim (cases_Bool (has_angle t)) [ inl e ↦ e | inr e ↦ absurd (none_some x (rw e at is)) ]

-- a branch is a row or an angle branch
pub row_or_angle : (t : Tables) → IsValid t → (e : ℕ) (x : Ends) → get_or (case_branches t) e None ≡ Some x
    → ((e < length t.branches) × (get_or (case_rows t) e None ≡ Some x)) ⊎ ((length t.branches ≤ e) × IsAngleBranch t (e - length t.branches) x)
unfolding case_branches
row_or_angle t v e x is =
    elim (cases_lt e (length t.branches)) [
      | inl l ↦ inl (l, sym (get_or_append_left (case_rows t) (case_angles t) None e (omega (arith, l, length-case_rows t))) ∙ is)
      | inr past ↦ inr (past, angle_branch-at t v (e - length t.branches) x (sym (get_or-append_right (case_rows t) (case_angles t) (length t.branches) e None (length-case_rows t) past) ∙ is))
    ]

-- the vertices of a component
abbrev pub vertices_of_component : Tables → ℕ → List ℕ
vertices_of_component t c = filter (is_vertex_of t c) (range_with_len 0 (case_vertex_count t))

none_passes : (p : ℕ → Bool) (a n : ℕ) → ((k : ℕ) → k < n → p (a + k) ≡ false) → filter p (range_with_len a n) ≡ []
none_passes p a zero none = refl
none_passes p a (suc n) none =
    let start : a + 0 ≡ a = omega arith in
    let here : p a ≡ false = ap p (sym start) ∙ none 0 (omega arith) in
    let rest = none_passes p (a + 1) n (λ k l. let e : a + 1 + k ≡ a + suc k = omega arith in ap p e ∙ none (suc k) (omega (arith, l))) in
    rw here rest

-- one number passes where b is true, and no other
one_passes : (p : ℕ → Bool) (b : Bool) (c a n : ℕ) → c < n → p (a + c) ≡ b → ((k : ℕ) → k < n → (k ≡ c → ⊥) → p (a + k) ≡ false) → length (filter p (range_with_len a n)) ≡ cond b 1 0
one_passes p b c a zero l is others = absurd (omega (arith, l))
one_passes p b zero a (suc n) l is others =
    let start : a ≡ a + 0 = omega arith in
    let here : p a ≡ b = ap p start ∙ is in
    let rest = none_passes p (a + 1) n (λ k low. let e : a + 1 + k ≡ a + suc k = omega arith in ap p e ∙ others (suc k) (omega (arith, low)) (λ z. omega (arith, z))) in
    rw (here, rest) (elim (cases_Bool b) [ inl e ↦ rw e refl | inr e ↦ rw e refl ])
one_passes p b (suc c) a (suc n) l is others =
    let start : a ≡ a + 0 = omega arith in
    let here : p a ≡ false = ap p start ∙ others 0 (omega arith) (λ z. omega (arith, z)) in
    let next : a + 1 + c ≡ a + suc c = omega arith in
    rw here (one_passes p b c (a + 1) n (omega (arith, l)) (ap p next ∙ is)
    (λ k low other. let e : a + 1 + k ≡ a + suc k = omega arith in ap p e ∙ others (suc k) (omega (arith, low)) (λ z. other (omega (arith, z)))))

-- as many numbers pass as entries of a list are equal to c
pub counted_at : (xs : List ℕ) (c a : ℕ) (p : ℕ → Bool) → ((k : ℕ) → k < length xs → p (a + k) ≡ (get_or xs k 0 == c)) → length (filter p (range_with_len a (length xs))) ≡ length (filter (λ x. x == c) xs)
counted_at [] c a p same = refl
counted_at (x ∷ xs) c a p same =
    let start : a ≡ a + 0 = omega arith in
    let here : p a ≡ (x == c) = ap p start ∙ same 0 (omega arith) in
    let rest = counted_at xs c (a + 1) p (λ k l. let e : a + 1 + k ≡ a + suc k = omega arith in ap p e ∙ same (suc k) (omega (arith, l))) in
    elim (cases_Bool (x == c)) [ inl e ↦ rw (here, e) (ap suc rest) | inr e ↦ rw (here, e) rest ]

and_whole : (a b c : Bool) → b ≡ true → (a && (b || c)) ≡ a
and_whole true b c e = rw e refl
and_whole false b c e = refl

and_rest : (a b c d : Bool) → a ≡ d → b ≡ false → (a && (b || c)) ≡ (d && c)
and_rest a b c d e f = rw (e, f) refl

-- a bus is a vertex of its component
pub is_vertex_of-bus : (t : Tables) (c v : ℕ) → v < case_bus_count t → is_vertex_of t c v ≡ (slice_index (case_components t) v == c)
is_vertex_of-bus t c v l =
    and_whole (case_vertex_component t v == c) (nat_lt v (case_bus_count t)) (is_absolute_component t c) (lt-ltb v (case_bus_count t) l)
    ∙ ap (λ k. k == c) (case_vertex_component-bus t v l)

-- and a reference vertex where the component is absolute
pub is_vertex_of-reference : (t : Tables) (c k : ℕ) → is_vertex_of t c (case_bus_count t + k) ≡ ((k == c) && is_absolute_component t c)
is_vertex_of-reference t c k =
    let v = case_bus_count t + k in
    and_rest (case_vertex_component t v == c) (nat_lt v (case_bus_count t)) (is_absolute_component t c) (k == c)
    (ap (λ i. i == c) (case_vertex_component-reference t k)) (le-ltb v (case_bus_count t) (omega arith))

-- the vertices of a component are its buses, and one more where it is absolute
pub vertices_are : (t : Tables) (c : ℕ) → c < case_component_count t → length (vertices_of_component t c) ≡ slice_index (case_sizes t) c + cond (is_absolute_component t c) 1 0
unfolding case_sizes
vertices_are t c l =
    let p = is_vertex_of t c in
    let n = case_bus_count t in
    let k = case_component_count t in
    let zero_n : 0 + n ≡ n = omega arith in
    let split : vertices_of_component t c ≡ filter p (range_with_len 0 n) ++ filter p (range_with_len n k) =
    ap (filter p) (range_append 0 n k) ∙ filter-append p (range_with_len 0 n) (range_with_len (0 + n) k) ∙ ap (λ i. filter p (range_with_len 0 n) ++ filter p (range_with_len i k)) zero_n in
    let buses : length (filter p (range_with_len 0 n)) ≡ length (filter (λ x. x == c) (case_components t)) =
    ap (λ i. length (filter p (range_with_len 0 i))) (sym (length-case_components t))
    ∙ counted_at (case_components t) c 0 p (λ i low. let e : 0 + i ≡ i = omega arith in ap p e ∙ is_vertex_of-bus t c i (omega (arith, low, length-case_components t))) in
    let reference : length (filter p (range_with_len n k)) ≡ cond (is_absolute_component t c) 1 0 =
    one_passes p (is_absolute_component t c) c n k l
    (is_vertex_of-reference t c c ∙ rw (eq-eqb c c refl) refl)
    (λ i low other. is_vertex_of-reference t c i ∙ rw (ne_eqb i c other) refl) in
    let size = sizes_of-at k (case_components t) c 0 l ∙ sym (length-filter (λ x. x == c) (case_components t)) in
    omega (arith, ap (λ (xs : List ℕ). length xs) split, length-append (filter p (range_with_len 0 n)) (filter p (range_with_len n k)), buses, reference, size)

-- each component has a bus
pub case_size-some : (t : Tables) (c : ℕ) → c < case_component_count t → 0 < slice_index (case_sizes t) c
unfolding case_sizes case_components case_component_count
case_size-some t c l =
    let live = present (case_live t) in
    omega (arith, sizes_of-at (case_component_count t) (case_components t) c 0 l, size-some (case_bus_count t) live c l)

-- it needs one pair fewer than it has vertices
pub need_is : (t : Tables) (c : ℕ) → c < case_component_count t → suc (case_need t c) ≡ length (vertices_of_component t c)
need_is t c l =
    let size = slice_index (case_sizes t) c in
    let all = vertices_are t c l in
    let some = case_size-some t c l in
    elim (cases_Bool (is_absolute_component t c)) [
      | inl e ↦ omega (arith, all, cond-true {A = ℕ} (is_absolute_component t c) 1 0 e, cond-true {A = ℕ} (is_absolute_component t c) size (size - 1) e)
      | inr e ↦ omega (arith, all, some, cond-false {A = ℕ} (is_absolute_component t c) 1 0 e, cond-false {A = ℕ} (is_absolute_component t c) size (size - 1) e)
    ]
