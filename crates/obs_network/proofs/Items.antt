-- The items of a case by their numbers: what they touch, and which of them are angle items.
use Rattle.std.proofs.Common.{◌≡◌, ◌⊎◌, ℕ, zero, suc, ◌+◌, ◌-◌, ◌<◌, ◌≤◌, Bool, true, false, Option, List, [], ◌∷◌, length, map, get_or, sym, ap, ◌∙◌, subst, arith, inl, inr, length-append}
use Rattle.std.specs.Prelude.{slice_index_or}
use Rattle.std.proofs.lemmas.Bool.{cases_Bool, cases_lt, cond-true, cond-false, true≢false}
use Rattle.std.proofs.lemmas.List.{get_or-map, get_or-append_right, get_or_append_left, get_or_default, get_or_past, length-map}
use Rattle.std.proofs.lemmas.List.Folds.{list_any_at}
use Rattle.obs_graph.specs.declared.Ends.{Ends}
use Rattle.obs_graph.specs.Positions.{branches_at, has_end, positions_from}
use Rattle.obs_graph.specs.Graph.{Graph}
use Rattle.obs_graph.proofs.AtVertex.{branches_at-append}
use Rattle.obs_case.specs.declared.rows.Candidate.{Candidate}
use Rattle.obs_case.specs.declared.rows.Kind.{Kind}
use Rattle.obs_case.specs.declared.rows.Kind.TheVariants.{Flow, Injection, Zero, Angle}
use Rattle.obs_case.specs.declared.rows.Meter.{Meter}
use Rattle.obs_case.specs.Items.{angle_flags, is_angle, is_angle_kind}
use Rattle.obs_case.specs.Tables.{Tables, IsValid, places}
use Rattle.obs_meter.specs.declared.Touch.{Touch}
use Rattle.obs_meter.specs.declared.Touch.TheVariants.{Nothing}
use Rattle.obs_meter.specs.inner.Touches.{IsInRange, AreInRange}
use Rattle.obs_network.specs.Switched.{case_buses}
use Rattle.obs_network.specs.Angles.{has_angle}
use Rattle.obs_network.specs.Touching.{candidate_touch, candidate_touches, meter_touch, meter_touches, touch_of}
use Rattle.obs_network.specs.Network.{case_angles, case_branches, case_item_count, case_meters, case_offered, case_rows, case_vertex_count}
use Rattle.obs_network.proofs.OfCase.{case_bus-below, length-case_branches, length-case_meters, length-case_offered, length-case_rows, length-meter_touches}

-- what stands in a list that has some number of a row
pub some_row : {X : Type 0} (xs : List X) (k : ℕ) → k < length xs → X
some_row [] k l = absurd (omega (arith, l))
some_row (x ∷ xs) k l = x

-- each row by its number
pub meter_touches-at : (rows : List (Option Ends)) (buses : List ℕ) (m : ℕ) (meters : List Meter) (k : ℕ) (d : Meter) → k < length meters
    → get_or (meter_touches rows buses m meters) k Nothing ≡ meter_touch rows buses (m + k) (get_or meters k d)
meter_touches-at rows buses m [] k d l = absurd (omega (arith, l))
meter_touches-at rows buses m (row ∷ meters) zero d l =
    let same : m ≡ m + 0 = omega arith in
    ap (λ i. meter_touch rows buses i row) same
meter_touches-at rows buses m (row ∷ meters) (suc k) d l =
    let same : suc m + k ≡ m + suc k = omega arith in
    meter_touches-at rows buses (suc m) meters k d (omega (arith, l)) ∙ ap (λ i. meter_touch rows buses i (get_or meters k d)) same

pub candidate_touches-at : (rows : List (Option Ends)) (buses : List ℕ) (m : ℕ) (candidates : List Candidate) (k : ℕ) (d : Candidate) → k < length candidates
    → get_or (candidate_touches rows buses m candidates) k Nothing ≡ candidate_touch rows buses (m + k) (get_or candidates k d)
candidate_touches-at rows buses m [] k d l = absurd (omega (arith, l))
candidate_touches-at rows buses m (row ∷ candidates) zero d l =
    let same : m ≡ m + 0 = omega arith in
    ap (λ i. candidate_touch rows buses i row) same
candidate_touches-at rows buses m (row ∷ candidates) (suc k) d l =
    let same : suc m + k ≡ m + suc k = omega arith in
    candidate_touches-at rows buses (suc m) candidates k d (omega (arith, l)) ∙ ap (λ i. candidate_touch rows buses i (get_or candidates k d)) same

-- a meter is the item of its number
pub meter_is_item : (t : Tables) (m : ℕ) → m < length t.meters → slice_index_or (case_offered t) m Nothing ≡ slice_index_or (case_meters t) m Nothing
unfolding case_offered case_meters
meter_is_item t m l =
    get_or_append_left (meter_touches (case_rows t) (case_buses t) 0 t.meters) (candidate_touches (case_rows t) (case_buses t) (length t.meters) t.candidates) Nothing m
    (omega (arith, l, length-meter_touches (case_rows t) (case_buses t) 0 t.meters))

abbrev meter_angle : Meter → Bool
meter_angle row = is_angle_kind row.kind

abbrev candidate_angle : Candidate → Bool
candidate_angle row = is_angle_kind row.kind

pub length-angle_flags : (t : Tables) → length (angle_flags t) ≡ case_item_count t
length-angle_flags t =
    length-append (map meter_angle t.meters) (map candidate_angle t.candidates)
    ∙ omega (arith, length-map t.meters meter_angle, length-map t.candidates candidate_angle)

-- which items are angle items, by their rows
pub is_angle-meter : (t : Tables) (m : ℕ) (d : Meter) → m < length t.meters → is_angle t m ≡ is_angle_kind (get_or t.meters m d).kind
is_angle-meter t m d l =
    get_or_append_left (map meter_angle t.meters) (map candidate_angle t.candidates) false m (omega (arith, l, length-map t.meters meter_angle))
    ∙ get_or-map meter_angle t.meters m d false l

pub is_angle-candidate : (t : Tables) (m : ℕ) (d : Candidate) → length t.meters ≤ m → m < case_item_count t → is_angle t m ≡ is_angle_kind (get_or t.candidates (m - length t.meters) d).kind
is_angle-candidate t m d past l =
    get_or-append_right (map meter_angle t.meters) (map candidate_angle t.candidates) (length t.meters) m false (length-map t.meters meter_angle) past
    ∙ get_or-map candidate_angle t.candidates (m - length t.meters) d false (omega (arith, past, l))

-- an angle item is one of the items
pub is_angle-low : (t : Tables) (m : ℕ) → is_angle t m ≡ true → m < case_item_count t
is_angle-low t m e =
    elim (cases_lt m (length (angle_flags t))) [
      | inl l ↦ omega (arith, l, length-angle_flags t)
      | inr past ↦ absurd (true≢false (sym e ∙ get_or_past (angle_flags t) m false past))
    ]

pub has_angle-from : (t : Tables) (m : ℕ) → is_angle t m ≡ true → has_angle t ≡ true
has_angle-from t m e = list_any_at (λ b. b) (angle_flags t) m false (omega (arith, is_angle-low t m e, length-angle_flags t)) e

-- what an item touches is nothing, or what its kind says
pub record IsItemAt (t : Tables) (m : ℕ) (touch : Touch) : Type 0 where
  pub kind : Kind
  pub at : ℕ
  pub low : at < places t kind
  pub flag : is_angle t m ≡ is_angle_kind kind
  pub is : (touch ≡ Nothing) ⊎ (touch ≡ touch_of (case_rows t) (case_buses t) m kind at)

meter_at : (t : Tables) → IsValid t → (m : ℕ) → m < length t.meters → IsItemAt t m (get_or (case_meters t) m Nothing)
unfolding case_meters
meter_at t v m l =
    let row = get_or t.meters m (some_row t.meters m l) in
    let same : 0 + m ≡ m = omega arith in
    let touch = touch_of (case_rows t) (case_buses t) m row.kind row.at in
    let at : get_or (meter_touches (case_rows t) (case_buses t) 0 t.meters) m Nothing ≡ meter_touch (case_rows t) (case_buses t) m row =
    meter_touches-at (case_rows t) (case_buses t) 0 t.meters m (some_row t.meters m l) l ∙ ap (λ i. meter_touch (case_rows t) (case_buses t) i row) same in
    record {
      kind = row.kind;
      at = row.at;
      low = v.meter_places m (some_row t.meters m l) l;
      flag = is_angle-meter t m (some_row t.meters m l) l;
      is = elim (cases_Bool row.inservice) [
        | inl e ↦ inr (at ∙ cond-true row.inservice touch Nothing e)
        | inr e ↦ inl (at ∙ cond-false row.inservice touch Nothing e)
      ];
    }

candidate_at : (t : Tables) → IsValid t → (m : ℕ) → length t.meters ≤ m → m < case_item_count t → IsItemAt t m (get_or (case_offered t) m Nothing)
unfolding case_offered
candidate_at t v m past l =
    let k = m - length t.meters in
    let low : k < length t.candidates = omega (arith, past, l) in
    let d = some_row t.candidates k low in
    let same : length t.meters + k ≡ m = omega (arith, past) in
    record {
      kind = (get_or t.candidates k d).kind;
      at = (get_or t.candidates k d).at;
      low = v.candidate_places k d low;
      flag = is_angle-candidate t m d past l;
      is = inr (get_or-append_right (meter_touches (case_rows t) (case_buses t) 0 t.meters) (candidate_touches (case_rows t) (case_buses t) (length t.meters) t.candidates) (length t.meters) m Nothing
          (length-meter_touches (case_rows t) (case_buses t) 0 t.meters) past
          ∙ candidate_touches-at (case_rows t) (case_buses t) (length t.meters) t.candidates k d low
          ∙ ap (λ i. candidate_touch (case_rows t) (case_buses t) i (get_or t.candidates k d)) same);
    }

pub item_at : (t : Tables) → IsValid t → (m : ℕ) → m < case_item_count t → IsItemAt t m (get_or (case_offered t) m Nothing)
item_at t v m l =
    elim (cases_lt m (length t.meters)) [
      | inl low ↦ subst (λ (touch : Touch). IsItemAt t m touch) (sym (meter_is_item t m low)) (meter_at t v m low)
      | inr past ↦ candidate_at t v m past l
    ]

-- the graph of a case, whatever it has room for
IsOf : Tables → Graph → Type 0
IsOf t g = (g.vertices ≡ case_vertex_count t) × (g.ends ≡ case_branches t)

-- the rows at a bus are the first of its branches
rows_first : (t : Tables) (bus : ℕ) → length (branches_at (case_rows t) bus) ≤ length (branches_at (case_branches t) bus)
unfolding case_branches
rows_first t bus =
    omega (arith, ap (λ (l : List ℕ). length l) (branches_at-append (case_rows t) (case_angles t) bus), length-append (branches_at (case_rows t) bus) (positions_from (has_end bus) (length (case_rows t)) (case_angles t)))

bus_in_range : (t : Tables) (g : Graph) → IsOf t g → (u : ℕ) → u < length t.nodes
    → (get_or (case_buses t) u 0 < g.vertices) × (length (branches_at (case_rows t) (get_or (case_buses t) u 0)) ≤ length (branches_at g.ends (get_or (case_buses t) u 0)))
unfolding IsOf
bus_in_range t g is u l =
    let bus = get_or (case_buses t) u 0 in
    let here = case_bus-below t u l in
    let few = rows_first t bus in
    (omega (arith, is.0, here), omega (arith, few, ap (λ (x : List (Option Ends)). length (branches_at x bus)) is.1))

touch_in_range : (t : Tables) (g : Graph) → IsOf t g → (m : ℕ) → m < case_item_count t → (kind : Kind) (at : ℕ) → at < places t kind → is_angle t m ≡ is_angle_kind kind
    → IsInRange g (touch_of (case_rows t) (case_buses t) m kind at)
unfolding IsOf
touch_in_range t g is m low Flow at l flag = omega (arith, l, ap (λ (x : List (Option Ends)). length x) is.1, length-case_branches t)
touch_in_range t g is m low Injection at l flag = bus_in_range t g is at l
touch_in_range t g is m low Zero at l flag = bus_in_range t g is at l
touch_in_range t g is m low Angle at l flag =
    let some = cond-true {A = ℕ} (has_angle t) (case_item_count t) 0 (has_angle-from t m flag) in
    omega (arith, low, some, ap (λ (x : List (Option Ends)). length x) is.1, length-case_branches t, length-case_rows t)

item_in_range : (t : Tables) (g : Graph) → IsOf t g → (m : ℕ) → m < case_item_count t → (touch : Touch) → IsItemAt t m touch → IsInRange g touch
item_in_range t g is m low touch i =
    elim i.is [
      | inl none ↦ subst (IsInRange g) (sym none) tt
      | inr some ↦ subst (IsInRange g) (sym some) (touch_in_range t g is m low i.kind i.at i.low i.flag)
    ]

pub offered-in_range : (t : Tables) → IsValid t → (g : Graph) → g.vertices ≡ case_vertex_count t → g.ends ≡ case_branches t → AreInRange g (case_offered t)
unfolding IsOf
offered-in_range t v g a b = λ k d l.
    let low : k < case_item_count t = omega (arith, l, length-case_offered t) in
    item_in_range t g (a, b) k low (get_or (case_offered t) k d) (subst (λ (x : Touch). IsItemAt t k x) (get_or_default (case_offered t) k Nothing d l) (item_at t v k low))

pub meters-in_range : (t : Tables) → IsValid t → (g : Graph) → g.vertices ≡ case_vertex_count t → g.ends ≡ case_branches t → AreInRange g (case_meters t)
unfolding IsOf
meters-in_range t v g a b = λ k d l.
    let low : k < length t.meters = omega (arith, l, length-case_meters t) in
    item_in_range t g (a, b) k (omega (arith, low)) (get_or (case_meters t) k d) (subst (λ (x : Touch). IsItemAt t k x) (get_or_default (case_meters t) k Nothing d l) (meter_at t v k low))
