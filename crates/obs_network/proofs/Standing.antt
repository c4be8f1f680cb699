-- What is present, and what items touch, by what the tables say of it.
use Rattle.std.proofs.Common.{◌≡◌, ℕ, ◌+◌, ◌-◌, ◌<◌, ◌≤◌, true, false, not, eqb, Option, Some, None, List, ◌++◌, length, map, get_or, refl, sym, ap, ◌∙◌, subst, arith, inl, inr, length-append}
use Rattle.std.specs.Prelude.{◌↔◌, IsSome, if◌then◌else◌, slice_get, slice_index, slice_index_or, take}
use Rattle.std.proofs.lemmas.Bool.{and_from, and_parts, cases_Bool, cases_lt, cond-false, cond-true, eqb-false, ne_eqb, not-true, not_from_false}
use Rattle.std.proofs.lemmas.List.{get_or-append_right, get_or-map, get_or_append_left, get_or_past, length-map}
use Rattle.std.proofs.lemmas.Option.{cond_some, get_or_from_slice_get, slice_get-get_or, slice_get_within}
use Rattle.obs_graph.specs.declared.Ends.{Ends}
use Rattle.obs_graph.specs.Graph.{itself_of}
use Rattle.obs_graph.specs.Positions.{branches_at, has_end}
use Rattle.obs_graph.proofs.AtVertex.{at_vertex, has_end-at_vertex}
use Rattle.obs_case.specs.declared.rows.Branch.{Branch}
use Rattle.obs_case.specs.declared.rows.Candidate.{Candidate}
use Rattle.obs_case.specs.declared.rows.Kind.{Kind}
use Rattle.obs_case.specs.declared.rows.Kind.TheVariants.{Flow, Injection, Zero, Angle}
use Rattle.obs_case.specs.declared.rows.Meter.{Meter}
use Rattle.obs_case.specs.Items.{angle_position, is_angle, is_angle_kind}
use Rattle.obs_case.specs.Tables.{Tables, IsValid}
use Rattle.obs_matroid.specs.Lists.{In}
use Rattle.obs_matroid.proofs.Contained.{Contains-from_In, In-from_Contains}
use Rattle.obs_meter.specs.declared.Touch.{Touch}
use Rattle.obs_meter.specs.declared.Touch.TheVariants.{Nothing, Edge, Front}
use Rattle.obs_meter.specs.Touches.{touch_at, touched}
use Rattle.obs_meter.proofs.Touched.{itself_from, itself_in, touched-present}
use Rattle.obs_network.specs.Switched.{case_buses}
use Rattle.obs_network.specs.Live.{is_live_branch, live_ends}
use Rattle.obs_network.specs.Components.{if_energised}
use Rattle.obs_network.specs.Angles.{has_angle, item_angle, reference_of, takes_angles}
use Rattle.obs_network.specs.Touching.{candidate_touch, candidate_touches, meter_touch, meter_touches, touch_of}
use Rattle.obs_network.specs.Network.{case_absolute, case_angles, case_branches, case_components, case_energised, case_item_count, case_live, case_offered, case_rows}
use Rattle.obs_network.specs.inner.Standing.{IsPresentAngle, IsPresentRow, IsRowAt, Touches, ItemRow, StandsAt, candidate_row, item_rows, meter_row}
use Rattle.obs_network.proofs.OfCase.{length-case_offered, length-case_rows, length-meter_touches}
use Rattle.obs_network.proofs.Items.{candidate_touches-at, has_angle-from, is_angle-candidate, is_angle-meter, meter_touches-at, some_row}
use Rattle.obs_network.proofs.Vertices.{angle_branch-at, item_sites}
use Rattle.obs_network.proofs.InComponents.{get_or-energised, row_is_live}
use Rattle.obs_network.proofs.RenamedEnds.{two_ends}
use Rattle.obs_network.proofs.WithoutAngles.{front_is, nothing_touched, row_below}
use Rattle.obs_network.proofs.PartedNeeds.{row_at}

-- behind the positions of the rows stand the angle branches
angle_here : (t : Tables) (m : ℕ) → get_or (case_branches t) (angle_position t m) None ≡ get_or (case_angles t) m None
unfolding case_branches
angle_here t m =
    let same : angle_position t m - length t.branches ≡ m = omega arith in
    get_or-append_right (case_rows t) (case_angles t) (length t.branches) (angle_position t m) None (length-case_rows t) (omega arith)
    ∙ ap (λ k. get_or (case_angles t) k None) same

live_at : (t : Tables) (e : ℕ) (row : Branch) → slice_get t.branches e ≡ Some row → get_or (case_live t) e None ≡ live_ends (case_buses t) row
unfolding case_live
live_at t e row at =
    get_or-map (live_ends (case_buses t)) t.branches e row None (slice_get_within t.branches e row at)
    ∙ ap (live_ends (case_buses t)) (get_or_from_slice_get t.branches e row row at)

-- a row is present exactly where the tables say so
pub row_present : (t : Tables) (e : ℕ) (ends : Ends) → e < length t.branches → (slice_index_or (case_branches t) e None ≡ Some ends) ↔ IsPresentRow t e ends
row_present t e ends l = (
  (λ is.
      let d = some_row t.branches e l in
      let row = get_or t.branches e d in
      let at = slice_get-get_or t.branches e d l in
      let a = slice_index (case_buses t) row.from in
      let b = slice_index (case_buses t) row.to in
      let live = row_is_live t e ends (sym (row_at t e l) ∙ is) in
      let c = cond_some (is_live_branch (case_buses t) row) (record { a = a; b = b }) ends (sym (live_at t e row at) ∙ live.0) in
      let parts = and_parts row.inservice (not (eqb a b)) c.0 in
      let from : ends.a ≡ a = sym (ap (λ (x : Ends). x.a) c.1) in
      let to : ends.b ≡ b = sym (ap (λ (x : Ends). x.b) c.1) in
      record {
        row = row;
        at = at;
        inservice = parts.0;
        from = from;
        to = to;
        apart = λ same. eqb-false a b (not-true (eqb a b) parts.1) (sym from ∙ same ∙ to);
        energised = live.1;
      }),
  (λ p.
      let a = slice_index (case_buses t) p.row.from in
      let b = slice_index (case_buses t) p.row.to in
      let is_live : is_live_branch (case_buses t) p.row ≡ true =
      and_from p.row.inservice (not (eqb a b)) p.inservice (not_from_false (eqb a b) (ne_eqb a b (λ same. p.apart (p.from ∙ same ∙ sym p.to)))) in
      let live : get_or (case_live t) e None ≡ Some ends =
      live_at t e p.row p.at ∙ cond-true (is_live_branch (case_buses t) p.row) (Some (record { a = a; b = b })) None is_live
      ∙ ap Some (two_ends (record { a = a; b = b }) ends (sym p.from) (sym p.to)) in
      row_at t e l ∙ get_or-energised t e ∙ ap (if_energised (case_components t) (case_energised t)) live
      ∙ cond-true (slice_index_or (case_energised t) (slice_index (case_components t) ends.a) false) (Some ends) None p.energised),
)

-- an item's row is that of its meter, or that of its candidate
length-item_rows : (t : Tables) → length (item_rows t) ≡ case_item_count t
length-item_rows t =
    length-append (map meter_row t.meters) (map candidate_row t.candidates) ∙ omega (arith, length-map t.meters meter_row, length-map t.candidates candidate_row)

item_low : (t : Tables) (m : ℕ) (item : ItemRow) → slice_get (item_rows t) m ≡ Some item → m < case_item_count t
item_low t m item row = omega (arith, slice_get_within (item_rows t) m item row, length-item_rows t)

meter_item : (t : Tables) (m : ℕ) (item : ItemRow) (d : Meter) → slice_get (item_rows t) m ≡ Some item → m < length t.meters → meter_row (get_or t.meters m d) ≡ item
meter_item t m item d row l =
    sym (get_or-map meter_row t.meters m d item l)
    ∙ sym (get_or_append_left (map meter_row t.meters) (map candidate_row t.candidates) item m (omega (arith, l, length-map t.meters meter_row)))
    ∙ get_or_from_slice_get (item_rows t) m item item row

candidate_item : (t : Tables) (m : ℕ) (item : ItemRow) (d : Candidate) → slice_get (item_rows t) m ≡ Some item → length t.meters ≤ m
    → candidate_row (get_or t.candidates (m - length t.meters) d) ≡ item
candidate_item t m item d row past =
    sym (get_or-map candidate_row t.candidates (m - length t.meters) d item (omega (arith, past, item_low t m item row)))
    ∙ sym (get_or-append_right (map meter_row t.meters) (map candidate_row t.candidates) (length t.meters) m item (length-map t.meters meter_row) past)
    ∙ get_or_from_slice_get (item_rows t) m item item row

-- which items are angle items, and where items stand, by these rows
kind_is : (t : Tables) (m : ℕ) (item : ItemRow) → slice_get (item_rows t) m ≡ Some item → is_angle t m ≡ is_angle_kind item.kind
kind_is t m item row =
    let low = item_low t m item row in
    elim (cases_lt m (length t.meters)) [
      | inl l ↦ let d = some_row t.meters m l in is_angle-meter t m d l ∙ ap (λ (i : ItemRow). is_angle_kind i.kind) (meter_item t m item d row l)
      | inr past ↦
          let d = some_row t.candidates (m - length t.meters) (omega (arith, past, low)) in
          is_angle-candidate t m d past low ∙ ap (λ (i : ItemRow). is_angle_kind i.kind) (candidate_item t m item d row past)
    ]

-- what the tables give for each item by its kind and place stands at its number
given_at : {Y : Type 0} (f : Kind → ℕ → Y) (t : Tables) (m : ℕ) (item : ItemRow) (d : Y) → slice_get (item_rows t) m ≡ Some item
    → get_or (map (λ (row : Meter). f row.kind row.at) t.meters ++ map (λ (row : Candidate). f row.kind row.at) t.candidates) m d ≡ f item.kind item.at
given_at {Y} f t m item d row =
    let fm : Meter → Y = λ row. f row.kind row.at in
    let fc : Candidate → Y = λ row. f row.kind row.at in
    let low = item_low t m item row in
    elim (cases_lt m (length t.meters)) [
      | inl l ↦
          let r = some_row t.meters m l in
          get_or_append_left (map fm t.meters) (map fc t.candidates) d m (omega (arith, l, length-map t.meters fm))
          ∙ get_or-map fm t.meters m r d l ∙ ap (λ (i : ItemRow). f i.kind i.at) (meter_item t m item r row l)
      | inr past ↦
          let k = m - length t.meters in
          let l : k < length t.candidates = omega (arith, past, low) in
          let r = some_row t.candidates k l in
          get_or-append_right (map fm t.meters) (map fc t.candidates) (length t.meters) m d (length-map t.meters fm) past
          ∙ get_or-map fc t.candidates k r d l ∙ ap (λ (i : ItemRow). f i.kind i.at) (candidate_item t m item r row past)
    ]

site_is : (t : Tables) (m : ℕ) (item : ItemRow) → slice_get (item_rows t) m ≡ Some item → slice_index (item_sites t) m ≡ item.at
unfolding item_sites
site_is t m item row = given_at (λ kind at. at) t m item 0 row

angle_is : (t : Tables) (m : ℕ) (item : ItemRow) → slice_get (item_rows t) m ≡ Some item → has_angle t ≡ true
    → get_or (case_angles t) m None ≡ item_angle (case_buses t) (case_components t) (case_energised t) (case_absolute t) item.kind item.at
unfolding case_angles
angle_is t m item row all =
    let of : Kind → ℕ → Option Ends = item_angle (case_buses t) (case_components t) (case_energised t) (case_absolute t) in
    rw all (given_at of t m item None row)

only_angle : (kind : Kind) → is_angle_kind kind ≡ true → kind ≡ Angle
only_angle Flow e = absurd (cc e)
only_angle Injection e = absurd (cc e)
only_angle Zero e = absurd (cc e)
only_angle Angle e = refl

-- an angle branch is present exactly where the tables say so
pub angle_present : (t : Tables) → IsValid t → (m : ℕ) (ends : Ends) → (slice_index_or (case_branches t) (angle_position t m) None ≡ Some ends) ↔ IsPresentAngle t m ends
angle_present t v m ends = (
  (λ is.
      let a = angle_branch-at t v m ends (sym (angle_here t m) ∙ is) in
      let few : m < length (item_rows t) = omega (arith, a.few, length-item_rows t) in
      let item = get_or (item_rows t) m (some_row (item_rows t) m few) in
      let row = slice_get-get_or (item_rows t) m (some_row (item_rows t) m few) few in
      let c = slice_index (case_components t) ends.a in
      let takes = and_parts (slice_index_or (case_energised t) c false) (slice_index_or (case_absolute t) c false) a.takes in
      record {
        item = item;
        row = row;
        angle = only_angle item.kind (sym (kind_is t m item row) ∙ a.flag);
        bus = a.bus ∙ ap (λ u. slice_index (case_buses t) u) (site_is t m item row);
        reference = a.reference;
        energised = takes.0;
        absolute = takes.1;
      }),
  (λ p.
      let bus = slice_index (case_buses t) p.item.at in
      let c = slice_index (case_components t) bus in
      let there : Ends = record { a = bus; b = reference_of (case_components t) c } in
      let component : slice_index (case_components t) ends.a ≡ c = ap (λ u. slice_index (case_components t) u) p.bus in
      let flag : is_angle t m ≡ true = kind_is t m p.item p.row ∙ ap is_angle_kind p.angle in
      let takes : takes_angles (case_energised t) (case_absolute t) c ≡ true =
      ap (takes_angles (case_energised t) (case_absolute t)) (sym component)
      ∙ and_from (slice_index_or (case_energised t) (slice_index (case_components t) ends.a) false) (slice_index_or (case_absolute t) (slice_index (case_components t) ends.a) false) p.energised p.absolute in
      let reference : ends.b ≡ reference_of (case_components t) c = p.reference ∙ ap (reference_of (case_components t)) component in
      angle_here t m ∙ angle_is t m p.item p.row (has_angle-from t m flag)
      ∙ ap (λ kind. item_angle (case_buses t) (case_components t) (case_energised t) (case_absolute t) kind p.item.at) p.angle
      ∙ cond-true (takes_angles (case_energised t) (case_absolute t) c) (Some there) None takes
      ∙ ap Some (two_ends there ends (sym p.bus) (sym reference))),
)

-- what an item touches by its row: nothing where it doesn't count
offered_is : (t : Tables) (m : ℕ) (item : ItemRow) → slice_get (item_rows t) m ≡ Some item
    → get_or (case_offered t) m Nothing ≡ (if item.counts then touch_of (case_rows t) (case_buses t) m item.kind item.at else Nothing)
unfolding case_offered
offered_is t m item row =
    let rows = case_rows t in
    let buses = case_buses t in
    let of : ItemRow → Touch = λ i. if i.counts then touch_of rows buses m i.kind i.at else Nothing in
    let low = item_low t m item row in
    let meters = meter_touches rows buses 0 t.meters in
    let candidates = candidate_touches rows buses (length t.meters) t.candidates in
    let many = length-meter_touches rows buses 0 t.meters in
    elim (cases_lt m (length t.meters)) [
      | inl l ↦
          let d = some_row t.meters m l in
          let same : 0 + m ≡ m = omega arith in
          get_or_append_left meters candidates Nothing m (omega (arith, l, many))
          ∙ meter_touches-at rows buses 0 t.meters m d l
          ∙ ap (λ i. meter_touch rows buses i (get_or t.meters m d)) same
          ∙ ap of (meter_item t m item d row l)
      | inr past ↦
          let k = m - length t.meters in
          let l : k < length t.candidates = omega (arith, past, low) in
          let d = some_row t.candidates k l in
          let same : length t.meters + k ≡ m = omega (arith, past) in
          get_or-append_right meters candidates (length t.meters) m Nothing many past
          ∙ candidate_touches-at rows buses (length t.meters) t.candidates k d l
          ∙ ap (λ i. candidate_touch rows buses i (get_or t.candidates k d)) same
          ∙ ap of (candidate_item t m item d row past)
    ]

-- a branch alone is touched exactly where it is present
one_touched : (ends : List (Option Ends)) (e at : ℕ) → In e (itself_of (slice_index_or ends at None) at) ↔ IsSome (slice_index_or ends e None) × (e ≡ at)
one_touched ends e at = (
  (λ i.
      let same = (itself_from (slice_index_or ends at None) at e i).0 in
      (touched-present ends (Edge at) e i, same)),
  (λ p. subst (λ k. In k (itself_of (slice_index_or ends at None) at)) (sym p.1) (itself_in (slice_index_or ends at None) at (subst (λ k. IsSome (slice_index_or ends k None)) p.1 p.0))),
)

-- at a bus the rows there are touched
front_touched : (t : Tables) (bus e : ℕ) → In e (take (length (branches_at (case_rows t) bus)) (branches_at (case_branches t) bus)) ↔ IsSome (slice_index_or (case_branches t) e None) × IsRowAt t bus e
front_touched t bus e = (
  (λ i.
      let here : In e (branches_at (case_rows t) bus) = subst (λ (l : List ℕ). In e l) (front_is t bus) i in
      let end : has_end bus (get_or (case_rows t) e None) ≡ true = has_end-at_vertex (case_rows t) bus e (Contains-from_In e (branches_at (case_rows t) bus) here) in
      let low = row_below t bus e i in
      (touched-present (case_branches t) (Front bus (length (branches_at (case_rows t) bus))) e i, (low, ap (has_end bus) (row_at t e low) ∙ end))),
  (λ p.
      let end : has_end bus (get_or (case_rows t) e None) ≡ true = ap (has_end bus) (sym (row_at t e p.1.0)) ∙ p.1.1 in
      subst (λ (l : List ℕ). In e l) (sym (front_is t bus)) (In-from_Contains e (branches_at (case_rows t) bus) (at_vertex (case_rows t) bus e end))),
)

-- what an item that counts touches, by its kind
kind_touches : (t : Tables) (m e : ℕ) (kind : Kind) (at : ℕ)
    → In e (touched (case_branches t) (touch_of (case_rows t) (case_buses t) m kind at)) ↔ IsSome (slice_index_or (case_branches t) e None) × StandsAt t m kind at e
kind_touches t m e Flow at = one_touched (case_branches t) e at
kind_touches t m e Injection at = front_touched t (slice_index (case_buses t) at) e
kind_touches t m e Zero at = front_touched t (slice_index (case_buses t) at) e
kind_touches t m e Angle at =
    let same : length (case_rows t) + m ≡ angle_position t m = omega (arith, length-case_rows t) in
    let both = one_touched (case_branches t) e (length (case_rows t) + m) in
    ((λ i. ((both.0 i).0, (both.0 i).1 ∙ same)), (λ p. both.1 (p.0, p.1 ∙ sym same)))

-- an item touches a branch exactly where the tables say so
pub item_touches : (t : Tables) (m e : ℕ) → In e (touch_at (case_branches t) (case_offered t) m) ↔ Touches t m e
item_touches t m e = (
  (λ i.
      elim (cases_lt m (length (item_rows t))) [
        | inl few ↦
            let item = get_or (item_rows t) m (some_row (item_rows t) m few) in
            let row = slice_get-get_or (item_rows t) m (some_row (item_rows t) m few) few in
            let touch = touch_of (case_rows t) (case_buses t) m item.kind item.at in
            let is = offered_is t m item row in
            elim (cases_Bool item.counts) [
              | inl counts ↦
                  let there = (kind_touches t m e item.kind item.at).0 (subst (λ (x : Touch). In e (touched (case_branches t) x)) (is ∙ cond-true item.counts touch Nothing counts) i) in
                  record { item = item; row = row; counts = counts; present = there.0; stands = there.1 }
              | inr out ↦ absurd (nothing_touched (case_branches t) (get_or (case_offered t) m Nothing) e (is ∙ cond-false item.counts touch Nothing out) i)
            ]
        | inr past ↦ absurd (nothing_touched (case_branches t) (get_or (case_offered t) m Nothing) e (get_or_past (case_offered t) m Nothing (omega (arith, past, length-item_rows t, length-case_offered t))) i)
      ]),
  (λ p.
      let touch = touch_of (case_rows t) (case_buses t) m p.item.kind p.item.at in
      subst (λ (x : Touch). In e (touched (case_branches t) x)) (sym (offered_is t m p.item p.row ∙ cond-true p.item.counts touch Nothing p.counts))
      ((kind_touches t m e p.item.kind p.item.at).1 (p.present, p.stands))),
)
