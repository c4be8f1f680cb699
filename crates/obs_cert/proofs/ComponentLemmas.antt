-- The live meters of a component are the scope of its claims.
use Rattle.std.proofs.Common.{◌≡◌, ℕ, ◌+◌, ◌*◌, ◌<◌, ◌≤◌, ◌&&◌, Bool, true, false, cond, eqb, nat_lt, Some, None, length, get_or, refl, sym, ap, ◌∙◌, arith}
use Rattle.std.specs.List.{range_with_len}
use Rattle.std.proofs.lemmas.Bool.{and_parts, lt-ltb, ltb-true}
use Rattle.std.proofs.lemmas.List.{length-map}
use Rattle.obs_network.proofs.Items.{meter_is_item}
use Rattle.std.proofs.lemmas.List.FromFn.{length-range_with_len}
use Rattle.obs_matroid.proofs.Lists.{In-filter, In-filter_from, IsDistinct-filter, length-within}
use Rattle.obs_matroid.proofs.Ranges.{range_in}
use Rattle.obs_meter.specs.declared.Touch.{Touch}
use Rattle.obs_meter.specs.declared.Touch.TheVariants.{Nothing}
use Rattle.obs_meter.specs.Spanned.{common_vertex}
use Rattle.obs_meter.specs.Touches.{is_live, live_items, touched}
use Rattle.obs_meter.proofs.Assigned.{live_items-distinct}
use Rattle.obs_case.specs.Tables.{IsValid, Tables, most_rows}
use Rattle.obs_network.specs.Components.{vertex_component}
use Rattle.obs_network.specs.Located.{component_of_item, touch_component}
use Rattle.obs_network.specs.inner.Located.{is_meter_in as is_in, live_meters_of}
use Rattle.obs_network.specs.Network.{case_branches, case_components, case_meters, case_offered, case_position_room, is_meter, network_of}
use Rattle.obs_network.proofs.Marked.{filtered_below}
use Rattle.obs_network.proofs.OfCase.{length-case_meters, length-case_offered}
use Rattle.obs_cert.specs.Scopes.{is_meter_in, is_this, scope_of}
use Rattle.obs_cert.proofs.OutsideLemmas.{scope_distinct}

module _ (t : Tables) (c m : ℕ) where
  abbrev touch : Touch
  touch = get_or (case_meters t) m Nothing

  abbrev here : ℕ
  here = vertex_component (case_components t) (common_vertex (case_branches t) touch)

  -- what a test on the component says
  told : m < length t.meters → component_of_item (network_of t) m ≡ cond (nat_lt 0 (length (touched (case_branches t) touch))) (Some here) None
  told l = ap (λ (k : Touch). touch_component (case_components t) (case_branches t) k) (meter_is_item t m l)

  this_from : (b : Bool) → is_this (cond b (Some here) None) c ≡ true → (b ≡ true) × (eqb here c ≡ true)
  this_from true e = (refl, e)
  this_from false e = cc

  pub meter_from : is_meter_in t c m ≡ true → (m < length t.meters) × (is_live (case_branches t) (case_meters t) m ≡ true) × (is_in (network_of t) c m ≡ true)
  meter_from e =
      let two = and_parts (is_meter t m) (is_this (component_of_item (network_of t) m) c) e in
      let l = ltb-true m (length t.meters) two.0 in
      let k = this_from (nat_lt 0 (length (touched (case_branches t) touch))) (ap (λ o. is_this o c) (sym (told l)) ∙ two.1) in
      (l, k.0, k.1)

  pub meter_at : m < length t.meters → is_live (case_branches t) (case_meters t) m ≡ true → is_in (network_of t) c m ≡ true → is_meter_in t c m ≡ true
  meter_at l live in_c =
      let a = lt-ltb m (length t.meters) l in
      let b : is_this (component_of_item (network_of t) m) c ≡ true = ap (λ o. is_this o c) (told l ∙ ap (λ (b : Bool). cond b (Some here) None) live) ∙ in_c in
      ap (λ (x : Bool). x && is_this (component_of_item (network_of t) m) c) a ∙ b

-- as many as the network lists
pub scope_same : (t : Tables) (c : ℕ) → length (live_meters_of (network_of t) c) ≡ length (scope_of t (is_meter_in t c))
scope_same t c =
    let live = live_items (case_branches t) (case_meters t) in
    let all = range_with_len 0 (length (case_offered t)) in
    let up = length-within (live_meters_of (network_of t) c) (scope_of t (is_meter_in t c)) (IsDistinct-filter (is_in (network_of t) c) live (live_items-distinct (case_branches t) (case_meters t))) (λ m i.
    let a = In-filter_from (is_in (network_of t) c) m live i in
    let b = In-filter_from (is_live (case_branches t) (case_meters t)) m (range_with_len 0 (length (case_meters t))) a.0 in
    let low = filtered_below (is_live (case_branches t) (case_meters t)) 0 (length (case_meters t)) m a.0 in
    let l : m < length t.meters = omega (arith, low, length-case_meters t) in
    let p = meter_at t c m l b.1 a.1 in
    In-filter (is_meter_in t c) m all (range_in 0 (length (case_offered t)) m (omega arith) (omega (arith, l, length-case_offered t))) p) in
    let down = length-within (scope_of t (is_meter_in t c)) (live_meters_of (network_of t) c) (scope_distinct t (is_meter_in t c)) (λ m i.
    let a = In-filter_from (is_meter_in t c) m all i in
    let p = meter_from t c m a.1 in
    In-filter (is_in (network_of t) c) m live
    (In-filter (is_live (case_branches t) (case_meters t)) m (range_with_len 0 (length (case_meters t))) (range_in 0 (length (case_meters t)) m (omega arith) (omega (arith, p.0, length-case_meters t))) p.1) p.2) in
    omega (arith, up, down)

-- there are few
pub scope_few : (t : Tables) (test : ℕ → Bool) → length (scope_of t test) ≤ length t.meters + length t.candidates
scope_few t test =
    let all = range_with_len 0 (length (case_offered t)) in
    let w = length-within (scope_of t test) all (scope_distinct t test) (λ m i. (In-filter_from test m all i).0) in
    omega (arith, w, length-range_with_len 0 (length (case_offered t)), length-case_offered t)

pub rows_few : (t : Tables) → IsValid t → length t.meters + length t.candidates ≤ 2 * most_rows
rows_few t v =
    let a = v.meters.few in
    let b = v.candidates.few in
    let limit = v.limit in
    omega (arith, a, b, limit, length-map t.meters (λ row. row.name), length-map t.candidates (λ row. row.name))

pub positions_few : (t : Tables) → IsValid t → case_position_room t ≤ 3 * most_rows
positions_few t v =
    let a = v.branches.few in
    let limit = v.limit in
    omega (arith, a, limit, rows_few t v, length-map t.branches (λ row. row.name))
