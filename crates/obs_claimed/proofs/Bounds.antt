-- The bound of a component that isn't observable holds: its list by number, the rank of this, and the meters outside it.
use Rattle.std.proofs.Common.{◌≡◌, ℕ, ◌+◌, ◌<◌, ◌++◌, Bool, true, false, cond, not, Some, None, List, [], ◌∷◌, length, refl, sym, ap, ◌∙◌, inl, inr, arith}
use Rattle.std.specs.List.{flat_map, range_with_len}
use Rattle.std.proofs.lemmas.Bool.{cases_lt}
use Rattle.obs_case.specs.Tables.{IsValid, Tables}
use Rattle.obs_matroid.specs.Lists.{In, IsDistinct}
use Rattle.obs_matroid.proofs.Lists.{In-filter_from, IsDistinct-filter, length-split}
use Rattle.obs_meter.specs.Spanned.{rank_at}
use Rattle.obs_meter.specs.Touches.{is_live, touch_at, touched}
use Rattle.obs_meter.proofs.Assigned.{live_items-distinct}
use Rattle.obs_network.specs.Network.{case_branches, case_component_count, case_item_count, case_meters, case_need, case_vertex_count}
use Rattle.obs_network.specs.Observable.{IsObservable, case_live_meters}
use Rattle.obs_network.proofs.Items.{meter_is_item}
use Rattle.obs_network.proofs.Marked.{filtered_below}
use Rattle.obs_network.proofs.OfCase.{length-case_meters}
use Rattle.obs_repair.specs.Bounds.{bound_meters, bound_outside, bound_rank, component_meters, component_rank, is_critical_meter, is_meter_of}
use Rattle.obs_repair.proofs.Tight.{bound_is, observable-from, rank_few}
use Rattle.obs_cert.specs.declared.flaw.FlawCode.TheVariants.{Twice}
use Rattle.obs_cert.specs.Flaws.{bound_clauses, first_true, list_clauses, not_inside, outside_of, rank_of_items, twice}
use Rattle.obs_cert.specs.Numbered.{items_of}
use Rattle.obs_cert.specs.Scopes.{is_meter_in, item_touches, scope_of}
use Rattle.obs_cert.proofs.ClaimLemmas.{bound_rest, bound_right}
use Rattle.obs_cert.proofs.ComponentLemmas.{meter_at, scope_same}
use Rattle.obs_cert.proofs.OutsideLemmas.{meters_of_items, outside_is}
use Rattle.obs_claimed.specs.Claimed.{component_bound}
use Rattle.obs_claimed.specs.inner.Laws.{BoundsHold}
use Rattle.obs_claimed.proofs.ClauseTests.{all_inside_scope, once}
use Rattle.obs_claimed.proofs.ComponentNames.{component_known, component_named, component_names, component_need}
use Rattle.obs_claimed.proofs.NamedLemmas.{items_named, none_unknown}

-- lists for the same numbers
pub same_lists : (f g : ℕ → List ℕ) (xs : List ℕ) → ((x : ℕ) → In x xs → f x ≡ g x) → flat_map f xs ≡ flat_map g xs
same_lists f g [] h = refl
same_lists f g (x ∷ xs) h =
    ap (λ (ys : List ℕ). ys ++ flat_map f xs) (h x (inl refl)) ∙ ap (λ (ys : List ℕ). g x ++ ys) (same_lists f g xs (λ y i. h y (inr i)))

-- as an item a meter touches what it touches as a meter
pub meter_touches_same : (t : Tables) (m : ℕ) → m < length t.meters → item_touches t m ≡ touch_at (case_branches t) (case_meters t) m
meter_touches_same t m l = ap (touched (case_branches t)) (meter_is_item t m l)

module _ (t : Tables) (c : ℕ) where
  -- a live meter of a component is one that a claim on it may speak of
  pub component_meter : (m : ℕ) → In m (component_meters t c) → (m < length t.meters) × (is_meter_in t c m ≡ true)
  unfolding component_meters
  component_meter m i =
      let u = In-filter_from (is_meter_of t c) m (case_live_meters t) i in
      let w = In-filter_from (is_live (case_branches t) (case_meters t)) m (range_with_len 0 (length (case_meters t))) u.0 in
      let low = filtered_below (is_live (case_branches t) (case_meters t)) 0 (length (case_meters t)) m u.0 in
      let l : m < length t.meters = omega (arith, low, length-case_meters t) in
      (l, meter_at t c m l w.1 u.1)

  pub component_meters_distinct : IsDistinct (component_meters t c)
  unfolding component_meters
  component_meters_distinct = IsDistinct-filter (is_meter_of t c) (case_live_meters t) (live_items-distinct (case_branches t) (case_meters t))

  -- they are as many as the claim may speak of
  component_meters_all : length (component_meters t c) ≡ length (scope_of t (is_meter_in t c))
  unfolding component_meters
  component_meters_all = scope_same t c

  -- and so is each of the list
  pub bound_meter : (m : ℕ) → In m (bound_meters t c) → (m < length t.meters) × (is_meter_in t c m ≡ true)
  unfolding bound_meters
  bound_meter m i = component_meter m (In-filter_from (λ x. not (is_critical_meter t x)) m (component_meters t c) i).0

  pub bound_inside : not_inside (is_meter_in t c) (bound_meters t c) ≡ false
  bound_inside = all_inside_scope (is_meter_in t c) (bound_meters t c) (λ m i. (bound_meter m i).1)

  pub bound_once : twice (bound_meters t c) ≡ false
  unfolding bound_meters
  bound_once = once (bound_meters t c) (IsDistinct-filter (λ x. not (is_critical_meter t x)) (component_meters t c) component_meters_distinct)

  -- the rank of what these touch
  pub bound_rank_right : rank_of_items t (bound_meters t c) ≡ bound_rank t c
  unfolding bound_rank
  bound_rank_right = ap (rank_at (case_vertex_count t) (case_branches t))
      (same_lists (item_touches t) (touch_at (case_branches t) (case_meters t)) (bound_meters t c) (λ m i. meter_touches_same t m (bound_meter m i).0))

  -- the critical ones are those outside
  pub bound_outside_right : outside_of t (is_meter_in t c) (bound_meters t c) ≡ bound_outside t c
  unfolding bound_outside bound_meters
  bound_outside_right =
      let o = outside_is t (is_meter_in t c) (bound_meters t c) (meters_of_items t c) bound_inside bound_once in
      let e = o.0 in
      let l = o.1 in
      let split = length-split (is_critical_meter t) (component_meters t c) in
      omega (arith, e, l, split, component_meters_all)

  -- where the component isn't observable, the numbers add up to less than it needs
  pub bound_less : IsValid t → c < case_component_count t → (IsObservable t c → ⊥) → bound_rank t c + bound_outside t c < case_need t c
  bound_less v l unseen = elim (cases_lt (component_rank t c) (case_need t c)) [
    | inl less ↦ omega (arith, bound_is t v c, less)
    | inr most ↦ absurd (unseen (observable-from t v c (let few = rank_few t v c l in omega (arith, few, most))))
  ]

-- so no clause of the claim is false
pub bounds_hold : BoundsHold
unfolding component_bound
bounds_hold t c v l energised unseen =
    let scope = is_meter_in t c in
    let list = bound_meters t c in
    let need = case_need t c in
    let low : (m : ℕ) → In m list → m < case_item_count t = λ m i. (let k = (bound_meter t c m i).0 in omega (arith, k)) in
    let same : items_of t (component_bound t c).inside ≡ list = items_named t v list low in
    let right : first_true (list_clauses t scope list (bound_rank t c) (bound_outside t c) need) ≡ None =
    ap (λ (b : Bool). cond b (Some Twice) (first_true (bound_clauses t scope list (bound_rank t c) (bound_outside t c) need))) (bound_once t c)
    ∙ sym (bound_right t scope list (bound_rank t c) (bound_outside t c) need (bound_rank_right t c) (bound_outside_right t c) (bound_less t c v l unseen)) in
    let rest = bound_rest t (component_bound t c) c need (sym (component_named t v c l)) (sym (component_need t v c l)) (component_known t v c l)
    (none_unknown t v list low) (component_names t v c l energised) (ap (not_inside scope) same ∙ bound_inside t c) in
    sym rest ∙ ap (λ (xs : List ℕ). first_true (list_clauses t scope xs (bound_rank t c) (bound_outside t c) need)) same ∙ right
