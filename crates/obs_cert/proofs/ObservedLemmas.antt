-- A tree claim that holds makes its component observable, and a bound claim that holds makes it not.
use Rattle.std.proofs.Common.{◌≡◌, ℕ, ◌<◌, Bool, true, not, List, length, filter, sym, ap, ◌∙◌, subst, arith}
use Rattle.std.specs.Prelude.{◌==◌}
use Rattle.std.specs.List.{range_with_len}
use Rattle.std.proofs.lemmas.Bool.{eq-eqb, eqb-true, not-false, or_parts}
use Rattle.obs_case.specs.Tables.{IsValid, Tables, has_name, node_names}
use Rattle.obs_matroid.specs.Lists.{In}
use Rattle.obs_matroid.specs.Assignments.{IsAssignment, Pair as NumberPair}
use Rattle.obs_matroid.proofs.Lists.{In-filter, In-filter_from, filter_all}
use Rattle.obs_matroid.proofs.Order.{independent_within}
use Rattle.obs_matroid.proofs.Pairs.{In-items, IsDistinct-filter_items}
use Rattle.obs_matroid.proofs.Ranges.{range_in}
use Rattle.obs_meter.specs.Assignments.{IsAssignmentAt}
use Rattle.obs_meter.specs.Spanned.{graph_matroid}
use Rattle.obs_meter.specs.Touches.{is_live, touch_at, touched}
use Rattle.obs_meter.proofs.Assigned.{to_matroid}
use Rattle.obs_network.specs.Network.{case_branches, case_meters, case_offered, case_vertex_count}
use Rattle.obs_network.specs.Observable.{IsObservable, branch_component, case_live_meters, item_component}
use Rattle.obs_network.proofs.InComponents.{touched_component}
use Rattle.obs_network.proofs.Items.{meter_is_item}
use Rattle.obs_network.proofs.Marked.{filtered_below}
use Rattle.obs_network.proofs.OfCase.{length-case_meters, length-case_offered}
use Rattle.obs_cert.specs.declared.flaw.FlawCode.TheVariants.{NotInside}
use Rattle.obs_cert.specs.Flaws.{not_inside, unknown_item, unknown_pair}
use Rattle.obs_cert.specs.Numbered.{items_of, paired_items, pairs_of}
use Rattle.obs_cert.specs.Scopes.{is_meter_in, named_component, named_need, names_component, scope_of}
use Rattle.obs_cert.specs.Truths.{BoundsAreNotObservable, TreesAreObservable}
use Rattle.obs_cert.proofs.ComponentLemmas.{meter_at, meter_from}
use Rattle.obs_cert.proofs.CountingLemmas.{each_passes}
use Rattle.obs_cert.proofs.TruthLemmas.{bound_below, items-pairs, laws, name_of_component, none_true, pairs_assign}

-- a meter that a claim on a component may speak of is a live one
live_meter : (t : Tables) (c m : ℕ) → is_meter_in t c m ≡ true → In m (case_live_meters t)
live_meter t c m e =
    let p = meter_from t c m e in
    In-filter (is_live (case_branches t) (case_meters t)) m (range_with_len 0 (length (case_meters t)))
    (range_in 0 (length (case_meters t)) m (omega arith) (omega (arith, p.0, length-case_meters t))) p.1

-- and as an item it touches what it touches as a meter
same_touch : (t : Tables) (m : ℕ) → m < length t.meters → touch_at (case_branches t) (case_offered t) m ≡ touch_at (case_branches t) (case_meters t) m
same_touch t m l = ap (touched (case_branches t)) (meter_is_item t m l)

-- pairs of meters are an assignment of these
of_meters : (t : Tables) (M : List ℕ) (A : List NumberPair) → ((p : NumberPair) → In p A → p.0 < length t.meters)
    → IsAssignmentAt (case_branches t) (case_offered t) M A → IsAssignmentAt (case_branches t) (case_meters t) M A
of_meters t M A low a = record {
  of_items = a.of_items;
  touched = λ p i. subst (λ (xs : List ℕ). In p.1 xs) (same_touch t p.0 (low p i)) (a.touched p i);
  different = a.different;
  forest = a.forest;
}

pub trees_are_observable : TreesAreObservable
trees_are_observable t c v h =
    let k = named_component t c.component in
    let A = pairs_of t c.pairs in
    let list = items_of t (paired_items c.pairs) in
    let known = none_true _ _ _ h in
    let names = none_true _ _ _ known.1 in
    let inside = none_true _ _ _ names.1 in
    let touched = none_true _ _ _ inside.1 in
    let once = none_true _ _ _ touched.1 in
    let forest = none_true _ _ _ once.1 in
    let long = none_true _ _ _ forest.1 in
    let is_name = not-false (has_name (node_names t) c.component) (or_parts (not (has_name (node_names t) c.component)) (unknown_pair t c.pairs) known.0).0 in
    let each = each_passes (is_meter_in t k) list inside.0 in
    let item : (p : NumberPair) → In p A → is_meter_in t k p.0 ≡ true = λ p i. each p.0 (subst (λ (xs : List ℕ). In p.0 xs) (items-pairs t c.pairs) (In-items A p i)) in
    let a = of_meters t (case_live_meters t) A (λ p i. (meter_from t k p.0 (item p i)).0)
    (pairs_assign t v (case_live_meters t) c.pairs touched.0 once.0 forest.0 (λ m i. live_meter t k m (each m i))) in
    let all : filter (λ (p : NumberPair). branch_component t p.1 == k) A ≡ A = filter_all (λ (p : NumberPair). branch_component t p.1 == k) A
    (λ p i. ap (λ (x : ℕ). x == k) (touched_component t v (case_meters t) p.0 p.1 (a.touched p i)) ∙ (meter_from t k p.0 (item p i)).2) in (
      name_of_component t c.component is_name (not-false (names_component t c.component) names.0),
      record {
        pairs = A;
        assigns = a;
        enough = ap (λ (xs : List NumberPair). length xs) all ∙ eqb-true (length A) (named_need t c.component) (not-false (length A == named_need t c.component) long.0);
      },
    )

-- the pairs of an assignment that lie in a component are of the meters that a claim on it may speak of
module _ (t : Tables) (v : IsValid t) (k : ℕ) (A : List NumberPair) (a : IsAssignmentAt (case_branches t) (case_meters t) (case_live_meters t) A) where
  abbrev lies : NumberPair → Bool
  lies p = branch_component t p.1 == k

  here : (p : NumberPair) → In p (filter lies A) → (p.0 < length t.meters) × (is_meter_in t k p.0 ≡ true)
  here p i =
      let u = In-filter_from lies p A i in
      let live = a.of_items p u.0 in
      let low = filtered_below (is_live (case_branches t) (case_meters t)) 0 (length (case_meters t)) p.0 live in
      let l : p.0 < length t.meters = omega (arith, low, length-case_meters t) in
      let home = eq-eqb (item_component t (case_meters t) p.0) k (sym (touched_component t v (case_meters t) p.0 p.1 (a.touched p u.0)) ∙ eqb-true (branch_component t p.1) k u.1) in
      (l, meter_at t k p.0 l (In-filter_from (is_live (case_branches t) (case_meters t)) p.0 (range_with_len 0 (length (case_meters t))) live).1 home)

  in_scope : IsAssignment (graph_matroid (case_vertex_count t) (case_branches t)) (touch_at (case_branches t) (case_offered t)) (scope_of t (is_meter_in t k)) (filter lies A)
  in_scope =
      let b = to_matroid (case_vertex_count t) (case_branches t) (case_meters t) (case_live_meters t) A a in
      let different = IsDistinct-filter_items lies A a.different in
      record {
        of_items = λ p i.
            let u = here p i in
            In-filter (is_meter_in t k) p.0 (range_with_len 0 (length (case_offered t)))
            (range_in 0 (length (case_offered t)) p.0 (omega arith) (let l = u.0 in omega (arith, l, length-case_offered t))) u.1;
        touched = λ p i. subst (λ (xs : List ℕ). In p.1 xs) (sym (same_touch t p.0 (here p i).0)) (a.touched p (In-filter_from lies p A i).0);
        different = different;
        independent = independent_within (graph_matroid (case_vertex_count t) (case_branches t)) (laws t v) A (filter lies A) b.independent a.different different (λ p i. (In-filter_from lies p A i).0);
      }

pub bounds_are_not_observable : BoundsAreNotObservable
bounds_are_not_observable t c v h =
    let k = named_component t c.component in
    let list = items_of t c.inside in
    let known = none_true _ _ _ h in
    let names = none_true _ _ _ known.1 in
    let inside = none_true (not_inside (is_meter_in t k) list) NotInside _ names.1 in
    let is_name = not-false (has_name (node_names t) c.component) (or_parts (not (has_name (node_names t) c.component)) (unknown_item t c.inside) known.0).0 in (
      name_of_component t c.component is_name (not-false (names_component t c.component) names.0),
      λ (o : IsObservable t k).
          let short = bound_below t v (is_meter_in t k) list c.rank c.outside (named_need t c.component) inside.1 (filter (lies t v k o.pairs o.assigns) o.pairs) (in_scope t v k o.pairs o.assigns) in
          let e = o.enough in
          omega (arith, short, e),
    )
