-- The tree that is printed for an observable component: each clause of its claim is true.
use Rattle.std.proofs.Common.{◌≡◌, ℕ, ◌<◌, ◌||◌, Bool, true, false, not, None, List, length, map, refl, sym, ap, ◌∙◌, subst, arith}
use Rattle.std.proofs.lemmas.Bool.{eq-eqb}
use Rattle.obs_case.specs.Tables.{IsValid, Tables, has_name, node_names}
use Rattle.obs_matroid.specs.Lists.{In}
use Rattle.obs_matroid.specs.Assignments.{Pair as NumberPair, branches, items}
use Rattle.obs_matroid.proofs.Pairs.{In-items_from}
use Rattle.obs_meter.specs.Assignments.{IsAssignmentAt}
use Rattle.obs_network.specs.Network.{case_branches, case_component_count, case_meters, case_offered}
use Rattle.obs_network.specs.Observable.{IsObservable, is_energised_component}
use Rattle.obs_cert.specs.Claims.{TreeClaim, tree}
use Rattle.obs_cert.specs.Flaws.{Holds, cycle, not_inside, not_touched, paired_twice, tree_flaw, twice, unknown_pair, wrong_length}
use Rattle.obs_cert.specs.Numbered.{items_of, paired_items, pairs_of}
use Rattle.obs_cert.specs.Scopes.{is_meter_in, named_component, named_need, names_component}
use Rattle.obs_cert.proofs.ClaimLemmas.{tree_rest}
use Rattle.obs_report.specs.Meters.{component_name}
use Rattle.obs_report.proofs.OfPairs.{offered_branch}
use Rattle.obs_repair.specs.Bounds.{component_meters}
use Rattle.obs_edit.specs.Laws.{tree_pairs}
use Rattle.obs_edit.proofs.FirstTrees.{tree_first, tree_whole}
use Rattle.obs_claimed.specs.Claimed.{component_tree, named_pair}
use Rattle.obs_claimed.specs.inner.Laws.{TreesHold}
use Rattle.obs_claimed.proofs.Bounds.{component_meter, meter_touches_same}
use Rattle.obs_claimed.proofs.ClauseTests.{all_inside_scope}
use Rattle.obs_claimed.proofs.ComponentNames.{component_known, component_named, component_names, component_need}
use Rattle.obs_claimed.proofs.NamedLemmas.{AreWithin, paired_named, pairs_known, pairs_named}
use Rattle.obs_claimed.proofs.PlanPairs.{branches_once, items_once, no_cycle, touched_pairs}

-- an assignment of meters is one of what is offered, and all its numbers are within the tables
module _ (t : Tables) (M : List ℕ) (A : List NumberPair) (a : IsAssignmentAt (case_branches t) (case_meters t) M A) (meters : (m : ℕ) → In m M → m < length t.meters) where
  pub offered : IsAssignmentAt (case_branches t) (case_offered t) M A
  offered = record {
    of_items = a.of_items;
    touched = λ p i. subst (λ (xs : List ℕ). In p.1 xs) (sym (meter_touches_same t p.0 (meters p.0 (a.of_items p i)))) (a.touched p i);
    different = a.different;
    forest = a.forest;
  }

  pub assigned_within : IsValid t → AreWithin t A
  assigned_within v p i = (let l = meters p.0 (a.of_items p i) in omega (arith, l), offered_branch t v p.0 p.1 (offered.touched p i))

-- and where no clause is false, a tree claim holds
tree_right : (t : Tables) (c : TreeClaim) → has_name (node_names t) c.component ≡ true → unknown_pair t c.pairs ≡ false → names_component t c.component ≡ true
    → not_inside (is_meter_in t (named_component t c.component)) (items_of t (paired_items c.pairs)) ≡ false → not_touched t (pairs_of t c.pairs) ≡ false → paired_twice t c.pairs ≡ false
    → cycle t (pairs_of t c.pairs) ≡ false → wrong_length (pairs_of t c.pairs) (named_need t c.component) ≡ false → tree_flaw t c ≡ None
tree_right t c known pairs names inside touched once forest long = tree_rest t c known pairs names inside touched once ∙ rw (forest, long) refl

module _ (t : Tables) (v : IsValid t) (c : ℕ) where
  assigns : IsAssignmentAt (case_branches t) (case_meters t) (component_meters t c) (tree_pairs t c)
  assigns = (tree_first t v c).assigns

  meters : (m : ℕ) → In m (component_meters t c) → m < length t.meters
  meters m i = (component_meter t c m i).0

  within : AreWithin t (tree_pairs t c)
  within = assigned_within t (component_meters t c) (tree_pairs t c) assigns meters v

  each_inside : (m : ℕ) → In m (items (tree_pairs t c)) → is_meter_in t c m ≡ true
  each_inside m i =
      let w = In-items_from (tree_pairs t c) m i in
      subst (λ (x : ℕ). is_meter_in t c x ≡ true) (sym w.2) (component_meter t c w.0.0 (assigns.of_items w.0 w.1)).1

  pub tree_holds : c < case_component_count t → is_energised_component t c ≡ true → IsObservable t c → Holds t (tree (component_tree t c))
  unfolding component_tree
  tree_holds l energised o =
      let is = component_named t v c l in
      let pairs = map (named_pair t) (tree_pairs t c) in
      let M = component_meters t c in
      let same = pairs_named t v (tree_pairs t c) within in
      let paired = paired_named t v (tree_pairs t c) within in
      let inside = all_inside_scope (is_meter_in t c) (items (tree_pairs t c)) each_inside in
      let a = offered t M (tree_pairs t c) assigns meters in
      tree_right t (record { component = component_name t c; pairs = pairs }) (component_known t v c l) (pairs_known t v (tree_pairs t c) within) (component_names t v c l energised)
      (ap (λ (k : ℕ). not_inside (is_meter_in t k) (items_of t (paired_items pairs))) is ∙ ap (not_inside (is_meter_in t c)) paired ∙ inside)
      (ap (not_touched t) same ∙ touched_pairs t M (tree_pairs t c) a)
      (ap (λ (xs : List ℕ). twice xs || twice (branches (pairs_of t pairs))) paired
      ∙ ap (λ (ps : List NumberPair). twice (items (tree_pairs t c)) || twice (branches ps)) same
      ∙ ap (λ (b : Bool). b || twice (branches (tree_pairs t c))) (items_once t M (tree_pairs t c) a)
      ∙ branches_once t M (tree_pairs t c) a v)
      (ap (cycle t) same ∙ no_cycle t M (tree_pairs t c) a v)
      (ap (λ (ps : List NumberPair). wrong_length ps (named_need t (component_name t c))) same
      ∙ ap not (eq-eqb (length (tree_pairs t c)) (named_need t (component_name t c)) (tree_whole t v c l o ∙ sym (component_need t v c l))))

pub trees_hold : TreesHold
trees_hold t c v l energised o = tree_holds t v c l energised o
