-- What claims that hold say of the case: of single claims' clauses, pairs and bounds.
use Rattle.std.proofs.Common.{◌≡◌, ℕ, ◌+◌, ◌<◌, ◌≤◌, Bool, true, false, cond, Option, Some, None, List, [], ◌∷◌, length, nat_lt, filter, get_or, refl, sym, ap, ◌∙◌, subst, inl, inr, arith}
use Rattle.std.specs.Prelude.{slice_index, ◌==◌}
use Rattle.std.specs.List.{flat_map, list_any, range_with_len}
use Rattle.std.specs.Str.{bytes_eq}
use Rattle.std.proofs.lemmas.Bool.{and_parts, cases_lt, eqb-true, ltb-true, not-false, or_parts}
use Rattle.std.proofs.lemmas.List.{get_or_past, length-map}
use Rattle.std.proofs.lemmas.List.FromFn.{length-range_with_len}
use Rattle.std.proofs.lemmas.List.Sums.{passes_at_first}
use Rattle.obs_case.specs.Tables.{IsValid, Tables, has_name, node_names, place_of}
use Rattle.obs_case.proofs.NameLemmas.{place-there}
use Rattle.obs_matroid.specs.Lists.{In, IsDistinct}
use Rattle.obs_matroid.specs.Matroid.{Matroid}
use Rattle.obs_matroid.specs.inner.Matroid.{IsMatroid}
use Rattle.obs_matroid.specs.Assignments.{IsAssignment, Pair as NumberPair, branches, items}
use Rattle.obs_matroid.proofs.Bounds.{length-branches, weak_bound}
use Rattle.obs_matroid.proofs.Lists.{In-filter_from, In-flat_map, In-flat_map_from, clash}
use Rattle.obs_matroid.proofs.Pairs.{In-items}
use Rattle.obs_matroid.proofs.Ranks.{independent_from_rank, rank-within}
use Rattle.obs_meter.specs.Assignments.{IsAssignmentAt}
use Rattle.obs_meter.specs.Spanned.{graph_matroid}
use Rattle.obs_meter.specs.Touches.{touch_at}
use Rattle.obs_meter.proofs.Assigned.{forest_at-from_independent}
use Rattle.obs_meter.proofs.Instance.{IsMatroid-graph}
use Rattle.obs_network.specs.inner.Components.{is_energised}
use Rattle.obs_network.specs.Network.{case_branches, case_component_count, case_components, case_energised, case_first_buses, case_offered, case_vertex_count}
use Rattle.obs_network.specs.Observable.{is_energised_component}
use Rattle.obs_network.specs.Switched.{case_buses, case_first_node}
use Rattle.obs_network.proofs.OfCase.{case_branches-are}
use Rattle.obs_cert.specs.declared.flaw.FlawCode.{FlawCode}
use Rattle.obs_cert.specs.declared.flaw.FlawCode.TheVariants.{NotBelow, Twice, WrongOutside, WrongRank}
use Rattle.obs_cert.specs.declared.flaw.Flaw.{Flaw}
use Rattle.obs_cert.specs.Claims.{Pair}
use Rattle.obs_cert.specs.Flaws.{bound_clauses, cycle, first_flaw, first_true, flaw_at, flaw_of, list_clauses, not_below, not_touched, outside_of, paired_twice, rank_of_branches, rank_of_items, twice, wrong_outside, wrong_rank}
use Rattle.obs_cert.specs.Numbered.{item_of, items_of, paired_items, pairs_of}
use Rattle.obs_meter.specs.Lost.{is_listed}
use Rattle.obs_cert.specs.Scopes.{item_touches, named_component, names_component, scope_of}
use Rattle.obs_cert.specs.Truths.{IsNameOf, NoFlawWhereAllHold}
use Rattle.obs_cert.proofs.CountingLemmas.{distinct, each_passes}
use Rattle.obs_meter.proofs.Touched.{In-from_any}
use Rattle.obs_text.proofs.ByteLemmas.{same_bytes}

-- where there is no flaw, the first test isn't true, and the later ones find none
pub none_true : (b : Bool) (code : FlawCode) (later : Option FlawCode) → cond b (Some code) later ≡ None → (b ≡ false) × (later ≡ None)
none_true true code later e = absurd (cc e)
none_true false code later e = (refl, e)

-- where no element passes a test, it is false at each
pub each_false : {X : Type 0} (test : X → Bool) (xs : List X) → list_any test xs ≡ false → (x : X) → In x xs → test x ≡ false
each_false test [] e x i = absurd i
each_false test (y ∷ ys) e x (inl is) = ap test is ∙ (or_parts (test y) (list_any test ys) e).0
each_false test (y ∷ ys) e x (inr i) = each_false test ys (or_parts (test y) (list_any test ys) e).1 x i

-- no flaw is found exactly where each claim holds
flaw_at-none : (at : ℕ) (o : Option FlawCode) (later : Option Flaw) → flaw_at at o later ≡ None → (o ≡ None) × (later ≡ None)
flaw_at-none at None later e = (refl, e)
flaw_at-none at (Some code) later e = absurd (cc e)

pub no_flaw : NoFlawWhereAllHold
no_flaw t at [] = ((λ e claim i. absurd i), (λ h. refl))
no_flaw t at (claim ∷ claims) = (
  (λ e x i.
      let both = flaw_at-none at (flaw_of t claim) (first_flaw t (at + 1) claims) e in
      elim i [ inl is ↦ ap (flaw_of t) is ∙ both.0 | inr later ↦ (no_flaw t (at + 1) claims).0 both.1 x later ]),
  (λ h.
      let here : flaw_of t claim ≡ None = h claim (inl refl) in
      ap (λ (o : Option FlawCode). flaw_at at o (first_flaw t (at + 1) claims)) here ∙ (no_flaw t (at + 1) claims).1 (λ x i. h x (inr i))),
)

-- the component that a name stands for
energised_below : (t : Tables) (c : ℕ) → is_energised_component t c ≡ true → c < case_component_count t
unfolding case_energised
energised_below t c energised =
    elim (cases_lt c (length (case_energised t))) [
      | inl l ↦ (let e = length-map (range_with_len 0 (case_component_count t)) (is_energised (case_components t) (case_buses t) t.nodes) in omega (arith, l, e, length-range_with_len 0 (case_component_count t)))
      | inr past ↦ clash energised (get_or_past (case_energised t) c false past)
    ]

pub name_of_component : (t : Tables) (name : List ℕ) → has_name (node_names t) name ≡ true → names_component t name ≡ true → IsNameOf t (named_component t name) name
name_of_component t name known names =
    let u = place_of (node_names t) name in
    let low = place-there (bytes_eq name) (node_names t) known in
    let one = and_parts (case_first_node t u == u) _ names in
    let two = and_parts (slice_index (case_first_buses t) (named_component t name) == slice_index (case_buses t) u) _ one.1 in
    record {
      there = energised_below t (named_component t name) two.1;
      energised = two.1;
      node = u;
      low = omega (arith, low, length-map t.nodes (λ row. row.name));
      named = sym (same_bytes name (get_or (node_names t) u []) (passes_at_first (bytes_eq name) (node_names t) [] low));
      first_node = eqb-true (case_first_node t u) u one.0;
      first_bus = eqb-true (slice_index (case_first_buses t) (named_component t name)) (slice_index (case_buses t) u) two.0;
    }

-- the items of pairs, by number
pub items-pairs : (t : Tables) (pairs : List Pair) → items (pairs_of t pairs) ≡ items_of t (paired_items pairs)
items-pairs t [] = refl
items-pairs t (p ∷ pairs) = ap (λ (xs : List ℕ). item_of t p.item ∷ xs) (items-pairs t pairs)

module _ (t : Tables) (v : IsValid t) where
  abbrev g : Matroid
  g = graph_matroid (case_vertex_count t) (case_branches t)

  abbrev touch : ℕ → List ℕ
  touch = touch_at (case_branches t) (case_offered t)

  pub laws : IsMatroid (graph_matroid (case_vertex_count t) (case_branches t))
  laws = IsMatroid-graph (case_vertex_count t) (case_branches t) (case_branches-are t v)

  -- pairs whose clauses are true are an assignment of a list that has their items
  pub pairs_assign : (M : List ℕ) (pairs : List Pair) → not_touched t (pairs_of t pairs) ≡ false → paired_twice t pairs ≡ false → cycle t (pairs_of t pairs) ≡ false
      → ((m : ℕ) → In m (items_of t (paired_items pairs)) → In m M) → IsAssignmentAt (case_branches t) (case_offered t) M (pairs_of t pairs)
  pairs_assign M pairs touched once forest within =
      let A = pairs_of t pairs in
      let rank = eqb-true (rank_of_branches t (branches A)) (length A) (not-false (rank_of_branches t (branches A) == length A) forest) in
      let different = distinct (items_of t (paired_items pairs)) (or_parts (twice (items_of t (paired_items pairs))) (twice (branches A)) once).0 in
      record {
        of_items = λ p i. within p.0 (subst (λ (xs : List ℕ). In p.0 xs) (items-pairs t pairs) (In-items A p i));
        touched = λ p i. In-from_any (item_touches t p.0) p.1 (each_passes (λ (q : NumberPair). is_listed (item_touches t q.0) q.1) A touched p i);
        different = subst (λ (xs : List ℕ). IsDistinct xs) (sym (items-pairs t pairs)) different;
        forest = forest_at-from_independent (case_vertex_count t) (case_branches t) (branches A) (independent_from_rank g laws (branches A) (rank ∙ sym (length-branches A)));
      }

  -- what is touched by the listed ones of a list spans no more than what is touched by all that are listed
  pub rank_within : (M list : List ℕ) → rank_of_branches t (flat_map (item_touches t) (filter (is_listed list) M)) ≤ rank_of_items t list
  rank_within M list =
      rank-within g laws (flat_map (item_touches t) (filter (is_listed list) M)) (flat_map (item_touches t) list)
      (λ e i.
      let w = In-flat_map_from (item_touches t) e (filter (is_listed list) M) i in
      let u = In-filter_from (is_listed list) w.0 M w.1 in
      laws.member (flat_map (item_touches t) list) e (In-flat_map (item_touches t) w.0 e list (In-from_any list w.0 u.1) w.2))

  -- where the clauses on stated numbers are true, no assignment of the scope is as long as the need
  pub bound_below : (test : ℕ → Bool) (list : List ℕ) (rank outside need : ℕ) → first_true (list_clauses t test list rank outside need) ≡ None → (B : List NumberPair)
      → IsAssignment (graph_matroid (case_vertex_count t) (case_branches t)) (touch_at (case_branches t) (case_offered t)) (scope_of t test) B → length B < need
  bound_below test list rank outside need h B b =
      let once = none_true (twice list) Twice (first_true (bound_clauses t test list rank outside need)) h in
      let ranked = none_true (wrong_rank t list rank) WrongRank _ once.1 in
      let counted = none_true (wrong_outside t test list outside) WrongOutside _ ranked.1 in
      let below = none_true (not_below rank outside need) NotBelow None counted.1 in
      let r = eqb-true (rank_of_items t list) rank (not-false (rank_of_items t list == rank) ranked.0) in
      let o = eqb-true (outside_of t test list) outside (not-false (outside_of t test list == outside) counted.0) in
      let l = ltb-true (rank + outside) need (not-false (nat_lt (rank + outside) need) below.0) in
      let w = weak_bound g laws touch (scope_of t test) (is_listed list) B b in
      let k = rank_within (scope_of t test) list in
      omega (arith, r, o, l, w, k)
