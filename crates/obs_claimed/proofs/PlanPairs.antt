-- The pairs of an assignment by the clauses of claims, and of a plan, which are as many as the case needs.
use Rattle.std.proofs.Common.{◌≡◌, ℕ, ◌+◌, ◌<◌, ◌||◌, true, false, not, nat_lt, List, ◌++◌, length, map, filter, sym, ap, ◌∙◌, subst, ◌⊎◌, inl, inr, arith}
use Rattle.std.specs.List.{range_with_len}
use Rattle.std.proofs.lemmas.Bool.{and_from, eq-eqb, lt-ltb, ltb-true, or_left, or_right}
use Rattle.obs_case.specs.Tables.{IsValid, Tables}
use Rattle.obs_matroid.specs.Assignments.{Pair, branches, items}
use Rattle.obs_matroid.specs.Lists.{In}
use Rattle.obs_matroid.proofs.Bounds.{length-branches}
use Rattle.obs_matroid.proofs.Lists.{In-append_cases, In-append_left, In-append_right, In-filter, In-filter_from}
use Rattle.obs_matroid.proofs.Pairs.{In-items_from}
use Rattle.obs_matroid.proofs.Ranks.{IsDistinct-independent, rank-independent}
use Rattle.obs_matroid.proofs.Ranges.{range_from, range_in}
use Rattle.obs_meter.specs.Assignments.{IsAssignmentAt}
use Rattle.obs_meter.specs.Spanned.{graph_matroid}
use Rattle.obs_meter.specs.Touches.{is_live, live_items}
use Rattle.obs_meter.proofs.Assigned.{independent-from_forest_at}
use Rattle.obs_meter.proofs.Instance.{IsMatroid-graph}
use Rattle.obs_meter.proofs.Touched.{any-from_In, live-from_In}
use Rattle.obs_meter.proofs.Live.{In-live}
use Rattle.obs_first.specs.First.{IsFirstAt}
use Rattle.obs_network.specs.Network.{case_branches, case_needed, case_offered, case_vertex_count, is_meter}
use Rattle.obs_network.proofs.OfCase.{case_branches-are}
use Rattle.obs_meter.specs.Costs.{live_meters}
use Rattle.obs_network.specs.Completing.{CompletesCase}
use Rattle.obs_edit.specs.Planned.{planned_items}
use Rattle.obs_cert.specs.Flaws.{cycle, not_inside, not_touched, rank_of_branches, twice}
use Rattle.obs_meter.specs.Lost.{is_listed}
use Rattle.obs_cert.specs.Scopes.{is_live_item, is_of_plan, item_touches}
use Rattle.obs_claimed.proofs.ClauseTests.{all_inside_scope, any_false, once}

module _ (t : Tables) (M : List ℕ) (A : List Pair) (a : IsAssignmentAt (case_branches t) (case_offered t) M A) where
  pub touched_pairs : not_touched t A ≡ false
  touched_pairs = any_false (λ (p : Pair). not (is_listed (item_touches t p.0) p.1)) A (λ p i. ap not (any-from_In (item_touches t p.0) p.1 (a.touched p i)))

  pub items_once : twice (items A) ≡ false
  items_once = once (items A) a.different

  -- a paired item touches a branch
  pub paired_live : (m : ℕ) → In m (items A) → is_live_item t m ≡ true
  paired_live m i =
      let w = In-items_from A m i in
      subst (λ (x : ℕ). is_live_item t x ≡ true) (sym w.2) (live-from_In (case_branches t) (case_offered t) w.0.0 w.0.1 (a.touched w.0 w.1))

  pub paired_of : (m : ℕ) → In m (items A) → In m M
  paired_of m i = let w = In-items_from A m i in subst (λ (x : ℕ). In x M) (sym w.2) (a.of_items w.0 w.1)

  module _ (v : IsValid t) where
    pub branches_once : twice (branches A) ≡ false
    branches_once =
        let n = case_vertex_count t in
        let ends = case_branches t in
        once (branches A) (IsDistinct-independent (graph_matroid n ends) (IsMatroid-graph n ends (case_branches-are t v)) (branches A) (independent-from_forest_at n ends (branches A) a.forest))

    pub no_cycle : cycle t A ≡ false
    no_cycle =
        let n = case_vertex_count t in
        let ends = case_branches t in
        let rank = rank-independent (graph_matroid n ends) (IsMatroid-graph n ends (case_branches-are t v)) (branches A) (independent-from_forest_at n ends (branches A) a.forest) in
        ap not (eq-eqb (rank_of_branches t (branches A)) (length A) (rank ∙ length-branches A))

module _ (t : Tables) (chosen : List ℕ) (A : List Pair) (first : IsFirstAt (case_branches t) (case_offered t) (planned_items (length t.meters) chosen) A) where
  -- the chosen candidates as items
  abbrev X : List ℕ
  X = map (λ k. length t.meters + k) chosen

  abbrev metered : List ℕ
  metered = live_meters (case_branches t) (case_offered t) (length t.meters)

  abbrev alive : List ℕ
  alive = filter (is_live (case_branches t) (case_offered t)) X

  -- a paired item is a meter or a chosen candidate
  pub paired_which : (m : ℕ) → In m (items A) → (m < length t.meters) ⊎ In m X
  paired_which m i = elim (In-append_cases m (range_with_len 0 (length t.meters)) X (paired_of t (planned_items (length t.meters) chosen) A first.assigns m i)) [
    | inl j ↦ inl (let r = range_from 0 (length t.meters) m j in omega (arith, r.1))
    | inr j ↦ inr j
  ]

  pub paired_inside : not_inside (is_of_plan t (is_listed X)) (items A) ≡ false
  paired_inside = all_inside_scope (is_of_plan t (is_listed X)) (items A) (λ m i.
      and_from (is_live_item t m) (is_meter t m || is_listed X m) (paired_live t (planned_items (length t.meters) chosen) A first.assigns m i) (elim (paired_which m i) [
        | inl l ↦ or_left (is_meter t m) (is_listed X m) (lt-ltb m (length t.meters) l)
        | inr j ↦ or_right (is_meter t m) (is_listed X m) (any-from_In X m j)
      ]))

  -- the pairs are an assignment of the live ones
  of_live : IsAssignmentAt (case_branches t) (case_offered t) (metered ++ alive) A
  of_live = record {
    of_items = λ p i.
        let live : is_live_item t p.0 ≡ true = live-from_In (case_branches t) (case_offered t) p.0 p.1 (first.assigns.touched p i) in
        elim (In-append_cases p.0 (range_with_len 0 (length t.meters)) X (first.assigns.of_items p i)) [
          | inl j ↦
              let r = range_from 0 (length t.meters) p.0 j in
              In-append_left p.0 metered alive (In-filter (λ x. nat_lt x (length t.meters)) p.0 (live_items (case_branches t) (case_offered t)) (In-live (case_branches t) (case_offered t) p.0 live)
              (lt-ltb p.0 (length t.meters) (omega (arith, r.1))))
          | inr j ↦ In-append_right p.0 metered alive (In-filter (is_live (case_branches t) (case_offered t)) p.0 X j live)
        ];
    touched = first.assigns.touched;
    different = first.assigns.different;
    forest = first.assigns.forest;
  }

  -- and the longest of these is one of the plan's items
  of_plan : (B : List Pair) → IsAssignmentAt (case_branches t) (case_offered t) (metered ++ alive) B → IsAssignmentAt (case_branches t) (case_offered t) (planned_items (length t.meters) chosen) B
  of_plan B b = record {
    of_items = λ p i. elim (In-append_cases p.0 metered alive (b.of_items p i)) [
      | inl j ↦
          let u = In-filter_from (λ x. nat_lt x (length t.meters)) p.0 (live_items (case_branches t) (case_offered t)) j in
          In-append_left p.0 (range_with_len 0 (length t.meters)) X (range_in 0 (length t.meters) p.0 (omega arith) (let l = ltb-true p.0 (length t.meters) u.1 in omega (arith, l)))
      | inr j ↦ In-append_right p.0 (range_with_len 0 (length t.meters)) X (In-filter_from (is_live (case_branches t) (case_offered t)) p.0 X j).0
    ];
    touched = b.touched;
    different = b.different;
    forest = b.forest;
  }

  -- they are as many as the case needs
  pub as_needed : CompletesCase t X → length A ≡ case_needed t
  as_needed c =
      let few = c.reached.none_longer A of_live in
      let many = first.longest c.reached.longest (of_plan c.reached.longest c.reached.assigns) in
      let long = c.reached.long in
      omega (arith, few, many, long)
