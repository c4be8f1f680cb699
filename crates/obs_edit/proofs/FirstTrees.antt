-- The pairs of the first assignment in a component: the first assignment of its meters, and where it is observable a tree of it.
use Rattle.std.proofs.Common.{Bool, ◌≡◌, ℕ, ◌<◌, true, List, [], ◌∷◌, length, filter, get_or, refl, sym, ap, ◌∙◌, subst, inl, inr, arith}
use Rattle.std.specs.Prelude.{◌==◌}
use Rattle.std.specs.List.{range_with_len}
use Rattle.std.proofs.lemmas.Bool.{cases_Bool, eqb-true}
use Rattle.obs_case.specs.Tables.{IsValid, Tables}
use Rattle.obs_matroid.specs.Lists.{In, IsDistinct, IsRising}
use Rattle.obs_matroid.specs.Values.{first_of}
use Rattle.obs_matroid.proofs.Comparing.{first_unique}
use Rattle.obs_matroid.proofs.Computed.{first_of_is}
use Rattle.obs_matroid.specs.Assignments.{Pair, branches, items}
use Rattle.obs_matroid.specs.inner.Assignments.{part}
use Rattle.obs_matroid.proofs.Bounds.{length-branches}
use Rattle.obs_matroid.proofs.Lists.{In-filter, IsDistinct-filter, In-filter_from, filter_same}
use Rattle.obs_matroid.proofs.Pairs.{In-branches_from, items_within}
use Rattle.obs_matroid.proofs.Pieces.{forest_joins}
use Rattle.obs_matroid.proofs.Ranges.{range_distinct, range_in, range_rising, rising_filter}
use Rattle.obs_meter.specs.declared.Touch.TheVariants.{Nothing}
use Rattle.obs_meter.specs.Spanned.{ends_at, joined_at, rank_at}
use Rattle.obs_meter.proofs.Assigned.{live_items-distinct, rho_at-is, rho_at-unique, to_matroid}
use Rattle.obs_meter.proofs.Instance.{IsJoining-graph, IsMatroid-graph}
use Rattle.obs_meter.proofs.Touched.{touch-rising, touched-present}
use Rattle.obs_first.specs.First.{IsFirstAt, first_pairs}
use Rattle.obs_meter.specs.Touches.{every_item, is_live}
use Rattle.obs_first.proofs.Listed.{IsRising-first_of, pairs_same}
use Rattle.obs_first.proofs.Lawful.{first-from_matroid, first-live, first-to_matroid, first_pairs-is}
use Rattle.obs_network.specs.Network.{case_branches, case_component_count, case_meters, case_need, case_vertex_count}
use Rattle.obs_network.specs.Observable.{IsObservable, branch_component, case_live_meters, item_component, is_vertex_of}
use Rattle.obs_network.proofs.InComponents.{kinds_sum, present_below, present_placed, touched_component}
use Rattle.obs_network.proofs.OfCase.{case_branches-are}
use Rattle.obs_network.proofs.Vertices.{need_is, vertices_of_component}
use Rattle.obs_repair.specs.Bounds.{component_meters, component_rank, is_meter_of}
use Rattle.obs_edit.specs.Answers.{case_first_pairs}
use Rattle.obs_edit.specs.Laws.{TreesAreFirst, TreesAreWhole, TreesSpan, TreesStandAlone, tree_pairs}
use Rattle.obs_edit.proofs.FirstParts.{first_in_component}
use Rattle.obs_repair.proofs.Tight.{case_matroid, case_touch, observable-to}

-- some of the pairs rise, where all do
IsRising-filter_items : (f : Pair → Bool) (A : List Pair) → IsRising (items A) → IsRising (items (filter f A))
IsRising-filter_items f [] r = tt
IsRising-filter_items f (p ∷ A) r = elim (cases_Bool (f p)) [
  | inl e ↦ rw e ((λ y i. r.0 y (items_within (filter f A) A (λ q j. (In-filter_from f q A j).0) y i)), IsRising-filter_items f A r.1)
  | inr e ↦ rw e (IsRising-filter_items f A r.1)
]

module _ (t : Tables) (v : IsValid t) (c : ℕ) where
  all_first : IsFirstAt (case_branches t) (case_meters t) (case_live_meters t) (case_first_pairs t)
  unfolding case_first_pairs
  all_first = first-live (case_branches t) (case_meters t) (first_pairs (case_vertex_count t) (case_branches t) (case_meters t))
      (first_pairs-is (case_vertex_count t) (case_branches t) (case_meters t) (case_branches-are t v))

  tree_is : tree_pairs t c ≡ part (is_meter_of t c) (case_first_pairs t)
  tree_is = filter_same (λ (p : Pair). branch_component t p.1 == c) (λ (p : Pair). is_meter_of t c p.0) (case_first_pairs t)
      (λ p i. ap (λ (k : ℕ). k == c) (touched_component t v (case_meters t) p.0 p.1 (all_first.assigns.touched p i)))

  pub tree_first : IsFirstAt (case_branches t) (case_meters t) (component_meters t c) (tree_pairs t c)
  unfolding component_meters
  tree_first =
      let n = case_vertex_count t in
      let ends = case_branches t in
      let touches = case_meters t in
      let M = case_live_meters t in
      let A = case_first_pairs t in
      subst (λ (B : List Pair). IsFirstAt ends touches (filter (is_meter_of t c) M) B) (sym tree_is)
      (first-from_matroid n ends touches (filter (is_meter_of t c) M) (part (is_meter_of t c) A)
      (first_in_component (case_matroid t) (IsMatroid-graph n ends (case_branches-are t v)) (case_touch t) (branch_component t) (item_component t touches) (kinds_sum t v) (touched_component t v touches) c
      M A (first-to_matroid n ends touches M A all_first)))

  meters_differ : IsDistinct (component_meters t c)
  unfolding component_meters
  meters_differ = IsDistinct-filter (is_meter_of t c) (case_live_meters t) (live_items-distinct (case_branches t) (case_meters t))

  meters_rise : IsRising (component_meters t c)
  unfolding component_meters
  meters_rise =
      rising_filter (is_meter_of t c) (case_live_meters t)
      (rising_filter (is_live (case_branches t) (case_meters t)) (every_item (case_meters t)) (range_rising 0 (length (case_meters t))))

  tree_rises : IsRising (items (tree_pairs t c))
  unfolding case_first_pairs
  tree_rises =
      IsRising-filter_items (λ (p : Pair). branch_component t p.1 == c) (first_pairs (case_vertex_count t) (case_branches t) (case_meters t))
      (IsRising-first_of (case_matroid t) (case_touch t) (every_item (case_meters t)) (range_rising 0 (length (case_meters t))))

  pub tree_alone : tree_pairs t c ≡ first_of (case_matroid t) (case_touch t) (component_meters t c)
  tree_alone =
      let n = case_vertex_count t in
      let ends = case_branches t in
      let touches = case_meters t in
      let M = component_meters t c in
      let B = first_of (case_matroid t) (case_touch t) M in
      pairs_same (tree_pairs t c) B tree_rises (IsRising-first_of (case_matroid t) (case_touch t) M meters_rise)
      (first_unique (case_matroid t) (case_touch t) M (tree_pairs t c) B (first-to_matroid n ends touches M (tree_pairs t c) tree_first)
      (first_of_is (case_matroid t) (IsMatroid-graph n ends (case_branches-are t v)) (case_touch t) (λ m. touch-rising ends touches m) M meters_differ))

  tree_rank : length (tree_pairs t c) ≡ component_rank t c
  unfolding component_rank
  tree_rank = rho_at-unique (case_branches t) (case_meters t) (component_meters t c) (length (tree_pairs t c)) (component_rank t c)
      (record { longest = tree_pairs t c; assigns = tree_first.assigns; long = refl; none_longer = tree_first.longest })
      (rho_at-is (case_vertex_count t) (case_branches t) (case_meters t) (component_meters t c) (case_branches-are t v) meters_differ)

  pub tree_whole : c < case_component_count t → IsObservable t c → length (tree_pairs t c) ≡ case_need t c
  tree_whole l o = tree_rank ∙ observable-to t v c l o

module _ (t : Tables) (v : IsValid t) (c : ℕ) where
  vertex_in : (u : ℕ) → u < case_vertex_count t → is_vertex_of t c u ≡ true → In u (vertices_of_component t c)
  vertex_in u l own =
      In-filter (is_vertex_of t c) u (range_with_len 0 (case_vertex_count t)) (range_in 0 (case_vertex_count t) u (omega arith) (omega (arith, l))) own

  -- both ends of a branch of the tree are vertices of the component
  ends_in : (e : ℕ) → In e (branches (tree_pairs t c)) → In (ends_at (case_branches t) e).0 (vertices_of_component t c) × In (ends_at (case_branches t) e).1 (vertices_of_component t c)
  ends_in e i =
      let w = In-branches_from (tree_pairs t c) e i in
      let there = touched-present (case_branches t) (get_or (case_meters t) w.0.0 Nothing) w.0.1 ((tree_first t v c).assigns.touched w.0 w.1) in
      let low = present_below t v w.0.1 there in
      let p = present_placed t v w.0.1 there in
      let lies = eqb-true (branch_component t w.0.1) c (In-filter_from (λ (q : Pair). branch_component t q.1 == c) w.0 (case_first_pairs t) w.1).1 in
      subst (λ (x : ℕ). In (ends_at (case_branches t) x).0 (vertices_of_component t c) × In (ends_at (case_branches t) x).1 (vertices_of_component t c)) (sym w.2) (
        vertex_in (ends_at (case_branches t) w.0.1).0 low.0 (subst (λ k. is_vertex_of t k (ends_at (case_branches t) w.0.1).0 ≡ true) lies p.of_a),
        vertex_in (ends_at (case_branches t) w.0.1).1 low.1 (subst (λ k. is_vertex_of t k (ends_at (case_branches t) w.0.1).1 ≡ true) lies p.of_b),
      )

  pub tree_spans : (u w : ℕ) → c < case_component_count t → IsObservable t c → u < case_vertex_count t → w < case_vertex_count t
      → is_vertex_of t c u ≡ true → is_vertex_of t c w ≡ true → joined_at (case_branches t) (branches (tree_pairs t c)) u w ≡ true
  tree_spans u w l o lu lw su sw =
      let n = case_vertex_count t in
      let ends = case_branches t in
      let W = vertices_of_component t c in
      forest_joins (ends_at ends) (joined_at ends) (rank_at n ends) (IsJoining-graph ends) W (IsDistinct-filter (is_vertex_of t c) (range_with_len 0 n) (range_distinct 0 n)) (branches (tree_pairs t c))
      (to_matroid n ends (case_meters t) (component_meters t c) (tree_pairs t c) (tree_first t v c).assigns).independent ends_in
      (let many = tree_whole t v c l o in let need = need_is t c l in omega (arith, many, need, length-branches (tree_pairs t c)))
      u w (vertex_in u lu su) (vertex_in w lw sw)

pub trees_are_first : TreesAreFirst
trees_are_first t c v = tree_first t v c

pub trees_stand_alone : TreesStandAlone
trees_stand_alone t c v = tree_alone t v c

pub trees_are_whole : TreesAreWhole
trees_are_whole t c v l o = tree_whole t v c l o

pub trees_span : TreesSpan
trees_span t c u w v l o lu lw su sw = tree_spans t v c u w l o lu lw su sw
