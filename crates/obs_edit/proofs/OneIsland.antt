-- An island lies in one component, and a component is observable exactly where its vertices are an island.
use Rattle.std.proofs.Common.{inl, inr, ◌≡◌, ℕ, suc, ◌<◌, Bool, true, false, ◌&&◌, ◌||◌, Option, Some, None, List, length, filter, get_or, refl, sym, ap, ◌∙◌, subst, arith}
use Rattle.std.specs.Prelude.{nat_lt, slice_index_or, ◌==◌}
use Rattle.std.proofs.lemmas.Bool.{and_parts, cases_eq, eq-eqb, eqb-true, ne_eqb}
use Rattle.obs_graph.specs.declared.Ends.{Ends}
use Rattle.obs_graph.specs.Positions.{present}
use Rattle.obs_case.specs.Tables.{IsValid, Tables}
use Rattle.obs_matroid.specs.Assignments.{IsAssignment, Pair, branches}
use Rattle.obs_matroid.specs.Islands.{LiesInside}
use Rattle.obs_matroid.proofs.Bounds.{length-branches}
use Rattle.obs_matroid.proofs.Lists.{In-filter, In-filter_from, IsDistinct-filter, filter_all}
use Rattle.obs_matroid.proofs.Pairs.{In-branches_from, In-items, In-items_from}
use Rattle.obs_matroid.proofs.Pieces.{forest_joins, stays_in}
use Rattle.obs_matroid.proofs.Placement.{IsAssignment-items}
use Rattle.obs_meter.specs.declared.Touch.TheVariants.{Nothing}
use Rattle.obs_meter.specs.Spanned.{both_ends, ends_at, joined_at, rank_at}
use Rattle.obs_meter.proofs.Assigned.{from_matroid, to_matroid}
use Rattle.obs_meter.proofs.Instance.{IsJoining-graph, IsMatroid-graph}
use Rattle.obs_meter.proofs.Touched.{touched-present}
use Rattle.obs_islands.specs.Islands.{every_vertex}
use Rattle.obs_islands.proofs.Parts.{In-vertices, vertex_low, vertices-distinct}
use Rattle.obs_islands.proofs.Spanning.{IsSpannedAt, ends_low}
use Rattle.obs_network.specs.Switched.{case_bus_count}
use Rattle.obs_network.specs.Network.{case_branches, case_component_count, case_components, case_live, case_meters, case_vertex_component, case_vertex_count}
use Rattle.obs_network.specs.Observable.{IsObservable, branch_component, case_live_meters, is_absolute_component, is_vertex_of, item_component}
use Rattle.obs_network.proofs.InComponents.{ends_component, placed, present_placed, touched_component}
use Rattle.obs_network.proofs.Numbered.{component_at}
use Rattle.obs_network.proofs.OfCase.{case_branches-are}
use Rattle.obs_network.proofs.Vertices.{is_vertex_of-bus, need_is}
use Rattle.obs_network.proofs.OfLaws.{case_component-at}
use Rattle.obs_repair.specs.Bounds.{component_meters, is_meter_of}
use Rattle.obs_edit.specs.Answers.{case_first_pairs}
use Rattle.obs_edit.specs.Laws.{IsIslandOf, IslandsLieInComponents, ObservableIsIsland, tree_pairs}
use Rattle.obs_edit.proofs.FirstTrees.{tree_first, tree_whole}
use Rattle.obs_repair.proofs.Tight.{case_matroid, case_touch}

-- a vertex of a component lies in it
vertex_of_component : (t : Tables) (c u : ℕ) → is_vertex_of t c u ≡ true → (case_vertex_component t u == c) ≡ true
vertex_of_component t c u own = (and_parts (case_vertex_component t u == c) (nat_lt u (case_bus_count t) || is_absolute_component t c) own).0

-- of the ends of a branch both are vertices of a component, or none is
ends_vertex : (t : Tables) → IsValid t → (c e : ℕ) → is_vertex_of t c (ends_at (case_branches t) e).0 ≡ is_vertex_of t c (ends_at (case_branches t) e).1
ends_vertex t v c e = by_option (get_or (case_branches t) e None) refl
  where
    by_option : (o : Option Ends) → get_or (case_branches t) e None ≡ o → is_vertex_of t c (both_ends o).0 ≡ is_vertex_of t c (both_ends o).1
    by_option None is = refl
    by_option (Some x) is =
        let p = placed t v e x is in
        let k = case_vertex_component t x.a in
        elim (cases_eq k c) [
          | inl same ↦ ap (λ j. is_vertex_of t j x.a) (sym same) ∙ p.of_a ∙ sym p.of_b ∙ ap (λ j. is_vertex_of t j x.b) same
          | inr ne ↦ elsewhere x.a p.at_a ne ∙ sym (elsewhere x.b p.at_b ne)
        ]
      where
        elsewhere : (u : ℕ) → case_vertex_component t u ≡ case_vertex_component t x.a → (case_vertex_component t x.a ≡ c → ⊥) → is_vertex_of t c u ≡ false
        elsewhere u same ne =
            let off : (case_vertex_component t u == c) ≡ false = ne_eqb (case_vertex_component t u) c (λ at. ne (sym same ∙ at)) in
            ap (λ b. b && (nat_lt u (case_bus_count t) || is_absolute_component t c)) off

module _ (t : Tables) (v : IsValid t) where
  -- vertices that branches join are of one component
  same_component : (L : List ℕ) (u w : ℕ) → joined_at (case_branches t) L u w ≡ true → case_vertex_component t u ≡ case_vertex_component t w
  same_component L u w j =
      let c = case_vertex_component t u in
      let r = stays_in (ends_at (case_branches t)) (joined_at (case_branches t)) (IsJoining-graph (case_branches t)) (λ x. case_vertex_component t x == c) L
      (λ e i. ap (λ (k : ℕ). k == c) (ends_component t v e)) u w (eq-eqb c c refl) j in
      sym (eqb-true (case_vertex_component t w) c r.1)

  -- and with one vertex of a component they join only such vertices
  same_vertices : (c : ℕ) (L : List ℕ) (u w : ℕ) → joined_at (case_branches t) L u w ≡ true → is_vertex_of t c u ≡ true → is_vertex_of t c w ≡ true
  same_vertices c L u w j own =
      (stays_in (ends_at (case_branches t)) (joined_at (case_branches t)) (IsJoining-graph (case_branches t)) (is_vertex_of t c) L (λ e i. ends_vertex t v c e) u w own j).1

  -- the pairs of a set that is spanned from inside join its vertices
  spanned_joins : (T : ℕ → Bool) (s : IsSpannedAt (case_vertex_count t) (case_branches t) (case_meters t) T) (u w : ℕ) → u < case_vertex_count t → w < case_vertex_count t → T u ≡ true → T w ≡ true
      → joined_at (case_branches t) (branches s.pairs) u w ≡ true
  spanned_joins T s u w lu lw tu tw =
      let n = case_vertex_count t in
      let ends = case_branches t in
      let vs = every_vertex n in
      forest_joins (ends_at ends) (joined_at ends) (rank_at n ends) (IsJoining-graph ends) (filter T vs) (IsDistinct-filter T vs (vertices-distinct n)) (branches s.pairs) s.assigns.independent
      (λ e i.
      let p = In-branches_from s.pairs e i in
      let touched = s.assigns.touched p.0 p.1 in
      let in_set = s.lie_inside p.0.0 (In-items s.pairs p.0 p.1) p.0.1 touched in
      let low = ends_low n ends (case_meters t) (case_branches-are t v) p.0.0 p.0.1 touched in
      rw p.2 (In-filter T (ends_at ends p.0.1).0 vs low.0 in_set.0, In-filter T (ends_at ends p.0.1).1 vs low.1 in_set.1))
      (let e = s.enough in let l = length-branches s.pairs in omega (arith, e, l))
      u w (In-filter T u vs (In-vertices n u lu) tu) (In-filter T w vs (In-vertices n w lw) tw)

  spanned_component : (T : ℕ → Bool) → IsSpannedAt (case_vertex_count t) (case_branches t) (case_meters t) T → (u w : ℕ) → u < case_vertex_count t → w < case_vertex_count t → T u ≡ true → T w ≡ true
      → case_vertex_component t u ≡ case_vertex_component t w
  spanned_component T s u w lu lw tu tw = same_component (branches s.pairs) u w (spanned_joins T s u w lu lw tu tw)

  module _ (c : ℕ) (low : c < case_component_count t) where
    -- a component has a bus
    some_bus : (u : ℕ) × (u < case_vertex_count t) × (is_vertex_of t c u ≡ true)
    unfolding case_component_count
    some_bus =
        let b = component_at (case_bus_count t) (present (case_live t)) c low in
        let here = b.1 in
        (b.0, omega (arith, here), is_vertex_of-bus t c b.0 here ∙ eq-eqb (get_or (case_components t) b.0 0) c (case_component-at t b.0 here ∙ b.2))

    -- a meter of the component touches branches between its vertices
    lies_inside : (m : ℕ) → item_component t (case_meters t) m ≡ c → LiesInside (ends_at (case_branches t)) (case_touch t) (is_vertex_of t c) m
    lies_inside m own e i =
        let there = touched-present (case_branches t) (slice_index_or (case_meters t) m Nothing) e i in
        let p = present_placed t v e there in
        let first = touched_component t v (case_meters t) m e i ∙ own in
        subst (λ k. (is_vertex_of t k (ends_at (case_branches t) e).0 ≡ true) × (is_vertex_of t k (ends_at (case_branches t) e).1 ≡ true)) first (p.of_a, p.of_b)

    tree_assigns : IsAssignment (case_matroid t) (case_touch t) (case_live_meters t) (tree_pairs t c)
    unfolding component_meters
    tree_assigns =
        let n = case_vertex_count t in
        let ends = case_branches t in
        let a = to_matroid n ends (case_meters t) (component_meters t c) (tree_pairs t c) (tree_first t v c).assigns in
        IsAssignment-items (case_matroid t) (IsMatroid-graph n ends (case_branches-are t v)) (case_touch t) (component_meters t c) (case_live_meters t) (tree_pairs t c) a
        (λ p i. (In-filter_from (is_meter_of t c) p.0 (case_live_meters t) (a.of_items p i)).0)

    spanned_by_tree : IsObservable t c → IsSpannedAt (case_vertex_count t) (case_branches t) (case_meters t) (is_vertex_of t c)
    spanned_by_tree o =
        let b = some_bus in
        record {
          vertex = b.0;
          vertex_in = In-vertices (case_vertex_count t) b.0 b.1;
          holds_vertex = b.2;
          pairs = tree_pairs t c;
          assigns = tree_assigns;
          lie_inside = λ m i.
              let p = In-items_from (tree_pairs t c) m i in
              let lies = (In-filter_from (λ (q : Pair). branch_component t q.1 == c) p.0 (case_first_pairs t) p.1).1 in
              lies_inside m (ap (item_component t (case_meters t)) p.2 ∙ (sym (touched_component t v (case_meters t) p.0.0 p.0.1 (tree_assigns.touched p.0 p.1)) ∙ eqb-true (branch_component t p.0.1) c lies));
          enough = ap suc (tree_whole t v c low o) ∙ need_is t c low;
        }

    island_from : IsObservable t c → IsIslandOf t (is_vertex_of t c)
    island_from o =
        let b = some_bus in
        record {
          spanned = spanned_by_tree o;
          largest = λ T s more w i tw.
              let lw = vertex_low (case_vertex_count t) w i in
              let joined = spanned_joins T s b.0 w b.1 lw (more b.0 (In-vertices (case_vertex_count t) b.0 b.1) b.2) tw in
              same_vertices c (branches s.pairs) b.0 w joined b.2;
        }

    observable_from : IsIslandOf t (is_vertex_of t c) → IsObservable t c
    observable_from island =
        let s = island.spanned in
        let all : filter (λ (p : Pair). branch_component t p.1 == c) s.pairs ≡ s.pairs = filter_all (λ (p : Pair). branch_component t p.1 == c) s.pairs
        (λ p i. vertex_of_component t c (ends_at (case_branches t) p.1).0 (s.lie_inside p.0 (In-items s.pairs p i) p.1 (s.assigns.touched p i)).0) in
        record {
          pairs = s.pairs;
          assigns = from_matroid (case_vertex_count t) (case_branches t) (case_meters t) (case_live_meters t) s.pairs s.assigns;
          enough = let long = s.enough in let need = need_is t c low in let same = ap (λ (A : List Pair). length A) all in omega (arith, long, need, same);
        }

pub islands_lie_in_components : IslandsLieInComponents
islands_lie_in_components t S u w v island lu lw su sw = spanned_component t v S island.spanned u w lu lw su sw

pub observable_is_island : ObservableIsIsland
observable_is_island t c v low = (island_from t v c low, observable_from t v c low)
