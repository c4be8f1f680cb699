-- How long the texts of all trees and bounds are at the most.
use Rattle.std.proofs.Common.{ℕ, ◌+◌, ◌*◌, ◌≤◌, not, List, [], ◌∷◌, length, filter, arith}
use Rattle.std.specs.Prelude.{◌==◌}
use Rattle.std.specs.List.{flat_map, range_with_len, sum_by}
use Rattle.std.proofs.lemmas.List.{length-append}
use Rattle.std.proofs.lemmas.List.FromFn.{length-range_with_len}
use Rattle.std.proofs.lemmas.List.Sums.{sum_by-cons, sum_by-le-sum_by}
use Rattle.obs_case.specs.Tables.{IsValid, Tables}
use Rattle.obs_matroid.specs.Assignments.{Pair as NumberPair}
use Rattle.obs_network.specs.Network.{case_branches, case_component_count, case_meters, case_vertex_count}
use Rattle.obs_network.specs.Observable.{branch_component, case_live_meters, item_component}
use Rattle.obs_network.proofs.Parted.{parts_few}
use Rattle.obs_network.proofs.OfCase.{case_branches-are, case_bus_count-le, case_component_count-le, length-case_meters, meters_in_limit, nodes_in_limit}
use Rattle.obs_report.specs.Items.{inside_line, pair_line}
use Rattle.obs_report.specs.Meters.{bound_line, bound_text, component_name}
use Rattle.obs_report.specs.Trees.{pair_lines, tree_line, tree_text}
use Rattle.obs_repair.specs.Bounds.{bound_meters, bound_outside, bound_rank, component_meters, is_critical_meter}
use Rattle.obs_edit.specs.Answers.{case_first_pairs}
use Rattle.obs_edit.specs.Laws.{tree_pairs}
use Rattle.obs_claimed.specs.inner.Laws.{TreesAndBoundsFit}
use Rattle.obs_claimed.proofs.LineLengths.{bound_line-length, each_length, inside_length, pair_length, tree_line-length}
use Rattle.obs_claimed.proofs.PlanLengths.{first_pairs_few}
use Rattle.obs_claimed.proofs.Small.{bound_outside_small, bound_rank_small, filter_few, live_few}

module _ (t : Tables) (v : IsValid t) where
  -- the components part the pairs of the first assignment
  trees_few : (n : ℕ) → sum_by (λ c. length (tree_pairs t c)) (range_with_len 0 n) ≤ t.most
  unfolding case_first_pairs
  trees_few n =
      let parts = parts_few (λ (p : NumberPair). branch_component t p.1) (case_first_pairs t) n in
      let few = first_pairs_few (case_vertex_count t) (case_branches t) (case_meters t) (case_branches-are t v) in
      omega (arith, parts, few, length-case_meters t, meters_in_limit t v)

  -- and the live meters
  listed_own : (c : ℕ) → length (bound_meters t c) ≤ length (filter (λ m. item_component t (case_meters t) m == c) (case_live_meters t))
  unfolding bound_meters component_meters
  listed_own c = filter_few (λ m. not (is_critical_meter t m)) (component_meters t c)

  bounds_few : (n : ℕ) → sum_by (λ c. length (bound_meters t c)) (range_with_len 0 n) ≤ t.most
  bounds_few n =
      let own = sum_by-le-sum_by (λ c. length (bound_meters t c)) (λ c. length (filter (λ m. item_component t (case_meters t) m == c) (case_live_meters t))) (range_with_len 0 n) listed_own in
      let parts = parts_few (λ m. item_component t (case_meters t) m) (case_live_meters t) n in
      let live = live_few (case_branches t) (case_meters t) in
      omega (arith, own, parts, live, length-case_meters t, meters_in_limit t v)

  -- the tree and the bound of a component
  abbrev both : ℕ → ℕ
  both c = length (tree_text t c (case_first_pairs t)) + length (bound_text t c (bound_meters t c) (bound_rank t c) (bound_outside t c))

  both_length : (c : ℕ) → both c ≤ 183 + (length (tree_pairs t c) * 145 + length (bound_meters t c) * 82)
  both_length c =
      let name = component_name t c in
      let tree = tree_line-length t v c in
      let pairs = each_length (pair_line t) 145 (tree_pairs t c) (pair_length t v) in
      let whole_tree = length-append (tree_line name) (pair_lines t c (case_first_pairs t)) in
      let bound = bound_line-length t v c (bound_rank t c) (bound_outside t c) (bound_rank_small t c v) (bound_outside_small t c v) in
      let listed = each_length (inside_line t) 82 (bound_meters t c) (inside_length t v) in
      let whole_bound = length-append (bound_line name (bound_rank t c) (bound_outside t c)) (flat_map (inside_line t) (bound_meters t c)) in
      omega (arith, tree, pairs, whole_tree, bound, listed, whole_bound)

  -- those of several
  all_length : (cs : List ℕ) → sum_by both cs ≤ length cs * 183 + (sum_by (λ c. length (tree_pairs t c)) cs * 145 + sum_by (λ c. length (bound_meters t c)) cs * 82)
  all_length [] = omega arith
  all_length (c ∷ cs) =
      let here = both_length c in
      let rest = all_length cs in
      let all = sum_by-cons both c cs in
      let trees = sum_by-cons (λ k. length (tree_pairs t k)) c cs in
      let bounds = sum_by-cons (λ k. length (bound_meters t k)) c cs in
      omega (arith, here, rest, all, trees, bounds)

pub trees_and_bounds_fit : TreesAndBoundsFit
trees_and_bounds_fit t v =
    let n = case_component_count t in
    let all = all_length t v (range_with_len 0 n) in
    let count = length-range_with_len 0 n in
    let trees = trees_few t v n in
    let bounds = bounds_few t v n in
    omega (arith, all, count, trees, bounds, case_component_count-le t, case_bus_count-le t, nodes_in_limit t v)
