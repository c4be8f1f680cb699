-- Printed trees, bounds and placements are the lines of their claims.
use Rattle.std.proofs.Common.{ℕ, zero, suc, ◌-◌, ◌<◌, Bool, true, false, cond, List, [], ◌∷◌, ◌++◌, length, map, take, drop, refl, subst, inl, inr, append_assoc}
use Rattle.std.specs.Prelude.{◌==◌, nat_lt}
use Rattle.std.specs.List.{flat_map}
use Rattle.obs_case.specs.Tables.{IsValid, Tables, prices_of}
use Rattle.obs_matroid.specs.Assignments.{Pair as NumberPair}
use Rattle.obs_matroid.specs.Lists.{In}
use Rattle.obs_matroid.proofs.Lists.{In-filter_from}
use Rattle.obs_meter.specs.Assignments.{rho_at}
use Rattle.obs_meter.specs.Touches.{live_items}
use Rattle.obs_placement.specs.declared.plans.Layer.{Layer as PlacedLayer}
use Rattle.obs_placement.specs.Placed.{ShortfallValue, PlanValue, shortfall_of, plan_of}
use Rattle.obs_placement.specs.Placed.Placed.{cheapest, shortfall as short_of}
use Rattle.obs_network.specs.Network.{case_branches, case_item_count, case_needed, case_offered, case_vertex_count}
use Rattle.obs_cert.specs.inner.Certificate.{claim_lines, joined, layer_lines}
use Rattle.obs_cert.specs.Words.{bound_line, chosen_line, cost_line, inside_line, layer_line, pair_line, shortfall_line, tree_line}
use Rattle.obs_report.specs.Items.{candidate_name, inside_line as inside_text, pair_line as pair_text}
use Rattle.obs_report.specs.Meters.{component_name, bound_line as bound_text}
use Rattle.obs_report.specs.Placements.{layers_text, listed_between, placement_text, chosen_line as chosen_text, cost_line as cost_text, layer_line as layer_text, shortfall_line as shortfall_text}
use Rattle.obs_report.specs.Trees.{tree_line as tree_text}
use Rattle.obs_repair.specs.Bounds.{bound_meters, bound_outside, bound_rank}
use Rattle.obs_edit.specs.Answers.{case_first_pairs}
use Rattle.obs_edit.specs.Laws.{tree_pairs}
use Rattle.obs_edit.specs.Planned.{case_placed_pairs}
use Rattle.obs_network.specs.Observable.{branch_component}
use Rattle.obs_claimed.specs.Claimed.{component_bound, component_tree, named_item, named_items, named_layers, named_pair, placement_claim}
use Rattle.obs_claimed.specs.inner.Laws.{AreLines, BoundsAreLines, PlacementsAreLines, TreesAreLines}
use Rattle.obs_claimed.proofs.Lines.{each_line, lines_then, no_lines}
use Rattle.obs_claimed.proofs.NamedLemmas.{AreWithin}
use Rattle.obs_claimed.proofs.Small.{IsSmallLayer, bound_outside_small, bound_rank_small, cost_small, lack_outside_small, lack_rank_small, plan_layers_small}
use Rattle.obs_claimed.proofs.Within.{bound_meters_low, candidate_named, case_pairs_within, component_has_name, item_has_name, lack_inside_low, placed_pairs_within, plan_chosen_low, plan_inside_low, word_named}
use Rattle.obs_claimed.proofs.Words.{IsSmall, bound_back, chosen_back, cost_back, inside_back, layer_back, pair_back, shortfall_back, tree_back}

-- what stands in a part of a list stands in the list
In-take_from : (n : ℕ) (xs : List ℕ) (x : ℕ) → In x (take n xs) → In x xs
In-take_from zero xs x i = absurd i
In-take_from (suc n) [] x i = i
In-take_from (suc n) (y ∷ xs) x (inl e) = inl e
In-take_from (suc n) (y ∷ xs) x (inr i) = inr (In-take_from n xs x i)

In-drop_from : (n : ℕ) (xs : List ℕ) (x : ℕ) → In x (drop n xs) → In x xs
In-drop_from zero xs x i = i
In-drop_from (suc n) [] x i = i
In-drop_from (suc n) (y ∷ xs) x i = inr (In-drop_from n xs x i)

module _ (t : Tables) (v : IsValid t) where
  -- listed items
  inside_lines : (list : List ℕ) → ((m : ℕ) → In m list → m < case_item_count t) → AreLines (flat_map (inside_text t) list) (map inside_line (named_items t list))
  inside_lines list low = each_line (inside_text t) (named_item t) inside_line list (λ m i. inside_back t m (item_has_name t v m (low m i)))

  -- pairs
  pairs_lines : (pairs : List NumberPair) → AreWithin t pairs → AreLines (flat_map (pair_text t) pairs) (map pair_line (map (named_pair t) pairs))
  pairs_lines pairs within = each_line (pair_text t) (named_pair t) pair_line pairs
      (λ p i. let low = within p i in pair_back t p (item_has_name t v p.0 low.0) (word_named t v p.0 p.1 low.1))

  -- chosen candidates
  chosen_lines : (list : List ℕ) → ((k : ℕ) → In k list → k < length t.candidates) → AreLines (flat_map (chosen_text t) list) (map chosen_line (map (candidate_name t) list))
  chosen_lines list low = each_line (chosen_text t) (candidate_name t) chosen_line list (λ k i. chosen_back t k (candidate_named t v k (low k i)))

  -- layers with the items that they add
  layers_lines : (inside : List ℕ) → ((m : ℕ) → In m inside → m < case_item_count t) → (u : ℕ) (layers : List PlacedLayer) → ((l : PlacedLayer) → In l layers → IsSmallLayer l)
      → AreLines (layers_text t inside u layers) (joined (map layer_lines (named_layers t inside u layers)))
  layers_lines inside low u [] small = no_lines
  layers_lines inside low u (l ∷ layers) small =
      let here = small l (inl refl) in
      let added = take (l.upto - u) (drop u inside) in
      lines_then (layer_text l ++ listed_between t inside u l.upto) (layers_text t inside l.upto layers)
      (layer_line l.from l.to l.rank l.outside ∷ map inside_line (named_items t added)) (joined (map layer_lines (named_layers t inside l.upto layers)))
      (lines_then (layer_text l) (listed_between t inside u l.upto) (layer_line l.from l.to l.rank l.outside ∷ []) (map inside_line (named_items t added))
      (layer_back l here.from here.to here.rank here.outside)
      (inside_lines added (λ m i. low m (In-drop_from u inside m (In-take_from (l.upto - u) (drop u inside) m i)))))
      (layers_lines inside low l.upto layers (λ k i. small k (inr i)))

  -- a plan
  plan_lines : (p : PlanValue) (pairs : List NumberPair) → IsSmall p.cost → ((k : ℕ) → In k p.chosen → k < length t.candidates) → AreWithin t pairs
      → ((m : ℕ) → In m p.inside → m < case_item_count t) → ((l : PlacedLayer) → In l p.layers → IsSmallLayer l)
      → AreLines (placement_text t (cheapest p) pairs) (claim_lines (placement_claim t (cheapest p) pairs))
  plan_lines p pairs small chosen within inside layers =
      let of_chosen = map chosen_line (map (candidate_name t) p.chosen) in
      let of_pairs = map pair_line (map (named_pair t) pairs) in
      let of_layers = joined (map layer_lines (named_layers t p.inside 0 p.layers)) in
      let first = lines_then (cost_text p.cost) (flat_map (chosen_text t) p.chosen) (cost_line p.cost ∷ []) of_chosen (cost_back p.cost small) (chosen_lines p.chosen chosen) in
      let second = lines_then (cost_text p.cost ++ flat_map (chosen_text t) p.chosen) (flat_map (pair_text t) pairs) (cost_line p.cost ∷ of_chosen) of_pairs first (pairs_lines pairs within) in
      let whole = lines_then ((cost_text p.cost ++ flat_map (chosen_text t) p.chosen) ++ flat_map (pair_text t) pairs) (layers_text t p.inside 0 p.layers)
      ((cost_line p.cost ∷ of_chosen) ++ of_pairs) of_layers second (layers_lines p.inside inside 0 p.layers layers) in
      subst (AreLines (placement_text t (cheapest p) pairs)) (append_assoc (cost_line p.cost ∷ of_chosen) of_pairs of_layers) whole

  -- a shortfall
  lack_lines : (b : ShortfallValue) (pairs : List NumberPair) → IsSmall b.rank → IsSmall b.outside → ((m : ℕ) → In m b.inside → m < case_item_count t)
      → AreLines (placement_text t (short_of b) pairs) (claim_lines (placement_claim t (short_of b) pairs))
  lack_lines b pairs rank outside inside =
      lines_then (shortfall_text b.rank b.outside) (flat_map (inside_text t) b.inside) (shortfall_line b.rank b.outside ∷ []) (map inside_line (named_items t b.inside))
      (shortfall_back b.rank b.outside rank outside) (inside_lines b.inside inside)

-- a printed tree
pub trees_are_lines : TreesAreLines
unfolding component_tree
trees_are_lines t c v l =
    let name = component_name t c in
    let pairs = tree_pairs t c in
    lines_then (tree_text name) (flat_map (pair_text t) pairs) (tree_line name ∷ []) (map pair_line (map (named_pair t) pairs))
    (tree_back name (component_has_name t v c l))
    (pairs_lines t v pairs (λ p i. case_pairs_within t v p (In-filter_from (λ (q : NumberPair). branch_component t q.1 == c) p (case_first_pairs t) i).0))

-- a printed bound
pub bounds_are_lines : BoundsAreLines
unfolding component_bound
bounds_are_lines t c v l =
    let name = component_name t c in
    let inside = bound_meters t c in
    lines_then (bound_text name (bound_rank t c) (bound_outside t c)) (flat_map (inside_text t) inside) (bound_line name (bound_rank t c) (bound_outside t c) ∷ []) (map inside_line (named_items t inside))
    (bound_back name (bound_rank t c) (bound_outside t c) (component_has_name t v c l) (bound_rank_small t c v) (bound_outside_small t c v))
    (inside_lines t v inside (bound_meters_low t c))

-- a placement by cases, with pairs that are at hand
placed_by : (t : Tables) (pairs : List NumberPair) (short : Bool) (lack : ShortfallValue) (plan : PlanValue)
    → AreLines (placement_text t (short_of lack) pairs) (claim_lines (placement_claim t (short_of lack) pairs))
    → AreLines (placement_text t (cheapest plan) pairs) (claim_lines (placement_claim t (cheapest plan) pairs))
    → AreLines (placement_text t (cond short (short_of lack) (cheapest plan)) pairs) (claim_lines (placement_claim t (cond short (short_of lack) (cheapest plan)) pairs))
placed_by t pairs true lack plan of_lack of_plan = of_lack
placed_by t pairs false lack plan of_lack of_plan = of_plan

-- a printed placement
pub placements_are_lines : PlacementsAreLines
placements_are_lines t v =
    let n = case_vertex_count t in
    let ends = case_branches t in
    let touches = case_offered t in
    let pairs = case_placed_pairs t in
    let plan = plan_of n ends touches (length t.meters) (prices_of t.candidates) in
    let lack = shortfall_of n ends touches (case_needed t) in
    placed_by t pairs (nat_lt (rho_at n ends touches (live_items ends touches)) (case_needed t)) lack plan
    (lack_lines t v lack pairs (lack_rank_small t v (case_needed t)) (lack_outside_small t v (case_needed t)) (lack_inside_low t (case_needed t)))
    (plan_lines t v plan pairs (cost_small t v) (plan_chosen_low t) (placed_pairs_within t v) (plan_inside_low t) (plan_layers_small t v))
