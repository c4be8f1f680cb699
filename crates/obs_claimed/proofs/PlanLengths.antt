-- How long the text of a placement is at the most.
use Rattle.std.proofs.Common.{◌≡◌, ℕ, zero, suc, ◌+◌, ◌*◌, ◌-◌, ◌<◌, ◌≤◌, Bool, true, false, cond, List, [], ◌∷◌, ◌++◌, length, map, take, drop, get_or, filter, Option, refl, sym, subst, inl, inr, arith}
use Rattle.std.specs.Prelude.{◌==◌, nat_lt}
use Rattle.std.specs.List.{flat_map, range_with_len}
use Rattle.std.proofs.lemmas.Bool.{cases_Bool, eqb-true, ltb-true}
use Rattle.std.proofs.lemmas.List.{length-append, length-map}
use Rattle.std.proofs.lemmas.List.FromFn.{length-range_with_len}
use Rattle.obs_graph.specs.declared.Ends.{Ends}
use Rattle.obs_graph.specs.Positions.{AreBranches}
use Rattle.obs_graph.proofs.Counts.{count_below-le-n}
use Rattle.obs_case.specs.Tables.{IsValid, Tables, prices_of}
use Rattle.obs_case.specs.declared.rows.Candidate.{Candidate}
use Rattle.obs_matroid.specs.Assignments.{Pair as NumberPair, items}
use Rattle.obs_matroid.specs.Lists.{In}
use Rattle.obs_matroid.proofs.Lists.{In-filter_from, In-map_from, IsDistinct-filter, length-within}
use Rattle.obs_matroid.proofs.Ranges.{range_distinct}
use Rattle.obs_meter.specs.declared.Touch.{Touch}
use Rattle.obs_meter.specs.Assignments.{rho_at}
use Rattle.obs_meter.specs.Touches.{every_item, live_items}
use Rattle.obs_meter.proofs.Live.{In-every}
use Rattle.obs_exchange.specs.Laws.{noncritical_in}
use Rattle.obs_first.specs.First.{first_pairs}
use Rattle.obs_first.proofs.Lawful.{first_pairs-is}
use Rattle.obs_placement.specs.declared.plans.Layer.{Layer as PlacedLayer}
use Rattle.obs_placement.specs.Answer.{chosen_of, cost_of}
use Rattle.obs_placement.specs.Layers.{is_price_of, layer_of, prices_above}
use Rattle.obs_placement.specs.Placed.{ShortfallValue, Placed, PlanValue, shortfall_of, plan_of}
use Rattle.obs_placement.specs.Placed.Placed.{cheapest, shortfall as short_of}
use Rattle.obs_placement.proofs.Growing.{prices_rising}
use Rattle.obs_network.specs.Network.{case_branches, case_needed, case_offered, case_vertex_count}
use Rattle.obs_network.specs.Switched.{case_bus_count}
use Rattle.obs_network.proofs.NeededCount.{adds_one, needed_by_buses}
use Rattle.obs_network.proofs.OfCase.{candidates_in_limit, case_branches-are, case_bus_count-le, nodes_in_limit}
use Rattle.obs_meter.specs.Costs.{price_of}
use Rattle.obs_report.specs.Items.{inside_line, pair_line}
use Rattle.obs_report.specs.Lines.{last_line}
use Rattle.obs_report.specs.Placements.{chosen_line, cost_line, layer_line, layers_text, listed_between, placement_text, shortfall_line}
use Rattle.obs_edit.specs.Planned.{case_placed_pairs, case_placement, listed_touches, pairs_in, planned_items}
use Rattle.obs_edit.proofs.Planned.{length-touches_of}
use Rattle.obs_claimed.specs.inner.Laws.{PlacementsFit}
use Rattle.obs_claimed.proofs.LayerClaims.{inside_distinct}
use Rattle.obs_claimed.proofs.Layered.{added, inside_from, inside_low, layers_from}
use Rattle.obs_claimed.proofs.LineLengths.{chosen_length, cost_length, each_length, inside_length, layer_length, pair_length, shortfall_length}
use Rattle.obs_claimed.proofs.Small.{IsSmallLayer, chosen_few, cost_small, filter_few, lack_outside_small, lack_rank_small, live_few, offered_in_limit, plan_layers_small}

-- a first assignment has no more pairs than items
pub first_pairs_few : (n : ℕ) (ends : List (Option Ends)) (touches : List Touch) → AreBranches n ends → length (first_pairs n ends touches) ≤ length touches
first_pairs_few n ends touches ok =
    let A = first_pairs n ends touches in
    let assigns = (first_pairs-is n ends touches ok).assigns in
    let within = length-within (items A) (every_item touches) assigns.different (λ m i.
    let p = In-map_from (λ (q : NumberPair). q.0) m A i in
    subst (λ (k : ℕ). In k (every_item touches)) (sym p.2) (assigns.of_items p.0 p.1)) in
    let pairs = length-map A (λ (q : NumberPair). q.0) in
    let all = length-range_with_len 0 (length touches) in
    omega (arith, within, pairs, all)

pairs_in_few : (n : ℕ) (ends : List (Option Ends)) (touches : List Touch) → AreBranches n ends → (placed : Placed) → length (pairs_in n ends touches placed) ≤ length touches
pairs_in_few n ends touches ok (cheapest plan) = first_pairs_few n ends touches ok
pairs_in_few n ends touches ok (short_of lack) = omega arith

-- no list of prices is longer than the list of those that they are the prices of
priced_in : (prices ks : List ℕ) (price : ℕ) → is_price_of prices ks price ≡ true → In price (map (λ k. get_or prices k 0) ks)
priced_in prices [] price is = absurd cc
priced_in prices (k ∷ ks) price is = elim (cases_Bool (get_or prices k 0 == price)) [
  | inl e ↦ inl (sym (eqb-true (get_or prices k 0) price e))
  | inr e ↦ inr (priced_in prices ks price (rw e at is))
]

prices_few : (prices ks : List ℕ) → length (prices_above prices ks 0) ≤ length ks
prices_few prices ks =
    let test : ℕ → Bool = is_price_of prices ks in
    let all = range_with_len 1 (cost_of prices ks - 0) in
    let within = length-within (filter test all) (map (λ k. get_or prices k 0) ks) (IsDistinct-filter test all (range_distinct 1 (cost_of prices ks - 0)))
    (λ price i. priced_in prices ks price (In-filter_from test price all i).1) in
    let many = length-map ks (λ k. get_or prices k 0) in
    omega (arith, within, many)

-- a part of a list has no more elements than were asked for
take_few : {X : Type 0} (k : ℕ) (xs : List X) → length (take k xs) ≤ k
take_few zero xs = omega arith
take_few (suc k) [] = omega arith
take_few (suc k) (x ∷ xs) = let rest = take_few k xs in omega (arith, rest)

module _ (t : Tables) (v : IsValid t) where
  -- what is listed from one place up to another
  listed_length : (inside : List ℕ) (from to : ℕ) → length (listed_between t inside from to) ≤ (to - from) * 82
  listed_length inside from to =
      let part = take (to - from) (drop from inside) in
      let lines = each_length (inside_line t) 82 part (inside_length t v) in
      let few = take_few (to - from) (drop from inside) in
      omega (arith, lines, few)

  abbrev layer_from : ℕ → ℕ → ℕ → PlacedLayer
  layer_from f to u = layer_of (case_vertex_count t) (case_branches t) (case_offered t) (price_of (length t.meters) (prices_of t.candidates)) f to u

  -- layers, which list behind u items those from u on
  layers_length : (inside : List ℕ) (f u : ℕ) (ts : List ℕ) → ((l : PlacedLayer) → In l (layers_from t f u ts) → IsSmallLayer l)
      → length (layers_text t inside u (layers_from t f u ts)) ≤ length ts * 90 + length (inside_from t f ts) * 82
  layers_length inside f u [] small = omega arith
  layers_length inside f u (to ∷ ts) small =
      let upto = u + length (added t f to) in
      let l = layer_from f to u in
      let line = layer_length l (small l (inl refl)) in
      let listed = listed_length inside u upto in
      let rest = layers_length inside to upto ts (λ k i. small k (inr i)) in
      let first = length-append (layer_line l) (listed_between t inside u upto) in
      let both = length-append (layer_line l ++ listed_between t inside u upto) (layers_text t inside upto (layers_from t to upto ts)) in
      let all = length-append (added t f to) (inside_from t to ts) in
      omega (arith, line, listed, rest, first, both, all)

  abbrev prices : List ℕ
  prices = prices_of t.candidates

  abbrev chosen : List ℕ
  chosen = chosen_of (case_vertex_count t) (case_branches t) (case_offered t) (length t.meters) prices

  abbrev plan : PlanValue
  plan = plan_of (case_vertex_count t) (case_branches t) (case_offered t) (length t.meters) prices

  abbrev lack : ShortfallValue
  lack = shortfall_of (case_vertex_count t) (case_branches t) (case_offered t) (case_needed t)

  -- the listed items are different ones
  inside_few : length plan.inside ≤ 2 * t.most
  inside_few =
      let ts = prices_above prices chosen 0 in
      let within = length-within plan.inside (every_item (case_offered t)) (inside_distinct t v 0 ts (prices_rising prices chosen 0))
      (λ m i. In-every (case_offered t) m (inside_low t 0 ts m i)) in
      let all = length-range_with_len 0 (length (case_offered t)) in
      omega (arith, within, all, offered_in_limit t v)

  pairs_few : length (case_placed_pairs t) ≤ 2 * t.most
  pairs_few =
      let touches = listed_touches (case_offered t) (planned_items (length t.meters) chosen) in
      let few = pairs_in_few (case_vertex_count t) (case_branches t) touches (case_branches-are t v) (case_placement t) in
      let same = length-touches_of (case_offered t) (planned_items (length t.meters) chosen) in
      omega (arith, few, same, offered_in_limit t v)

  plan_length : (pairs : List NumberPair) → length pairs ≤ 2 * t.most → length (placement_text t (cheapest plan) pairs) + length last_line ≤ 616 * t.most + 30
  plan_length pairs paired =
      let ts = prices_above prices chosen 0 in
      let cost = cost_length plan.cost (cost_small t v) in
      let of_chosen = each_length (chosen_line t) 72 chosen (chosen_length t v) in
      let of_pairs = each_length (pair_line t) 145 pairs (pair_length t v) in
      let of_layers = layers_length plan.inside 0 0 ts (plan_layers_small t v) in
      let first = length-append (cost_line plan.cost) (flat_map (chosen_line t) chosen) in
      let second = length-append (cost_line plan.cost ++ flat_map (chosen_line t) chosen) (flat_map (pair_line t) pairs) in
      let all = length-append ((cost_line plan.cost ++ flat_map (chosen_line t) chosen) ++ flat_map (pair_line t) pairs) (layers_text t plan.inside 0 plan.layers) in
      let few = chosen_few (case_vertex_count t) (case_branches t) (case_offered t) (length t.meters) prices in
      let offered = candidates_in_limit t v in
      let priced = length-map t.candidates (λ (row : Candidate). row.price) in
      let layers = prices_few prices chosen in
      let inside = inside_few in
      omega (arith, cost, of_chosen, of_pairs, of_layers, first, second, all, few, offered, priced, layers, inside, paired)

  -- where pairs are needed there is a row
  needed_few : case_needed t ≤ t.most
  needed_few = omega (arith, needed_by_buses t, count_below-le-n (adds_one t) (case_bus_count t), case_bus_count-le t, nodes_in_limit t v)

  lack_length : 0 < t.most → (pairs : List NumberPair) → length (placement_text t (short_of lack) pairs) + length last_line ≤ 616 * t.most + 30
  lack_length some pairs =
      let live = live_items (case_branches t) (case_offered t) in
      let line = shortfall_length lack.rank lack.outside (lack_rank_small t v (case_needed t)) (lack_outside_small t v (case_needed t)) in
      let listed = each_length (inside_line t) 82 lack.inside (inside_length t v) in
      let all = length-append (shortfall_line lack.rank lack.outside) (flat_map (inside_line t) lack.inside) in
      let few = filter_few (noncritical_in (case_vertex_count t) (case_branches t) (case_offered t) live) live in
      let items = live_few (case_branches t) (case_offered t) in
      let offered = offered_in_limit t v in
      omega (arith, some, line, listed, all, few, items, offered)

  -- either is short, with pairs that are at hand
  either_length : (short : Bool) → (short ≡ true → 0 < t.most) → (pairs : List NumberPair) → length pairs ≤ 2 * t.most
      → length (placement_text t (cond short (short_of lack) (cheapest plan)) pairs) + length last_line ≤ 616 * t.most + 30
  either_length true some pairs paired = lack_length (some refl) pairs
  either_length false some pairs paired = plan_length pairs paired

pub placements_fit : PlacementsFit
placements_fit t v =
    let rank = rho_at (case_vertex_count t) (case_branches t) (case_offered t) (live_items (case_branches t) (case_offered t)) in
    either_length t v (nat_lt rank (case_needed t)) (λ short. omega (arith, ltb-true rank (case_needed t) short, needed_few t v)) (case_placed_pairs t) (pairs_few t v)
