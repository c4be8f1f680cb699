-- The numbers of bounds and placements of a valid case are small: they are read back from their decimal texts.
use Rattle.std.proofs.Common.{ℕ, ◌+◌, ◌-◌, ◌*◌, ◌≤◌, All, Bool, not, Option, List, [], ◌∷◌, length, filter, get_or, refl, inl, inr, arith}
use Rattle.std.specs.List.{flat_map, range_with_len}
use Rattle.std.proofs.lemmas.Bool.{cases_lt}
use Rattle.std.proofs.lemmas.List.{get_or_past}
use Rattle.std.proofs.lemmas.List.FromFn.{length-range_with_len}
use Rattle.std.proofs.lemmas.List.Sums.{sum_by-le}
use Rattle.obs_graph.specs.declared.Ends.{Ends}
use Rattle.obs_graph.specs.Positions.{ends_of}
use Rattle.obs_graph.proofs.Ranks.{rank-le-n}
use Rattle.obs_case.specs.Tables.{IsValid, Tables, most_rows, prices_of}
use Rattle.obs_matroid.specs.Lists.{In}
use Rattle.obs_matroid.proofs.Lists.{length-split}
use Rattle.obs_meter.specs.declared.Touch.{Touch}
use Rattle.obs_meter.specs.Spanned.{rank_at}
use Rattle.obs_meter.specs.Touches.{every_item, is_live, live_items, touch_at}
use Rattle.obs_exchange.specs.Laws.{noncritical_in}
use Rattle.obs_rankcut.specs.Bounds.{in_scope}
use Rattle.obs_meter.specs.Costs.{price_of}
use Rattle.obs_placement.specs.declared.plans.Layer.{Layer}
use Rattle.obs_placement.specs.Answer.{chosen_of, cost_of, is_chosen}
use Rattle.obs_placement.specs.Layers.{added_items, is_price_of, layers_of, prices_above}
use Rattle.obs_placement.specs.inner.Limits.{most_price}
use Rattle.obs_placement.specs.Placed.{shortfall_of, plan_of}
use Rattle.obs_placement.specs.Taking.{is_below, is_listed_at}
use Rattle.obs_network.specs.Network.{case_branches, case_meters, case_offered, case_vertex_count}
use Rattle.obs_network.specs.Observable.{case_live_meters}
use Rattle.obs_network.proofs.Marked.{filtered_below}
use Rattle.obs_network.proofs.OfCase.{candidates_in_limit, case_vertex_count-le, few_meters, few_nodes, length-case_meters, length-case_offered, meters_in_limit}
use Rattle.obs_repair.specs.Bounds.{bound_meters, bound_outside, bound_rank, component_meters, is_critical_meter, is_meter_of}
use Rattle.obs_edit.proofs.Priced.{cheap_prices, few_prices}
use Rattle.obs_claimed.proofs.Words.{IsSmall}

-- what passes a test is no longer than the list
pub filter_few : {X : Type 0} (p : X → Bool) (xs : List X) → length (filter p xs) ≤ length xs
filter_few p xs = omega (arith, length-split p xs)

-- a rank is no higher than the number of vertices
rank_few : (n : ℕ) (ends : List (Option Ends)) (positions : List ℕ) → rank_at n ends positions ≤ n
rank_few n ends positions = rank-le-n n (ends_of ends positions)

pub live_few : (ends : List (Option Ends)) (touches : List Touch) → length (live_items ends touches) ≤ length touches
live_few ends touches = omega (arith, filter_few (is_live ends touches) (every_item touches), length-range_with_len 0 (length touches))

-- there are at most two vertices for each node
few_vertices : (t : Tables) → IsValid t → case_vertex_count t ≤ 2 * most_rows
few_vertices t v = omega (arith, case_vertex_count-le t, few_nodes t v)

-- and at most two offered items for each row that a table may have
pub offered_in_limit : (t : Tables) → IsValid t → length (case_offered t) ≤ 2 * t.most
offered_in_limit t v = omega (arith, length-case_offered t, meters_in_limit t v, candidates_in_limit t v)

few_offered : (t : Tables) → IsValid t → length (case_offered t) ≤ 2 * most_rows
few_offered t v = let limit = v.limit in omega (arith, offered_in_limit t v, limit)

-- the numbers of a bound
pub bound_rank_small : (t : Tables) (c : ℕ) → IsValid t → IsSmall (bound_rank t c)
unfolding bound_rank
bound_rank_small t c v =
    let few = rank_few (case_vertex_count t) (case_branches t) (flat_map (touch_at (case_branches t) (case_meters t)) (bound_meters t c)) in
    omega (arith, few, few_vertices t v)

pub bound_outside_small : (t : Tables) (c : ℕ) → IsValid t → IsSmall (bound_outside t c)
unfolding bound_outside component_meters
bound_outside_small t c v =
    let critical = filter_few (is_critical_meter t) (component_meters t c) in
    let own = filter_few (is_meter_of t c) (case_live_meters t) in
    omega (arith, critical, own, live_few (case_branches t) (case_meters t), length-case_meters t, few_meters t v)

-- what candidates cost together, where none is dearer than a price may be
cost_most : (prices ks : List ℕ) → All (λ p. p ≤ most_price) prices → cost_of prices ks ≤ length ks * most_price
cost_most prices ks cheap = sum_by-le (λ k. get_or prices k 0) most_price ks (λ i d l. price_at (get_or ks i d))
  where
    price_at : (k : ℕ) → get_or prices k 0 ≤ most_price
    price_at k = elim (cases_lt k (length prices)) [
      | inl low ↦ cheap k 0 low
      | inr past ↦ omega (arith, get_or_past prices k 0 past)
    ]

pub chosen_few : (n : ℕ) (ends : List (Option Ends)) (touches : List Touch) (meters : ℕ) (prices : List ℕ) → length (chosen_of n ends touches meters prices) ≤ length prices
chosen_few n ends touches meters prices =
    omega (arith, filter_few (λ k. is_chosen n ends touches (price_of meters prices) (meters + k)) (range_with_len 0 (length prices)), length-range_with_len 0 (length prices))

-- the numbers of a layer
pub record IsSmallLayer (l : Layer) : Type 0 where
  pub from : IsSmall l.from
  pub to : IsSmall l.to
  pub rank : IsSmall l.rank
  pub outside : IsSmall l.outside

-- those of all layers, where few vertices and items are given
module _ (n : ℕ) (ends : List (Option Ends)) (touches : List Touch) (price : ℕ → ℕ) (vertices : IsSmall n) (items : IsSmall (length touches)) where
  own_outside_few : (t : ℕ) → length (filter (λ m. not (is_listed_at n ends touches price t m)) (in_scope ends touches (is_below price t))) ≤ length touches
  own_outside_few t =
      let outer = filter_few (λ m. not (is_listed_at n ends touches price t m)) (in_scope ends touches (is_below price t)) in
      let scope = filter_few (is_below price t) (live_items ends touches) in
      omega (arith, outer, scope, live_few ends touches)

  pub layers_small : (f u : ℕ) (ts : List ℕ) → IsSmall f → ((x : ℕ) → In x ts → IsSmall x) → (l : Layer) → In l (layers_of n ends touches price f u ts) → IsSmallLayer l
  layers_small f u [] low each l i = absurd i
  layers_small f u (t ∷ ts) low each l (inl e) = rw e (record {
    from = low;
    to = each t (inl refl);
    rank = let few = rank_few n ends (flat_map (touch_at ends touches) (filter (is_listed_at n ends touches price t) (in_scope ends touches (is_below price t)))) in omega (arith, few, vertices);
    outside = omega (arith, own_outside_few t, items);
  })
  layers_small f u (t ∷ ts) low each l (inr i) =
      layers_small t (u + length (added_items n ends touches price f t)) ts (each t (inl refl)) (λ x j. each x (inr j)) l i

-- the numbers of a plan
module _ (t : Tables) (v : IsValid t) where
  abbrev prices : List ℕ
  prices = prices_of t.candidates

  abbrev chosen : List ℕ
  chosen = chosen_of (case_vertex_count t) (case_branches t) (case_offered t) (length t.meters) prices

  cost_few : cost_of prices chosen ≤ most_rows * most_price
  cost_few =
      let many = chosen_few (case_vertex_count t) (case_branches t) (case_offered t) (length t.meters) prices in
      omega (arith, cost_most prices chosen (cheap_prices t prices v refl), many, few_prices t prices v refl)

  pub cost_small : IsSmall (cost_of prices chosen)
  cost_small = omega (arith, cost_few)

  pub plan_layers_small : (l : Layer) → In l (plan_of (case_vertex_count t) (case_branches t) (case_offered t) (length t.meters) prices).layers → IsSmallLayer l
  plan_layers_small =
      layers_small (case_vertex_count t) (case_branches t) (case_offered t) (price_of (length t.meters) prices) (omega (arith, few_vertices t v)) (omega (arith, few_offered t v)) 0 0
      (prices_above prices chosen 0) (omega arith)
      (λ x i. let low = filtered_below (is_price_of prices chosen) 1 (cost_of prices chosen - 0) x i in omega (arith, low, cost_few))

  -- and those of a shortfall
  pub lack_rank_small : (needed : ℕ) → IsSmall (shortfall_of (case_vertex_count t) (case_branches t) (case_offered t) needed).rank
  lack_rank_small needed =
      let few = rank_few (case_vertex_count t) (case_branches t) (flat_map (touch_at (case_branches t) (case_offered t)) (shortfall_of (case_vertex_count t) (case_branches t) (case_offered t) needed).inside) in
      omega (arith, few, few_vertices t v)

  pub lack_outside_small : (needed : ℕ) → IsSmall (shortfall_of (case_vertex_count t) (case_branches t) (case_offered t) needed).outside
  lack_outside_small needed =
      let live = live_items (case_branches t) (case_offered t) in
      let few = filter_few (λ m. not (noncritical_in (case_vertex_count t) (case_branches t) (case_offered t) live m)) live in
      omega (arith, few, live_few (case_branches t) (case_offered t), few_offered t v)
