-- Printed positions are within the tables of a case, and the names that stand there are names.
use Rattle.std.proofs.Common.{◌≡◌, ◌∙◌, ℕ, zero, suc, ◌+◌, ◌-◌, ◌<◌, true, Option, List, [], ◌∷◌, length, get_or, ap, refl, inl, inr, arith}
use Rattle.std.specs.Prelude.{not}
use Rattle.std.specs.List.{list_all}
use Rattle.std.proofs.lemmas.Bool.{and_parts, cases_Bool, cases_lt, le-ltb, lt-ltb}
use Rattle.std.proofs.lemmas.List.{length-map}
use Rattle.obs_text.specs.Names.{is_name}
use Rattle.obs_graph.specs.declared.Ends.{Ends}
use Rattle.obs_graph.specs.Positions.{AreBranches}
use Rattle.obs_case.specs.Items.{is_angle}
use Rattle.obs_case.specs.Tables.{IsValid, Tables, branch_names, candidate_names, meter_names, node_names, prices_of}
use Rattle.obs_case.specs.declared.rows.Candidate.{Candidate}
use Rattle.obs_matroid.specs.Assignments.{Pair}
use Rattle.obs_matroid.specs.Lists.{In}
use Rattle.obs_matroid.proofs.Lists.{In-append_cases, In-filter_from}
use Rattle.obs_matroid.proofs.Ranges.{range_from}
use Rattle.obs_meter.specs.declared.Touch.{Touch}
use Rattle.obs_meter.specs.Touches.{is_live, live_items, touch_at}
use Rattle.obs_exchange.specs.Laws.{noncritical_in}
use Rattle.obs_first.specs.First.{first_pairs}
use Rattle.obs_first.proofs.Lawful.{first_pairs-is}
use Rattle.obs_placement.specs.Answer.{chosen_of, is_chosen}
use Rattle.obs_placement.specs.Layers.{added_items, inside_of, prices_above}
use Rattle.obs_placement.specs.Placed.{Placed, shortfall_of, plan_of}
use Rattle.obs_placement.specs.Placed.Placed.{cheapest, shortfall}
use Rattle.obs_network.specs.Network.{case_branches, case_component_count, case_item_count, case_meters, case_offered, case_vertex_count}
use Rattle.obs_network.specs.Observable.{case_live_meters}
use Rattle.obs_network.proofs.Marked.{filtered_below}
use Rattle.obs_network.proofs.OfCase.{case_branches-are, length-case_meters, length-case_offered}
use Rattle.obs_meter.specs.Costs.{price_of}
use Rattle.obs_report.specs.Items.{branch_name, branch_word, candidate_name, item_name, meter_name}
use Rattle.obs_report.specs.inner.Items.{IsBranchOf}
use Rattle.obs_report.specs.Meters.{component_name}
use Rattle.obs_report.proofs.OfPairs.{meter_branch, offered_branch}
use Rattle.obs_repair.specs.Bounds.{bound_meters, component_meters, is_critical_meter, is_meter_of}
use Rattle.obs_edit.specs.Answers.{case_first_pairs}
use Rattle.obs_edit.specs.Planned.{case_placed_pairs, case_placement, listed_touches, pairs_in, planned_items}
use Rattle.obs_edit.proofs.Planned.{length-touches_of, touch-listed}
use Rattle.obs_claimed.proofs.ComponentNames.{first_of_component}
use Rattle.obs_claimed.proofs.NamedLemmas.{AreWithin}

-- the name at a position
pub name_at : (names : List (List ℕ)) (k : ℕ) → list_all is_name names ≡ true → k < length names → is_name (get_or names k []) ≡ true
name_at [] k named low = absurd (omega (arith, low))
name_at (name ∷ names) zero named low = (and_parts (is_name name) (list_all is_name names) named).0
name_at (name ∷ names) (suc k) named low = name_at names k (and_parts (is_name name) (list_all is_name names) named).1 (omega (arith, low))

module _ (t : Tables) (v : IsValid t) where
  pub meter_named : (m : ℕ) → m < length t.meters → is_name (meter_name t m) ≡ true
  meter_named m low = name_at (meter_names t) m v.meters.named (omega (arith, low, length-map t.meters (λ row. row.name)))

  pub candidate_named : (k : ℕ) → k < length t.candidates → is_name (candidate_name t k) ≡ true
  candidate_named k low = name_at (candidate_names t) k v.candidates.named (omega (arith, low, length-map t.candidates (λ row. row.name)))

  branch_named : (e : ℕ) → e < length t.branches → is_name (branch_name t e) ≡ true
  branch_named e low = name_at (branch_names t) e v.branches.named (omega (arith, low, length-map t.branches (λ row. row.name)))

  -- the word for the branch of a pair
  pub word_named : (m e : ℕ) → IsBranchOf t m e → is_name (branch_word t m e) ≡ true
  word_named m e of = elim (cases_Bool (is_angle t m)) [ inl is ↦ rw is refl | inr other ↦ rw other (branch_named e (of.row other)) ]

  -- the name of an item
  pub item_has_name : (m : ℕ) → m < case_item_count t → is_name (item_name t m) ≡ true
  item_has_name m low = elim (cases_lt m (length t.meters)) [
    | inl l ↦ rw (lt-ltb m (length t.meters) l) (meter_named m l)
    | inr l ↦ rw (le-ltb m (length t.meters) l) (candidate_named (m - length t.meters) (omega (arith, low, l)))
  ]

  -- the name of a component
  pub component_has_name : (c : ℕ) → c < case_component_count t → is_name (component_name t c) ≡ true
  component_has_name c l =
      let first = first_of_component t c l in
      let low = first.1.low in
      ap is_name first.1.name ∙ name_at (node_names t) first.0 v.nodes.named (omega (arith, low, length-map t.nodes (λ row. row.name)))

-- the pairs of a first assignment are items with branches that they touch
pub first_pairs_low : (n : ℕ) (ends : List (Option Ends)) (touches : List Touch) → AreBranches n ends → (p : Pair) → In p (first_pairs n ends touches)
    → (p.0 < length touches) × In p.1 (touch_at ends touches p.0)
first_pairs_low n ends touches ok p i =
    let assigns = (first_pairs-is n ends touches ok).assigns in
    let low = range_from 0 (length touches) p.0 (assigns.of_items p i) in
    (omega (arith, low.1), assigns.touched p i)

-- so are those of a case's meters
pub case_pairs_within : (t : Tables) → IsValid t → AreWithin t (case_first_pairs t)
unfolding case_first_pairs
case_pairs_within t v p i =
    let low = first_pairs_low (case_vertex_count t) (case_branches t) (case_meters t) (case_branches-are t v) p i in
    (omega (arith, low.0, length-case_meters t), meter_branch t v p.0 p.1 low.1)

-- the items that a bound lists
pub bound_meters_low : (t : Tables) (c m : ℕ) → In m (bound_meters t c) → m < case_item_count t
unfolding bound_meters component_meters
bound_meters_low t c m i =
    let own = (In-filter_from (λ x. not (is_critical_meter t x)) m (component_meters t c) i).0 in
    let live = (In-filter_from (is_meter_of t c) m (case_live_meters t) own).0 in
    let low = filtered_below (is_live (case_branches t) (case_meters t)) 0 (length (case_meters t)) m live in
    omega (arith, low, length-case_meters t)

-- the pairs of a placement, over what the listed items of the case touch
pairs_in_within : (t : Tables) → IsValid t → (listed : List ℕ) (placed : Placed)
    → AreWithin t (pairs_in (case_vertex_count t) (case_branches t) (listed_touches (case_offered t) listed) placed)
pairs_in_within t v listed (cheapest plan) p i =
    let low = first_pairs_low (case_vertex_count t) (case_branches t) (listed_touches (case_offered t) listed) (case_branches-are t v) p i in (
      omega (arith, low.0, length-touches_of (case_offered t) listed, length-case_offered t),
      offered_branch t v p.0 p.1 (touch-listed (case_offered t) listed (case_branches t) p.0 p.1 low.1).1,
    )
pairs_in_within t v listed (shortfall lack) p i = absurd i

pub placed_pairs_within : (t : Tables) → IsValid t → AreWithin t (case_placed_pairs t)
placed_pairs_within t v =
    pairs_in_within t v (planned_items (length t.meters) (chosen_of (case_vertex_count t) (case_branches t) (case_offered t) (length t.meters) (prices_of t.candidates))) (case_placement t)

-- what is listed over some touches
module _ (n : ℕ) (ends : List (Option Ends)) (touches : List Touch) (price : ℕ → ℕ) where
  pub inside_low : (f : ℕ) (ts : List ℕ) (m : ℕ) → In m (inside_of n ends touches price f ts) → m < length touches
  inside_low f [] m i = absurd i
  inside_low f (t ∷ ts) m i = elim (In-append_cases m (added_items n ends touches price f t) (inside_of n ends touches price t ts) i) [
    | inl here ↦ (let low = filtered_below _ 0 (length touches) m here in omega (arith, low))
    | inr later ↦ inside_low t ts m later
  ]

-- what a plan of a case chooses and lists, and what a shortfall lists
module _ (t : Tables) where
  pub plan_chosen_low : (k : ℕ) → In k (plan_of (case_vertex_count t) (case_branches t) (case_offered t) (length t.meters) (prices_of t.candidates)).chosen → k < length t.candidates
  plan_chosen_low k i =
      let prices = prices_of t.candidates in
      let low = filtered_below (λ x. is_chosen (case_vertex_count t) (case_branches t) (case_offered t) (price_of (length t.meters) prices) (length t.meters + x)) 0 (length prices) k i in
      omega (arith, low, length-map t.candidates (λ (row : Candidate). row.price))

  pub plan_inside_low : (m : ℕ) → In m (plan_of (case_vertex_count t) (case_branches t) (case_offered t) (length t.meters) (prices_of t.candidates)).inside → m < case_item_count t
  plan_inside_low m i =
      let prices = prices_of t.candidates in
      let chosen = chosen_of (case_vertex_count t) (case_branches t) (case_offered t) (length t.meters) prices in
      let low = inside_low (case_vertex_count t) (case_branches t) (case_offered t) (price_of (length t.meters) prices) 0 (prices_above prices chosen 0) m i in
      omega (arith, low, length-case_offered t)

  pub lack_inside_low : (needed m : ℕ) → In m (shortfall_of (case_vertex_count t) (case_branches t) (case_offered t) needed).inside → m < case_item_count t
  lack_inside_low needed m i =
      let live = live_items (case_branches t) (case_offered t) in
      let own = (In-filter_from (noncritical_in (case_vertex_count t) (case_branches t) (case_offered t) live) m live i).0 in
      let low = filtered_below (is_live (case_branches t) (case_offered t)) 0 (length (case_offered t)) m own in
      omega (arith, low, length-case_offered t)
