-- The placement of a case lies within its tables.
use Rattle.std.proofs.Common.{◌≡◌, ◌∙◌, ℕ, ◌+◌, ◌<◌, ◌≤◌, ap, List, [], ◌∷◌, length, Option, inl, inr, arith}
use Rattle.std.specs.Prelude.{nat_lt}
use Rattle.std.proofs.lemmas.Bool.{cases_Bool}
use Rattle.std.proofs.lemmas.List.{length-append, length-map}
use Rattle.obs_graph.specs.declared.Ends.{Ends}
use Rattle.obs_case.specs.declared.rows.Candidate.{Candidate}
use Rattle.obs_case.specs.Tables.{Tables, prices_of}
use Rattle.obs_matroid.specs.Assignments.{Pair}
use Rattle.obs_matroid.proofs.Contained.{All-from_In}
use Rattle.obs_matroid.proofs.Lists.{In-filter_from}
use Rattle.obs_meter.specs.declared.Touch.{Touch}
use Rattle.obs_meter.specs.Touches.{is_live, live_items}
use Rattle.obs_meter.specs.Assignments.{rho_at}
use Rattle.obs_exchange.specs.Laws.{noncritical_in}
use Rattle.obs_placement.specs.Answer.{is_chosen}
use Rattle.obs_placement.specs.Layers.{added_items, inside_of, layers_of, prices_above}
use Rattle.obs_placement.specs.Placed.{Placed, redundant_items, shortfall_of, plan_of}
use Rattle.obs_placement.specs.Placed.Placed.{cheapest, shortfall}
use Rattle.obs_network.specs.Network.{case_branches, case_item_count, case_needed, case_offered, case_vertex_count}
use Rattle.obs_network.proofs.Marked.{filtered_below}
use Rattle.obs_network.proofs.OfCase.{length-case_offered}
use Rattle.obs_meter.specs.Costs.{price_of}
use Rattle.obs_report.specs.Placements.{placement_text}
use Rattle.obs_report.specs.inner.Placements.{AreCountsOf, IsWithin}
use Rattle.obs_edit.specs.Planned.{case_placed_pairs, case_placement}
use Rattle.obs_engine.specs.declared.blocks.Block.TheVariants.{Placement}
use Rattle.obs_engine.specs.Asks.{block_text}
use Rattle.obs_claimed.proofs.Within.{inside_low}

-- over these touches
module _ (n : ℕ) (ends : List (Option Ends)) (touches : List Touch) (price : ℕ → ℕ) where
  -- the counts of the layers are those of what they list
  counts_of : (all f u : ℕ) (ts : List ℕ) → u + length (inside_of n ends touches price f ts) ≤ all → AreCountsOf all u (layers_of n ends touches price f u ts)
  counts_of all f u [] l = tt
  counts_of all f u (t ∷ ts) l =
      let size = length-append (added_items n ends touches price f t) (inside_of n ends touches price t ts) in
      (omega arith, omega (arith, l, size), counts_of all t (u + length (added_items n ends touches price f t)) ts (omega (arith, l, size)))

-- the two answers
plan_within : (t : Tables) (n : ℕ) (ends : List (Option Ends)) → IsWithin t (cheapest (plan_of n ends (case_offered t) (length t.meters) (prices_of t.candidates)))
plan_within t n ends =
    let touches = case_offered t in
    let prices = prices_of t.candidates in
    let price = price_of (length t.meters) prices in
    let many = length-map t.candidates (λ (row : Candidate). row.price) in
    let plan = plan_of n ends touches (length t.meters) prices in (
      All-from_In (λ k. k < length t.candidates) plan.chosen
          (λ k i. let low = filtered_below (λ k. is_chosen n ends touches price (length t.meters + k)) 0 (length prices) k i in omega (arith, low, many)),
      All-from_In (λ m. m < case_item_count t) plan.inside
          (λ m i. let low = inside_low n ends touches price 0 (prices_above prices plan.chosen 0) m i in omega (arith, low, length-case_offered t)),
      counts_of n ends touches price (length plan.inside) 0 0 (prices_above prices plan.chosen 0) (omega arith),
    )

lack_within : (t : Tables) (n : ℕ) (ends : List (Option Ends)) (needed : ℕ) → IsWithin t (shortfall (shortfall_of n ends (case_offered t) needed))
lack_within t n ends needed =
    let touches = case_offered t in
    All-from_In (λ m. m < case_item_count t) (redundant_items n ends touches)
    (λ m i.
    let live = (In-filter_from (noncritical_in n ends touches (live_items ends touches)) m (live_items ends touches) i).0 in
    let low = filtered_below (is_live ends touches) 0 (length touches) m live in
    omega (arith, low, length-case_offered t))

pub placement_within : (t : Tables) → IsWithin t (case_placement t)
placement_within t =
    let n = case_vertex_count t in
    let ends = case_branches t in
    let touches = case_offered t in
    elim (cases_Bool (nat_lt (rho_at n ends touches (live_items ends touches)) (case_needed t))) [
      | inl short ↦ rw short (lack_within t n ends (case_needed t))
      | inr enough ↦ rw enough (plan_within t n ends)
    ]

-- the part of the answer, from what is at hand
pub placement_is : (t : Tables) (placed : Placed) (pairs : List Pair) → placed ≡ case_placement t → pairs ≡ case_placed_pairs t → placement_text t placed pairs ≡ block_text Placement t
unfolding block_text
placement_is t placed pairs p q = ap (λ (x : Placed). placement_text t x pairs) p ∙ ap (placement_text t (case_placement t)) q
