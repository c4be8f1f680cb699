-- The placement of a case is a cheapest one, or shows that there is none.
use Rattle.std.proofs.Common.{◌≡◌, ◌∙◌, ℕ, ◌+◌, ◌≤◌, ◌<◌, ap, sym, subst, true, false, List, length, map, filter, not, ◌++◌, arith}
use Rattle.std.specs.Prelude.{nat_lt}
use Rattle.std.proofs.lemmas.Bool.Decides.{nat_tests}
use Rattle.std.proofs.lemmas.List.{length-map}
use Rattle.obs_graph.specs.Positions.{AreBranches}
use Rattle.obs_case.specs.declared.rows.Candidate.{Candidate}
use Rattle.obs_case.specs.Tables.{IsValid, Tables, prices_of}
use Rattle.obs_matroid.specs.Lists.{In}
use Rattle.obs_matroid.specs.Placement.{Layer, RunOn, layers_sum}
use Rattle.obs_matroid.proofs.Lists.{In-filter_from, filter_all}
use Rattle.obs_meter.specs.Assignments.{IsRhoAt, rho_at}
use Rattle.obs_meter.specs.Touches.{is_live, live_items}
use Rattle.obs_meter.proofs.Assigned.{live_items-distinct, rho_at-is}
use Rattle.obs_placement.specs.inner.Laws.{answer_at}
use Rattle.obs_placement.specs.Placed.{ShortfallValue, PlanValue}
use Rattle.obs_placement.specs.Shown.{bare_layer}
use Rattle.obs_placement.proofs.Costed.{layers_are_shown, layers_show_the_cost}
use Rattle.obs_placement.proofs.Lawful.{chosen_enough}
use Rattle.obs_placement.proofs.Positions.{cost_is, positions_are}
use Rattle.obs_placement.proofs.Refuting.{bound_reached, bound_refutes, none_for_less}
use Rattle.obs_network.specs.Network.{case_branches, case_needed, case_offered, case_vertex_count}
use Rattle.obs_network.proofs.Observed.{most_pairs}
use Rattle.obs_network.proofs.OfCase.{case_branches-are, length-case_offered}
use Rattle.obs_meter.specs.Costs.{live_meters}
use Rattle.obs_rankcut.specs.inner.Costs.{DoAsMuch}
use Rattle.obs_rankcut.proofs.Costs.{layers_bound_completing}
use Rattle.obs_edit.proofs.PlanFirst.{plan_pairs_first}
use Rattle.obs_network.specs.Completing.{CompletesCase, price_together}
use Rattle.obs_edit.specs.Placements.{IsBoundOf, LayersAddUp, LayersAreBounds, LayersBoundCosts, PlannedShortfallsRefute, PlansAreCheapest, PlansComplete, PlansHaveFirstPairs, chosen_items}
use Rattle.obs_edit.proofs.PlanOrShortfall.{lack, lacking, most, plan, planned}

module _ (t : Tables) (v : IsValid t) where
  ok : AreBranches (case_vertex_count t) (case_branches t)
  ok = case_branches-are t v

  size : length (case_offered t) ≡ length t.meters + length (prices_of t.candidates)
  size = length-case_offered t ∙ ap (λ (k : ℕ). length t.meters + k) (sym (length-map t.candidates (λ (row : Candidate). row.price)))

  -- where it isn't below the needed number, it is that number
  reaches : nat_lt (most t) (case_needed t) ≡ false → IsRhoAt (case_branches t) (case_offered t) (live_items (case_branches t) (case_offered t)) (case_needed t)
  unfolding most
  reaches enough =
      let live = live_items (case_branches t) (case_offered t) in
      let all = rho_at-is (case_vertex_count t) (case_branches t) (case_offered t) live ok (live_items-distinct (case_branches t) (case_offered t)) in
      let few = most_pairs t v (case_offered t) live all.longest all.assigns in
      let long = all.long in
      let e : rho_at (case_vertex_count t) (case_branches t) (case_offered t) live ≡ case_needed t = omega (arith, few, long, not_below _ _ enough) in
      subst (λ (r : ℕ). IsRhoAt (case_branches t) (case_offered t) live r) e all
    where
      not_below : (a b : ℕ) → nat_lt a b ≡ false → b ≤ a
      not_below a b e = grind (arith, nat_tests)

-- what does as much as all completes
completes : (t : Tables) (X : List ℕ) → DoAsMuch (case_branches t) (case_offered t) (length t.meters) (case_needed t) X → CompletesCase t X
completes t X d = record {
  candidates = λ c i. behind c (In-filter_from (λ m. not (nat_lt m (length t.meters))) c (live_items (case_branches t) (case_offered t)) (d.candidates c i)).1;
  reached = subst (λ (xs : List ℕ). IsRhoAt (case_branches t) (case_offered t) (live_meters (case_branches t) (case_offered t) (length t.meters) ++ xs) (case_needed t)) (sym all) d.longest;
}
  where
    behind : (c : ℕ) → not (nat_lt c (length t.meters)) ≡ true → length t.meters ≤ c
    behind c e = grind (arith, nat_tests)

    all : filter (is_live (case_branches t) (case_offered t)) X ≡ X
    all = filter_all (is_live (case_branches t) (case_offered t)) X (λ c i.
        let u = In-filter_from (λ m. not (nat_lt m (length t.meters))) c (live_items (case_branches t) (case_offered t)) (d.candidates c i) in
        (In-filter_from (is_live (case_branches t) (case_offered t)) c _ u.0).1)

pub plans_complete : PlansComplete
unfolding plan
plans_complete t p v e =
    let n = case_vertex_count t in
    let ends = case_branches t in
    let touches = case_offered t in
    let m = length t.meters in
    let prices = prices_of t.candidates in
    let is = planned t p e in
    let at : map (λ k. m + k) (plan t).chosen ≡ answer_at n ends touches m prices = positions_are n ends touches m prices (size t v) in
    let does = chosen_enough n ends touches m (case_needed t) prices (ok t v) (reaches t v is.0) in
    let cost : (plan t).cost ≡ price_together t (chosen_items t (plan t)) = cost_is n ends touches m prices (size t v) ∙ ap (λ (X : List ℕ). price_together t X) (sym at) in
    subst (λ (q : PlanValue). CompletesCase t (chosen_items t q) × (q.cost ≡ price_together t (chosen_items t q))) is.1
    (subst (λ (X : List ℕ). CompletesCase t X) (sym at) (completes t (answer_at n ends touches m prices) does), cost)

pub plans_are_cheapest : PlansAreCheapest
unfolding plan
plans_are_cheapest t p X v e c =
    let is = planned t p e in
    subst (λ (q : PlanValue). q.cost ≤ price_together t X) is.1
    (none_for_less (case_vertex_count t) (case_branches t) (case_offered t) (length t.meters) (case_needed t) (prices_of t.candidates) X (ok t v) (size t v) (reaches t v is.0) c)

pub layers_add_up : LayersAddUp
unfolding plan
layers_add_up t p v e =
    let is = planned t p e in
    subst (λ (q : PlanValue). layers_sum (case_needed t) (map bare_layer q.layers) ≡ q.cost) is.1
    (layers_show_the_cost (case_vertex_count t) (case_branches t) (case_offered t) (length t.meters) (case_needed t) (prices_of t.candidates) (ok t v) (size t v) (reaches t v is.0))

pub layers_are_bounds : LayersAreBounds
unfolding plan
layers_are_bounds t p v e =
    let is = planned t p e in
    subst (λ (q : PlanValue). RunOn 0 (map bare_layer q.layers) × ((l : Layer) → In l (map bare_layer q.layers) → IsBoundOf t l × (l.rank + l.outside < case_needed t))) is.1
    (layers_are_shown (case_vertex_count t) (case_branches t) (case_offered t) (length t.meters) (case_needed t) (prices_of t.candidates) (ok t v) (size t v) (reaches t v is.0))

pub layers_bound_costs : LayersBoundCosts
layers_bound_costs t layers X v run shown c =
    layers_bound_completing (case_vertex_count t) (case_branches t) (case_offered t) (length t.meters) (case_needed t) (prices_of t.candidates) X layers (ok t v) run shown c

pub plans_have_first_pairs : PlansHaveFirstPairs
plans_have_first_pairs t p v e =
    plan_pairs_first (case_vertex_count t) (case_branches t) (case_offered t) (length t.meters) (case_needed t) (prices_of t.candidates) p (ok t v) (size t v) e

pub shortfalls_refute : PlannedShortfallsRefute
unfolding lack most
shortfalls_refute t l v e =
    let n = case_vertex_count t in
    let ends = case_branches t in
    let touches = case_offered t in
    let is = lacking t l e in
    let sum = bound_reached n ends touches (case_needed t) (ok t v) in
    let low : (lack t).rank + (lack t).outside < case_needed t = omega (arith, sum, below _ _ is.0) in
    subst (λ (b : ShortfallValue). (b.rank + b.outside < case_needed t) × ((X : List ℕ) → CompletesCase t X → ⊥)) is.1
    (low, λ X c. bound_refutes n ends touches (length t.meters) (case_needed t) X (ok t v) low c)
  where
    below : (a b : ℕ) → nat_lt a b ≡ true → a < b
    below a b e = grind (arith, nat_tests)
