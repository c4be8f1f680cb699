-- The placement of a case is a claim that holds: none of its clauses is false.
use Rattle.std.proofs.Common.{◌≡◌, ℕ, ◌+◌, ◌<◌, ◌||◌, Bool, false, not, List, [], length, map, refl, sym, ap, ◌∙◌, subst, arith}
use Rattle.std.specs.Prelude.{◌==◌}
use Rattle.std.specs.List.{list_any, range_with_len, sum_by}
use Rattle.std.proofs.lemmas.Bool.{eq-eqb, le-ltb, or_from}
use Rattle.std.proofs.lemmas.List.{length-map}
use Rattle.obs_case.specs.Tables.{IsValid, Tables, prices_of}
use Rattle.obs_case.specs.declared.rows.Candidate.{Candidate}
use Rattle.obs_matroid.specs.Assignments.{Pair as NumberPair, branches, items}
use Rattle.obs_matroid.specs.Lists.{In, IsDistinct}
use Rattle.obs_matroid.specs.Placement.{Layer as BareLayer, RunOn, layers_sum}
use Rattle.obs_matroid.proofs.Lists.{In-filter_from, In-map_from, IsDistinct-filter}
use Rattle.obs_matroid.proofs.Pairs.{In-items}
use Rattle.obs_matroid.proofs.Ranges.{range_distinct, range_from}
use Rattle.obs_meter.proofs.Live.{live_low}
use Rattle.obs_first.specs.First.{IsFirstAt}
use Rattle.obs_placement.specs.Answer.{chosen_of, is_chosen}
use Rattle.obs_placement.specs.Layers.{prices_above}
use Rattle.obs_placement.specs.Placed.{Placed, PlanValue, plan_of}
use Rattle.obs_placement.specs.Placed.Placed.{cheapest, shortfall as short_of}
use Rattle.obs_placement.specs.Shown.{bare_layer}
use Rattle.obs_placement.proofs.Growing.{AreRising, prices_rising}
use Rattle.obs_network.specs.Network.{case_branches, case_needed, case_offered, case_vertex_count}
use Rattle.obs_network.proofs.OfCase.{length-case_offered}
use Rattle.obs_meter.specs.Costs.{price_of}
use Rattle.obs_network.specs.Completing.{CompletesCase, price_together}
use Rattle.obs_edit.specs.Planned.{case_placed_pairs, case_placement, planned_items}
use Rattle.obs_edit.proofs.CheapestPlans.{layers_add_up, layers_are_bounds, plans_complete, plans_have_first_pairs}
use Rattle.obs_edit.proofs.PlanOrShortfall.{plan_is}
use Rattle.obs_cert.specs.Claims.{CostClaim, Item, Layer, cost}
use Rattle.obs_cert.specs.Flaws.{Holds, Listed, all_inside, cycle, listed_layers, not_below, not_inside, not_touched, outside_of_plan, runs_on, shows, twice, twice_in_plan, unknown_in_plan, unknown_item, unknown_pair, wrong_cost, wrong_length, wrong_outside, wrong_rank}
use Rattle.obs_cert.specs.Numbered.{candidate_items, items_of, paired_items, pairs_of}
use Rattle.obs_meter.specs.Lost.{is_listed}
use Rattle.obs_cert.specs.Scopes.{is_below, is_of_plan, price_at}
use Rattle.obs_cert.proofs.CompletingLemmas.{bare, same_sum, sum_is}
use Rattle.obs_report.proofs.OfPairs.{offered_branch}
use Rattle.obs_claimed.specs.Claimed.{named_items, named_layers, placement_claim, plan_claim}
use Rattle.obs_claimed.specs.inner.Laws.{PlacementsHold}
use Rattle.obs_claimed.proofs.ClauseTests.{distinct-moved, once}
use Rattle.obs_claimed.proofs.Lacks.{lack_holds}
use Rattle.obs_claimed.proofs.LayerClaims.{are_below, bare_same, inside_distinct, layers_counted, layers_inside, layers_ranked, listed_all, run_from}
use Rattle.obs_claimed.proofs.Layered.{are_claimed, inside_low, layer_claims}
use Rattle.obs_claimed.proofs.NamedLemmas.{AreWithin, chosen_known, chosen_named, items_named, none_unknown, paired_named, pairs_known, pairs_named}
use Rattle.obs_claimed.proofs.PlanPairs.{as_needed, branches_once, items_once, no_cycle, paired_inside, paired_live, touched_pairs}

-- the clauses of a cost claim, one after the other
pub record NoFlaw (t : Tables) (c : CostClaim) : Type 0 where
  pub known : unknown_in_plan t c ≡ false
  pub inside : outside_of_plan t c ≡ false
  pub touched : not_touched t (pairs_of t c.pairs) ≡ false
  pub once : twice_in_plan t c ≡ false
  pub forest : cycle t (pairs_of t c.pairs) ≡ false
  pub long : wrong_length (pairs_of t c.pairs) (case_needed t) ≡ false
  pub ranks : list_any (λ (l : Listed). wrong_rank t l.list l.layer.rank) (listed_layers t c.layers) ≡ false
  pub counts : list_any (λ (l : Listed). wrong_outside t (is_below t l.layer.to) l.list l.layer.outside) (listed_layers t c.layers) ≡ false
  pub low : list_any (λ (l : Layer). not_below l.rank l.outside (case_needed t)) c.layers ≡ false
  pub runs : not (runs_on 0 c.layers) ≡ false
  pub costs : wrong_cost t (items_of t (candidate_items c.chosen)) c.layers c.number ≡ false

pub none_flawed : (t : Tables) (c : CostClaim) → NoFlaw t c → Holds t (cost c)
none_flawed t c n = rw (n.known, n.inside, n.touched, n.once, n.forest, n.long, n.ranks, n.counts, n.low, n.runs, n.costs) refl

module _ (t : Tables) (v : IsValid t) where
  low_items : (list : List ℕ) → ((m : ℕ) → In m list → m < length (case_offered t)) → (items_of t (named_items t list) ≡ list) × (unknown_item t (named_items t list) ≡ false)
  low_items list low =
      let within : (m : ℕ) → In m list → m < length t.meters + length t.candidates = λ m i. let l = low m i in omega (arith, l, length-case_offered t) in
      (items_named t v list within, none_unknown t v list within)

  abbrev chosen : List ℕ
  chosen = chosen_of (case_vertex_count t) (case_branches t) (case_offered t) (length t.meters) (prices_of t.candidates)

  abbrev ts : List ℕ
  ts = prices_above (prices_of t.candidates) chosen 0

  rising : AreRising 0 ts
  rising = prices_rising (prices_of t.candidates) chosen 0

  chosen_low : (k : ℕ) → In k chosen → k < length t.candidates
  chosen_low k i =
      let prices = prices_of t.candidates in
      let test : ℕ → Bool = λ j. is_chosen (case_vertex_count t) (case_branches t) (case_offered t) (price_of (length t.meters) prices) (length t.meters + j) in
      let f = In-filter_from test k (range_with_len 0 (length prices)) i in
      let r = range_from 0 (length prices) k f.0 in
      omega (arith, r.1, length-map t.candidates (λ (row : Candidate). row.price))

  chosen_distinct : IsDistinct chosen
  chosen_distinct =
      let prices = prices_of t.candidates in
      IsDistinct-filter (λ j. is_chosen (case_vertex_count t) (case_branches t) (case_offered t) (price_of (length t.meters) prices) (length t.meters + j)) (range_with_len 0 (length prices)) (range_distinct 0 (length prices))

  abbrev whole : PlanValue
  whole = plan_of (case_vertex_count t) (case_branches t) (case_offered t) (length t.meters) (prices_of t.candidates)

  -- the layers of the plan as they are claimed
  layers_are : named_layers t whole.inside 0 whole.layers ≡ layer_claims t 0 ts
  layers_are = are_claimed t 0 0 ts [] refl

  -- the chosen candidates as items cost as much either way
  cost_same : sum_by (price_at t) (map (λ k. length t.meters + k) chosen) ≡ price_together t (map (λ k. length t.meters + k) chosen)
  cost_same = same_sum (price_at t) (price_of (length t.meters) (prices_of t.candidates)) (map (λ k. length t.meters + k) chosen) (λ m i.
      let f = In-map_from (λ k. length t.meters + k) m chosen i in
      let e = f.2 in
      rw (le-ltb m (length t.meters) (omega (arith, e))) refl)

  module _ (is : case_placement t ≡ cheapest whole) where
    abbrev A : List NumberPair
    A = case_placed_pairs t

    abbrev X : List ℕ
    X = map (λ k. length t.meters + k) chosen

    abbrev claim : CostClaim
    claim = plan_claim t whole (case_placed_pairs t)

    first : IsFirstAt (case_branches t) (case_offered t) (planned_items (length t.meters) chosen) A
    first = plans_have_first_pairs t whole v is

    within : AreWithin t A
    within p i =
        let live = paired_live t (planned_items (length t.meters) chosen) A first.assigns p.0 (In-items A p i) in
        let low = live_low (case_branches t) (case_offered t) p.0 live in
        (omega (arith, low, length-case_offered t), offered_branch t v p.0 p.1 (first.assigns.touched p i))

    pairs_are : pairs_of t claim.pairs ≡ A
    pairs_are = pairs_named t v A within

    paired_are : items_of t (paired_items claim.pairs) ≡ items A
    paired_are = paired_named t v A within

    chosen_are : items_of t (candidate_items claim.chosen) ≡ X
    chosen_are = chosen_named t v chosen chosen_low

    listed_are : all_inside claim.layers ≡ named_items t whole.inside
    listed_are = ap all_inside layers_are ∙ listed_all t v 0 ts

    inside_are : items_of t (named_items t whole.inside) ≡ whole.inside
    inside_are = (low_items whole.inside (inside_low t 0 ts)).0

    all_known : unknown_in_plan t claim ≡ false
    all_known =
        or_from (unknown_item t (candidate_items claim.chosen)) (unknown_pair t claim.pairs || unknown_item t (all_inside claim.layers)) (chosen_known t v chosen chosen_low)
        (or_from (unknown_pair t claim.pairs) (unknown_item t (all_inside claim.layers)) (pairs_known t v A within)
        (ap (unknown_item t) listed_are ∙ (low_items whole.inside (inside_low t 0 ts)).1))

    all_in_scope : outside_of_plan t claim ≡ false
    all_in_scope =
        or_from (not_inside (is_of_plan t (is_listed (items_of t (candidate_items claim.chosen)))) (items_of t (paired_items claim.pairs))) (list_any (λ (l : Listed). not_inside (is_below t l.layer.to) l.list) (listed_layers t claim.layers))
        (ap (λ (xs : List ℕ). not_inside (is_of_plan t (is_listed xs)) (items_of t (paired_items claim.pairs))) chosen_are
        ∙ ap (not_inside (is_of_plan t (is_listed X))) paired_are
        ∙ paired_inside t chosen A first)
        (ap (λ (ls : List Layer). list_any (λ (l : Listed). not_inside (is_below t l.layer.to) l.list) (listed_layers t ls)) layers_are ∙ layers_inside t v ts rising)

    all_once : twice_in_plan t claim ≡ false
    all_once =
        let M = planned_items (length t.meters) chosen in
        or_from (twice (items_of t (candidate_items claim.chosen))) _ (ap twice chosen_are ∙ once X (distinct-moved (length t.meters) chosen chosen_distinct))
        (or_from _ (twice (items_of t (all_inside claim.layers)))
        (or_from (twice (items_of t (paired_items claim.pairs))) (twice (branches (pairs_of t claim.pairs)))
        (ap twice paired_are ∙ items_once t M A first.assigns)
        (ap (λ (ps : List NumberPair). twice (branches ps)) pairs_are ∙ branches_once t M A first.assigns v))
        (ap (λ (xs : List Item). twice (items_of t xs)) listed_are ∙ ap twice inside_are ∙ once whole.inside (inside_distinct t v 0 ts rising)))

    completes : CompletesCase t X
    completes = (plans_complete t whole v is).0

    cost_is : whole.cost ≡ price_together t X
    cost_is = (plans_complete t whole v is).1

    layers_bare : map bare claim.layers ≡ map bare_layer whole.layers
    layers_bare = bare_same t whole.inside 0 whole.layers

    plan_has_no_flaw : NoFlaw t claim
    plan_has_no_flaw =
        let M = planned_items (length t.meters) chosen in
        let bounds = layers_are_bounds t whole v is in
        record {
          known = all_known;
          inside = all_in_scope;
          touched = ap (not_touched t) pairs_are ∙ touched_pairs t M A first.assigns;
          once = all_once;
          forest = ap (cycle t) pairs_are ∙ no_cycle t M A first.assigns v;
          long = ap (λ (ps : List NumberPair). wrong_length ps (case_needed t)) pairs_are ∙ ap not (eq-eqb (length A) (case_needed t) (as_needed t chosen A first completes));
          ranks = ap (λ (ls : List Layer). list_any (λ (l : Listed). wrong_rank t l.list l.layer.rank) (listed_layers t ls)) layers_are ∙ layers_ranked t v ts rising;
          counts = ap (λ (ls : List Layer). list_any (λ (l : Listed). wrong_outside t (is_below t l.layer.to) l.list l.layer.outside) (listed_layers t ls)) layers_are ∙ layers_counted t v ts rising;
          low = are_below (case_needed t) claim.layers (λ l i. (bounds.1 l (subst (λ (ls : List BareLayer). In l ls) layers_bare i)).1);
          runs = ap not (run_from 0 claim.layers (subst (λ (ls : List BareLayer). RunOn 0 ls) (sym layers_bare) bounds.0));
          costs =
              or_from (not (sum_by (price_at t) (items_of t (candidate_items claim.chosen)) == claim.number)) (not (sum_by (shows (case_needed t)) claim.layers == claim.number))
              (ap not (eq-eqb (sum_by (price_at t) (items_of t (candidate_items claim.chosen))) claim.number (ap (sum_by (price_at t)) chosen_are ∙ cost_same ∙ sym cost_is)))
              (ap not (eq-eqb (sum_by (shows (case_needed t)) claim.layers) claim.number
              (sum_is (case_needed t) claim.layers ∙ ap (layers_sum (case_needed t)) layers_bare ∙ layers_add_up t whole v is)));
        }

  pub plan_holds : (p : PlanValue) → case_placement t ≡ cheapest p → Holds t (cost (plan_claim t p (case_placed_pairs t)))
  plan_holds p e =
      let same = plan_is t p e in
      subst (λ (q : PlanValue). Holds t (cost (plan_claim t q (case_placed_pairs t)))) same
      (none_flawed t (plan_claim t whole (case_placed_pairs t)) (plan_has_no_flaw (e ∙ ap cheapest (sym same))))

pub placements_hold : PlacementsHold
placements_hold t v = by (case_placement t) refl
  where
    by : (p : Placed) → case_placement t ≡ p → Holds t (placement_claim t p (case_placed_pairs t))
    by (cheapest p) e = plan_holds t v p e
    by (short_of l) e = lack_holds t l v e (low_items t v)
