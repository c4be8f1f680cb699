-- An observable case needs no candidates.
use Rattle.std.proofs.Common.{◌≡◌, ◌∙◌, ℕ, ◌<◌, ap, refl, sym, subst, true, List, [], ◌++◌, length, arith}
use Rattle.std.specs.Prelude.{nat_lt}
use Rattle.std.proofs.lemmas.Bool.Decides.{nat_tests}
use Rattle.std.proofs.lemmas.List.{append-nil}
use Rattle.obs_case.specs.Tables.{IsValid, Tables}
use Rattle.obs_matroid.specs.Assignments.{Pair}
use Rattle.obs_matroid.specs.Lists.{In}
use Rattle.obs_matroid.proofs.Lists.{In-filter, In-filter_from}
use Rattle.obs_matroid.proofs.Ranges.{below_from, below_in}
use Rattle.obs_meter.specs.Assignments.{IsAssignmentAt}
use Rattle.obs_meter.specs.Touches.{every_item, is_live, live_items, touched}
use Rattle.obs_placement.specs.Placed.{Placed, PlanValue}
use Rattle.obs_placement.specs.Placed.Placed.{cheapest, shortfall}
use Rattle.obs_network.specs.Network.{case_branches, case_meters, case_offered}
use Rattle.obs_network.specs.Observable.{IsObservableCase, case_live_meters}
use Rattle.obs_network.proofs.Items.{meter_is_item}
use Rattle.obs_network.proofs.Observed.{most_pairs, rho_from_observed}
use Rattle.obs_network.proofs.OfCase.{length-case_meters, length-case_offered}
use Rattle.obs_meter.specs.Costs.{live_meters}
use Rattle.obs_network.specs.Completing.{CompletesCase}
use Rattle.obs_edit.specs.Placements.{ObservableCostsNothing}
use Rattle.obs_edit.specs.Planned.{case_placement}
use Rattle.obs_edit.proofs.CheapestPlans.{plans_are_cheapest, shortfalls_refute}

-- a meter that touches a branch is a live item of what is offered
live_offered : (t : Tables) (m : ℕ) → In m (case_live_meters t) → (m < length t.meters) × In m (live_meters (case_branches t) (case_offered t) (length t.meters))
live_offered t m i =
    let ends = case_branches t in
    let is = In-filter_from (is_live ends (case_meters t)) m (every_item (case_meters t)) i in
    let low : m < length t.meters = omega (arith, below_from (length (case_meters t)) m is.0, length-case_meters t) in
    let live : is_live ends (case_offered t) m ≡ true = ap (λ x. nat_lt 0 (length (touched ends x))) (meter_is_item t m low) ∙ is.1 in
    let there : In m (every_item (case_offered t)) = below_in (length (case_offered t)) m (omega (arith, low, length-case_offered t)) in (
      low,
      In-filter (λ k. nat_lt k (length t.meters)) m (live_items ends (case_offered t)) (In-filter (is_live ends (case_offered t)) m (every_item (case_offered t)) there live) (lower m (length t.meters) low),
    )
  where
    lower : (a b : ℕ) → a < b → nat_lt a b ≡ true
    lower a b l = grind (arith, nat_tests)

module _ (t : Tables) (v : IsValid t) (observable : IsObservableCase t) where
  abbrev longest : List Pair
  longest = (rho_from_observed t v observable).longest

  assigned : IsAssignmentAt (case_branches t) (case_offered t) (live_meters (case_branches t) (case_offered t) (length t.meters) ++ []) longest
  assigned =
      let a = (rho_from_observed t v observable).assigns in
      record {
        of_items = λ p i. subst (In p.0) (sym (append-nil (live_meters (case_branches t) (case_offered t) (length t.meters)))) (live_offered t p.0 (a.of_items p i)).1;
        touched = λ p i. subst (In p.1) (sym (ap (touched (case_branches t)) (meter_is_item t p.0 (live_offered t p.0 (a.of_items p i)).0))) (a.touched p i);
        different = a.different;
        forest = a.forest;
      }

  none_complete : CompletesCase t []
  none_complete = record {
    candidates = λ c i. absurd i;
    reached = record {
      longest = longest;
      assigns = assigned;
      long = (rho_from_observed t v observable).long;
      none_longer = λ B b. most_pairs t v (case_offered t) _ B b;
    };
  }

pub observable_costs_nothing : ObservableCostsNothing
observable_costs_nothing t v observable = by (case_placement t) refl
  where
    by : (p : Placed) → case_placement t ≡ p → (plan : PlanValue) × (case_placement t ≡ cheapest plan) × (plan.cost ≡ 0)
    by (cheapest plan) e = (plan, e, omega (arith, plans_are_cheapest t plan [] v e (none_complete t v observable)))
    by (shortfall lack) e = absurd ((shortfalls_refute t lack v e).1 [] (none_complete t v observable))
