-- The bound of a shortfall refutes that any candidates complete the meters; and idle candidates only cost.
use Rattle.std.proofs.Common.{◌≡◌, ℕ, ◌+◌, ◌≤◌, ◌<◌, not, Option, List, ◌++◌, length, refl, arith, inl, inr, nat_lt}
use Rattle.std.specs.Prelude.{filter}
use Rattle.std.specs.List.{sum_by}
use Rattle.std.proofs.lemmas.List.Filters.{sum_by-filter_both}
use Rattle.obs_graph.specs.declared.Ends.{Ends}
use Rattle.obs_graph.specs.Positions.{AreBranches}
use Rattle.obs_matroid.specs.inner.Assignments.{IsRho}
use Rattle.obs_matroid.specs.Values.{rho_of}
use Rattle.obs_matroid.proofs.Computed.{noncritical_tight, rho_of_is}
use Rattle.obs_matroid.proofs.Critical.{rho_same}
use Rattle.obs_matroid.proofs.Lists.{In-append_cases, In-filter_from}
use Rattle.obs_matroid.proofs.Placement.{IsAssignment-items}
use Rattle.obs_meter.specs.declared.Touch.{Touch}
use Rattle.obs_meter.specs.Assignments.{IsRhoAt, rho_at}
use Rattle.obs_meter.specs.Spanned.{graph_matroid}
use Rattle.obs_meter.specs.Touches.{is_live, live_items, touch_at}
use Rattle.obs_meter.proofs.Assigned.{live_items-distinct, rho-to_matroid}
use Rattle.obs_meter.proofs.Instance.{IsMatroid-graph}
use Rattle.obs_meter.proofs.Live.{In-live}
use Rattle.obs_rankcut.proofs.Costs.{live_ones}
use Rattle.obs_meter.specs.Costs.{Completes, live_meters, price_of}
use Rattle.obs_placement.specs.Answer.{chosen_of, cost_of}
use Rattle.obs_placement.specs.Placed.{shortfall_of}
use Rattle.obs_placement.proofs.Positions.{cost_least}

bound_longest : (n : ℕ) (ends : List (Option Ends)) (touches : List Touch) (needed : ℕ) → AreBranches n ends
    → IsRho (graph_matroid n ends) (touch_at ends touches) (live_items ends touches) ((shortfall_of n ends touches needed).rank + (shortfall_of n ends touches needed).outside)
bound_longest n ends touches needed ok = noncritical_tight (graph_matroid n ends) (IsMatroid-graph n ends ok) (touch_at ends touches) (live_items ends touches) (live_items-distinct ends touches)

pub bound_reached : (n : ℕ) (ends : List (Option Ends)) (touches : List Touch) (needed : ℕ) → AreBranches n ends
    → (shortfall_of n ends touches needed).rank + (shortfall_of n ends touches needed).outside ≡ rho_at n ends touches (live_items ends touches)
bound_reached n ends touches needed ok =
    let mat = graph_matroid n ends in
    let touch = touch_at ends touches in
    let M = live_items ends touches in
    let b = shortfall_of n ends touches needed in
    rho_same mat touch M (b.rank + b.outside) (rho_of mat touch M) (bound_longest n ends touches needed ok)
    (rho_of_is mat (IsMatroid-graph n ends ok) touch M (live_items-distinct ends touches))

pub bound_refutes : (n : ℕ) (ends : List (Option Ends)) (touches : List Touch) (meters needed : ℕ) (X : List ℕ) → AreBranches n ends
    → (shortfall_of n ends touches needed).rank + (shortfall_of n ends touches needed).outside < needed → Completes ends touches meters needed X → ⊥
bound_refutes n ends touches meters needed X ok low c =
    let N = live_meters ends touches meters ++ filter (is_live ends touches) X in
    let r = rho-to_matroid n ends touches N needed c.reached in
    let a = IsAssignment-items (graph_matroid n ends) (IsMatroid-graph n ends ok) (touch_at ends touches) N (live_items ends touches) r.longest r.assigns (λ p i.
    elim (In-append_cases p.0 (live_meters ends touches meters) (filter (is_live ends touches) X) (r.assigns.of_items p i)) [
      | inl j ↦ (In-filter_from (λ m. nat_lt m meters) p.0 (live_items ends touches) j).0
      | inr j ↦ In-live ends touches p.0 (In-filter_from (is_live ends touches) p.0 X j).1
    ]) in
    let k = (bound_longest n ends touches needed ok).none_longer r.longest a in
    let e = r.long in
    omega (arith, k, e, low)

pub none_for_less : (n : ℕ) (ends : List (Option Ends)) (touches : List Touch) (meters needed : ℕ) (prices X : List ℕ) → AreBranches n ends → length touches ≡ meters + length prices
    → IsRhoAt ends touches (live_items ends touches) needed → Completes ends touches meters needed X
    → cost_of prices (chosen_of n ends touches meters prices) ≤ sum_by (price_of meters prices) X
none_for_less n ends touches meters needed prices X ok size all c =
    let l = cost_least n ends touches meters needed prices (filter (is_live ends touches) X) ok size all (live_ones ends touches meters needed X c) in
    let s = sum_by-filter_both (is_live ends touches) (λ x. not (is_live ends touches x)) (λ x. refl) (price_of meters prices) X in
    omega (arith, l, s)
