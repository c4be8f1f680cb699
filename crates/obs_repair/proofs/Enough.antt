-- A longest assignment has as many pairs in a component as there can be.
use Rattle.std.proofs.Common.{◌≡◌, ◌↔◌, ℕ, ◌<◌, ◌≤◌, Bool, List, length, refl, sym, ap, ◌∙◌, arith, inl, inr, eqb}
use Rattle.std.specs.Prelude.{◌==◌, IsTrue}
use Rattle.std.proofs.lemmas.Bool.{eq-eqb, eqb-true}
use Rattle.obs_case.specs.Tables.{IsValid, Tables}
use Rattle.obs_matroid.specs.Assignments.{Pair}
use Rattle.obs_matroid.specs.inner.Assignments.{part}
use Rattle.obs_matroid.specs.inner.Closed.{IsLeastClosed, every, none}
use Rattle.obs_matroid.specs.inner.Components.{is_of}
use Rattle.obs_matroid.proofs.Components.{component_longest}
use Rattle.obs_matroid.proofs.Least.{grows_or_closes}
use Rattle.obs_matroid.proofs.Lists.{clash, filter_same}
use Rattle.obs_meter.specs.Assignments.{IsAssignmentAt}
use Rattle.obs_meter.specs.Spanned.{graph_matroid}
use Rattle.obs_meter.specs.Touches.{touch_at}
use Rattle.obs_meter.proofs.Assigned.{from_matroid, live_items-distinct, to_matroid}
use Rattle.obs_meter.proofs.Instance.{IsMatroid-graph}
use Rattle.obs_assign.specs.Assignment.{Assignment}
use Rattle.obs_assign.specs.inner.Assignment.{pairs}
use Rattle.obs_exchange.proofs.AtGraph.{IsAssignment-live}
use Rattle.obs_network.specs.Network.{case_branches, case_component_count, case_meters, case_need, case_vertex_count, network_of}
use Rattle.obs_network.specs.Observable.{IsObservable, branch_component, case_live_meters, item_component}
use Rattle.obs_network.proofs.InComponents.{kinds_sum, touched_component}
use Rattle.obs_network.proofs.Observed.{few_in, pairs_in}
use Rattle.obs_network.proofs.OfCase.{case_branches-are}
use Rattle.obs_kept.specs.inner.Kept.{AreLongest}

module _ (t : Tables) (v : IsValid t) (a : Assignment) (h : AreLongest t a) where
  pub live_pairs : IsAssignmentAt (case_branches t) (case_meters t) (case_live_meters t) (pairs a)
  live_pairs =
      from_matroid (case_vertex_count t) (case_branches t) (case_meters t) (case_live_meters t) (pairs a) (IsAssignment-live (case_vertex_count t) a (network_of t).graph (case_meters t) h.whole h.stands)

  pub least : (S : ℕ → Bool) × IsLeastClosed (graph_matroid (case_vertex_count t) (case_branches t)) (touch_at (case_branches t) (case_meters t)) (case_live_meters t) none every (pairs a) S
  least =
      let n = case_vertex_count t in
      let ends = case_branches t in
      let M = case_live_meters t in
      elim (grows_or_closes (graph_matroid n ends) (IsMatroid-graph n ends (case_branches-are t v)) (touch_at ends (case_meters t)) M none every (pairs a) (live_items-distinct ends (case_meters t))
      (IsAssignment-live n a (network_of t).graph (case_meters t) h.whole h.stands) (λ m s. clash s refl)) [
        | inl b ↦
            let w = h.longest.none_longer b.0 (from_matroid n ends (case_meters t) M b.0 b.2.assigns) in
            let l = b.2.longer in
            absurd (omega (arith, w, l))
        | inr s ↦ s
      ]

  pub in_component : (A : List Pair) → IsAssignmentAt (case_branches t) (case_meters t) (case_live_meters t) A → (c : ℕ) → pairs_in t c A ≡ part (is_of (item_component t (case_meters t)) c) A
  in_component A b c =
      filter_same (λ (p : Pair). branch_component t p.1 == c) (λ (p : Pair). is_of (item_component t (case_meters t)) c p.0) A
      (λ p i. ap (λ (x : ℕ). x == c) (touched_component t v (case_meters t) p.0 p.1 (b.touched p i)))

  -- no assignment has more pairs in a component
  most_in : (c : ℕ) (B : List Pair) → IsAssignmentAt (case_branches t) (case_meters t) (case_live_meters t) B → length (pairs_in t c B) ≤ length (pairs_in t c (pairs a))
  most_in c B b =
      let n = case_vertex_count t in
      let ends = case_branches t in
      let touches = case_meters t in
      let M = case_live_meters t in
      let s = least in
      let most =
      component_longest (graph_matroid n ends) (IsMatroid-graph n ends (case_branches-are t v)) (touch_at ends touches) (branch_component t) (item_component t touches) (kinds_sum t v) (touched_component t v touches) c
      M (pairs a) s.0 (IsAssignment-live n a (network_of t).graph touches h.whole h.stands) s.1.closed s.1.holds B (to_matroid n ends touches M B b) in
      let one = ap (λ (x : List Pair). length x) (in_component B b c) in
      let two = ap (λ (x : List Pair). length x) (in_component (pairs a) live_pairs c) in
      omega (arith, most, one, two)

  pub enough_observable : (c k n : ℕ) → c < case_component_count t → k ≡ length (pairs_in t c (pairs a)) → n ≡ case_need t c → IsTrue (eqb k n) ↔ IsObservable t c
  enough_observable c k n low count need = (
    λ full. record { pairs = pairs a; assigns = live_pairs; enough = sym count ∙ (eqb-true k n full ∙ need) },
    λ o.
        let most = most_in c o.pairs o.assigns in
        let few = few_in t v (case_meters t) (case_live_meters t) (pairs a) live_pairs c low in
        let all = o.enough in
        eq-eqb k n (omega (arith, most, few, all, count, need)),
  )
