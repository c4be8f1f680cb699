-- A meter to which no source leads is critical beside the frozen pairs.
use Rattle.std.proofs.Common.{◌≡◌, ℕ, ◌<◌, ◌≤◌, Bool, true, false, List, length, refl, inl, inr, arith}
use Rattle.std.proofs.lemmas.Bool.{cases_Bool}
use Rattle.obs_graph.specs.Graph.{Graph}
use Rattle.obs_graph.specs.Positions.{AreBranches}
use Rattle.obs_matroid.specs.Lists.{In}
use Rattle.obs_matroid.specs.Assignments.{Pair, items}
use Rattle.obs_matroid.proofs.Closed.{least_not_frozen}
use Rattle.obs_matroid.specs.inner.Closed.{every}
use Rattle.obs_matroid.proofs.Lists.{cases_In}
use Rattle.obs_meter.specs.declared.Touch.{Touch}
use Rattle.obs_meter.specs.Spanned.{graph_matroid}
use Rattle.obs_meter.specs.Touches.{is_live, live_items, touch_at}
use Rattle.obs_meter.proofs.Assigned.{from_matroid, live-to_every, live_items-distinct}
use Rattle.obs_meter.proofs.Instance.{IsMatroid-graph}
use Rattle.obs_assign.specs.Assignment.{Assignment}
use Rattle.obs_assign.specs.inner.Assignment.{IsWhole, StandsOver, has_flag, is_frozen, pairs}
use Rattle.obs_exchange.specs.declared.Sources.TheVariants.{All}
use Rattle.obs_first.specs.inner.Backwards.{HasNoWayTo}
use Rattle.obs_exchange.specs.inner.Closed.{IsLeastClosedAt}
use Rattle.obs_exchange.specs.inner.Longest.{IsMost}
use Rattle.obs_exchange.proofs.AtGraph.{IsAssignment-live, IsLeastClosed-to_matroid}
use Rattle.obs_exchange.proofs.Beside.{critical_beside, longer_or_closed}
use Rattle.obs_first.proofs.Cutting.{kept_without, left_closed, left_holds, own_left}
use Rattle.obs_first.specs.inner.Deciding.{AreCriticalBeside, HasFrozenOf}
use Rattle.obs_first.proofs.Frozen.{HasFrozenOf-pairs}

module _ (g : Graph) (touches : List Touch) (a : Assignment) (loose : List Bool) (long : ℕ) (ok : AreBranches g.vertices g.ends) (whole : IsWhole a) (stands : StandsOver a g touches)
    (critical : AreCriticalBeside g.ends touches a loose long) (enough : long ≤ length (pairs a)) where
  -- the least closed set holds loose meters alone, and no frozen ones
  least_loose : (N : ℕ → Bool) → IsLeastClosedAt g.ends touches All a N → (x : ℕ) → N x ≡ true → (has_flag loose x ≡ true) × (is_frozen a x ≡ false)
  least_loose N least x t =
      let n = g.vertices in
      let M = live_items g.ends touches in
      let mat = graph_matroid n g.ends in
      let laws = IsMatroid-graph n g.ends ok in
      let touch = touch_at g.ends touches in
      let c = IsLeastClosed-to_matroid n a g touches stands N least in
      let own = HasFrozenOf-pairs a a g touches whole stands (λ y f. refl) in
      let live = least.closed.live x t in (
        elim (cases_Bool (has_flag loose x)) [
          | inl y ↦ y
          | inr out ↦ elim (cases_In x (items (pairs a))) [
            | inr bare ↦ let l = critical x live out (pairs a) own bare in absurd (omega (arith, l, enough))
            | inl i ↦
                let k = kept_without mat laws touch M (live_items-distinct g.ends touches) (is_frozen a) (pairs a) (IsAssignment-live n a g touches whole stands) whole.paired.frozen_have N c x t i in
                let l = critical x live out k.0 (record { assigns = live-to_every g.ends touches k.0 (from_matroid n g.ends touches M k.0 k.1); extends = k.2 }) k.4 in
                let e = k.3 in
                absurd (omega (arith, l, e, enough))
          ]
        ],
        least_not_frozen mat laws touch M (is_frozen a) every (pairs a) N whole.paired.frozen_have c x t,
      )

  pub no_way_critical : IsMost g.ends touches long → (m : ℕ) → is_live g.ends touches m ≡ true → HasNoWayTo g.ends touches a loose m
      → (B : List Pair) → HasFrozenOf g.ends touches a B → (In m (items B) → ⊥) → length B < long
  no_way_critical most m live way B h without =
      let own = HasFrozenOf-pairs a a g touches whole stands (λ y f. refl) in
      let most_own = most (pairs a) own.assigns in
      elim (longer_or_closed a g touches ok whole stands) [
        | inl k ↦ let l = most k.0 k.1 in let e = k.3 in absurd (omega (arith, l, e, enough))
        | inr s ↦
            let within = least_loose s.0 s.1 in
            let l = critical_beside a g touches ok whole stands _ (left_closed g touches a ok whole stands loose m way s.0 s.1.closed s.1.holds within)
            (left_holds g touches a ok whole stands loose m way s.0 s.1.closed s.1.holds within) m live (own_left g touches a ok whole stands loose m way s.0 s.1.closed s.1.holds within) B h.assigns h.extends without in
            omega (arith, l, most_own)
      ]
