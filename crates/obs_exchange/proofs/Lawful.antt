-- Critical meters, tight lists and closed sets of a graph.
use Rattle.std.proofs.Common.{◌≡◌, ◌≢◌, ◌↔◌, ℕ, ◌≤◌, Bool, true, false, not, Option, None, List, length, refl, sym, ap, ◌∙◌, inl, inr, ◌&&◌}
use Rattle.std.specs.Prelude.{filter}
use Rattle.std.proofs.lemmas.Bool.{and_from, and_parts, cases_Bool, not-true, not-false}
use Rattle.obs_graph.specs.declared.Ends.{Ends}
use Rattle.obs_graph.specs.Positions.{AreBranches}
use Rattle.obs_graph.specs.Graph.{Graph}
use Rattle.obs_matroid.specs.Lists.{In, IsDistinct, without}
use Rattle.obs_matroid.specs.Assignments.{Pair, items}
use Rattle.obs_matroid.specs.inner.Assignments.{part}
use Rattle.obs_matroid.specs.inner.Closed.{Extends}
use Rattle.obs_matroid.specs.inner.Components.{is_of}
use Rattle.obs_matroid.specs.inner.Critical.{IsCritical}
use Rattle.obs_matroid.specs.Values.{is_critical}
use Rattle.obs_matroid.proofs.Closed.{closed_longest}
use Rattle.obs_matroid.proofs.Components.{component_longest, component_tight}
use Rattle.obs_matroid.proofs.Computed.{is_critical_is}
use Rattle.obs_matroid.proofs.Critical.{closed_tight, longest_from_closed, marks_critical, tight_marks, tight_outside}
use Rattle.std.specs.Cmp.Derive.{one_truth}
use Rattle.obs_matroid.proofs.Lists.{clash}
use Rattle.obs_matroid.proofs.Slots.{slot_at, slot_from}
use Rattle.obs_matroid.proofs.Comparing.{cases_Option}
use Rattle.obs_meter.specs.declared.Touch.{Touch}
use Rattle.obs_meter.specs.Assignments.{IsAssignmentAt, IsRhoAt}
use Rattle.obs_meter.specs.inner.Assignments.{bound_at}
use Rattle.obs_meter.specs.Spanned.{graph_matroid}
use Rattle.obs_meter.specs.Touches.{every_item, is_live, live_items, touch_at}
use Rattle.obs_meter.proofs.Assigned.{every-to_live, live_items-distinct, rho-from_matroid, rho-to_matroid, to_matroid}
use Rattle.obs_meter.proofs.Instance.{IsMatroid-graph}
use Rattle.obs_meter.proofs.Live.{In-live}
use Rattle.obs_assign.specs.Assignment.{Assignment}
use Rattle.obs_assign.specs.inner.Assignment.{IsWhole, StandsOver, branch_at, is_frozen, pairs}
use Rattle.obs_assign.proofs.Slotted.{item_slot, none_some, slot_item}
use Rattle.obs_assign.proofs.Standing.{IsAssignmentAt-standing}
use Rattle.obs_exchange.specs.declared.Found.{Found}
use Rattle.obs_exchange.specs.declared.Found.TheVariants.{Closed, Grown}
use Rattle.obs_exchange.specs.declared.Sources.{Sources}
use Rattle.obs_exchange.specs.Critical.{IsCriticalAt, critical_at}
use Rattle.obs_exchange.specs.inner.Found.{AddsSource, HasGrown, IsFound}
use Rattle.obs_exchange.specs.Laws.{noncritical_in}
use Rattle.obs_exchange.specs.inner.Laws.{HasClosedSet, HoldsNonCritical, IsThawed, JoinsWithinKinds, TouchesOneKind}
use Rattle.obs_exchange.proofs.AtGraph.{IsAssignment-live, IsLeastClosed-thawed, IsLeastClosed-to_matroid}

-- critical over the graph is critical over its matroid
pub IsCritical-to_matroid : (n : ℕ) (ends : List (Option Ends)) (touches : List Touch) (M : List ℕ) (m : ℕ)
    → IsCriticalAt ends touches M m → IsCritical (graph_matroid n ends) (touch_at ends touches) M m
IsCritical-to_matroid n ends touches M m k = λ r s p q. k.falls r s (rho-from_matroid n ends touches M r p) (rho-from_matroid n ends touches (without m M) s q)

pub IsCritical-from_matroid : (n : ℕ) (ends : List (Option Ends)) (touches : List Touch) (M : List ℕ) (m : ℕ)
    → In m M → IsCritical (graph_matroid n ends) (touch_at ends touches) M m → IsCriticalAt ends touches M m
IsCritical-from_matroid n ends touches M m i k =
    record { item = i; falls = λ r s p q. k r s (rho-to_matroid n ends touches M r p) (rho-to_matroid n ends touches (without m M) s q) }

module _ (n : ℕ) (ends : List (Option Ends)) (touches : List Touch) (ok : AreBranches n ends) where
  pub critical_at-exactly : (m : ℕ) → (critical_at n ends touches m ≡ true) ↔ ((is_live ends touches m ≡ true) × IsCriticalAt ends touches (live_items ends touches) m)
  critical_at-exactly m =
      let M = live_items ends touches in
      let is = is_critical_is (graph_matroid n ends) (IsMatroid-graph n ends ok) (touch_at ends touches) M (live_items-distinct ends touches) m in (
        (λ t. let u = and_parts (is_live ends touches m) (is_critical (graph_matroid n ends) (touch_at ends touches) M m) t in
            (u.0, IsCritical-from_matroid n ends touches M m (In-live ends touches m u.0) (is.0 u.1))),
        (λ h. and_from (is_live ends touches m) (is_critical (graph_matroid n ends) (touch_at ends touches) M m) h.0 (is.1 (IsCritical-to_matroid n ends touches M m h.1))),
      )

  module _ (M : List ℕ) (d : IsDistinct M) where
    pub noncritical_in-holds : HoldsNonCritical ends touches M (noncritical_in n ends touches M)
    noncritical_in-holds m i =
        let is = is_critical_is (graph_matroid n ends) (IsMatroid-graph n ends ok) (touch_at ends touches) M d m in (
          (λ f. IsCritical-from_matroid n ends touches M m i (is.0 (not-false (is_critical (graph_matroid n ends) (touch_at ends touches) M m) f))),
          (λ k. ap not (is.1 (IsCritical-to_matroid n ends touches M m k))),
        )

    pub noncritical_tight : (S : ℕ → Bool) → HoldsNonCritical ends touches M S → IsRhoAt ends touches M (bound_at n ends touches S M)
    noncritical_tight S h =
        rho-from_matroid n ends touches M (bound_at n ends touches S M)
        (tight_marks (graph_matroid n ends) (IsMatroid-graph n ends ok) (touch_at ends touches) M S d
        (λ m i. ((λ f. IsCritical-to_matroid n ends touches M m ((h m i).0 f)), (λ k. (h m i).1 (IsCritical-from_matroid n ends touches M m i k)))))

    pub tight_holds : (J : ℕ → Bool) → IsRhoAt ends touches M (bound_at n ends touches J M) → (m : ℕ) → In m M → (IsCriticalAt ends touches M m → ⊥) → J m ≡ true
    tight_holds J t m i out = elim (cases_Bool (J m)) [
      | inl y ↦ y
      | inr f ↦ absurd (out (IsCritical-from_matroid n ends touches M m i
          (tight_outside (graph_matroid n ends) (IsMatroid-graph n ends ok) (touch_at ends touches) M J d (rho-to_matroid n ends touches M (bound_at n ends touches J M) t) m i f)))
    ]

module _ (a : Assignment) (g : Graph) (touches : List Touch) (S : ℕ → Bool) (h : HasClosedSet a g touches S) where
  -- no assignment that has the frozen pairs is longer
  pub frozen_longest : (B : List Pair) → IsAssignmentAt g.ends touches (every_item touches) B → Extends (is_frozen a) (pairs a) B → length B ≤ length (pairs a)
  frozen_longest B b e =
      let n = g.vertices in
      let M = live_items g.ends touches in
      let c = IsLeastClosed-to_matroid n a g touches h.stands S h.least in
      closed_longest (graph_matroid n g.ends) (IsMatroid-graph n g.ends h.branches) (touch_at g.ends touches) M (is_frozen a) (pairs a) B S
      (IsAssignment-live n a g touches h.whole h.stands) (to_matroid n g.ends touches M B (every-to_live g.ends touches B b))
      h.whole.paired.frozen_have e c.closed (λ m i out. c.holds m i refl out)

  module _ (thawed : IsThawed a) where
    pub closed_rho : IsRhoAt g.ends touches (live_items g.ends touches) (length (pairs a))
    closed_rho =
        let n = g.vertices in
        let M = live_items g.ends touches in
        let c = IsLeastClosed-thawed n a g touches h.stands thawed S h.least in
        let A = IsAssignment-live n a g touches h.whole h.stands in
        rho-from_matroid n g.ends touches M (length (pairs a))
        (record { longest = pairs a; assigns = A; long = refl; none_longer = longest_from_closed (graph_matroid n g.ends) (IsMatroid-graph n g.ends h.branches) (touch_at g.ends touches) M (pairs a) S A c.closed c.holds })

    -- the test for critical meters is the mark of a live one that is missing
    pub critical_at-marks : (m : ℕ) → critical_at g.vertices g.ends touches m ≡ (is_live g.ends touches m && not (S m))
    critical_at-marks m =
        let n = g.vertices in
        let M = live_items g.ends touches in
        let mat = graph_matroid n g.ends in
        let touch = touch_at g.ends touches in
        let d = live_items-distinct g.ends touches in
        let laws = IsMatroid-graph n g.ends h.branches in
        let c = IsLeastClosed-thawed n a g touches h.stands thawed S h.least in
        let live = is_live g.ends touches m in
        let is = is_critical_is mat laws touch M d m in
        let marks : In m M → (S m ≡ false) ↔ IsCritical mat touch M m = marks_critical mat laws touch M (pairs a) S d (IsAssignment-live n a g touches h.whole h.stands) c m in
        one_truth (live && is_critical mat touch M m) (live && not (S m))
        (λ t. let u = and_parts live (is_critical mat touch M m) t in
        and_from live (not (S m)) u.0 (ap not ((marks (In-live g.ends touches m u.0)).1 (is.0 u.1))))
        (λ t. let u = and_parts live (not (S m)) t in
        and_from live (is_critical mat touch M m) u.0 (is.1 ((marks (In-live g.ends touches m u.0)).0 (not-true (S m) u.1))))

    pub closed_noncritical : (m : ℕ) → (S m ≡ true) ↔ ((is_live g.ends touches m ≡ true) × (critical_at g.vertices g.ends touches m ≡ false))
    closed_noncritical m =
        let live = is_live g.ends touches m in
        let e = critical_at-marks m in (
          (λ t. let l : live ≡ true = h.least.closed.live m t in (l, e ∙ marked_out live (S m) t)),
          (λ k. marked_from live (S m) k.0 (sym e ∙ k.1)),
        )
      where
        marked_out : (b c : Bool) → c ≡ true → (b && not c) ≡ false
        marked_out true c t = ap not t
        marked_out false c t = refl

        marked_from : (b c : Bool) → b ≡ true → (b && not c) ≡ false → c ≡ true
        marked_from b true t f = refl
        marked_from b false t f = clash (and_from b true t refl) f

    pub closed_tight_at : bound_at g.vertices g.ends touches S (live_items g.ends touches) ≡ length (pairs a)
    closed_tight_at =
        let n = g.vertices in
        let c = IsLeastClosed-thawed n a g touches h.stands thawed S h.least in
        closed_tight (graph_matroid n g.ends) (IsMatroid-graph n g.ends h.branches) (touch_at g.ends touches) (live_items g.ends touches) (pairs a) S (live_items-distinct g.ends touches)
        (IsAssignment-live n a g touches h.whole h.stands) c.closed c.holds

    module _ (kind of : ℕ → ℕ) (sum : JoinsWithinKinds g.ends kind) (own : TouchesOneKind g.ends touches kind of) (K : ℕ) where
      pub component_tight_at : bound_at g.vertices g.ends touches S (filter (is_of of K) (live_items g.ends touches)) ≡ length (part (is_of of K) (pairs a))
      component_tight_at =
          let n = g.vertices in
          let c = IsLeastClosed-thawed n a g touches h.stands thawed S h.least in
          component_tight (graph_matroid n g.ends) (IsMatroid-graph n g.ends h.branches) (touch_at g.ends touches) kind of sum own K (live_items g.ends touches) (pairs a) S
          (live_items-distinct g.ends touches) (IsAssignment-live n a g touches h.whole h.stands) c.closed c.holds

      pub component_longest_at : (B : List Pair) → IsAssignmentAt g.ends touches (every_item touches) B → length (part (is_of of K) B) ≤ length (part (is_of of K) (pairs a))
      component_longest_at B b =
          let n = g.vertices in
          let M = live_items g.ends touches in
          let c = IsLeastClosed-thawed n a g touches h.stands thawed S h.least in
          component_longest (graph_matroid n g.ends) (IsMatroid-graph n g.ends h.branches) (touch_at g.ends touches) kind of sum own K M (pairs a) S
          (IsAssignment-live n a g touches h.whole h.stands) c.closed c.holds B (to_matroid n g.ends touches M B (every-to_live g.ends touches B b))

-- an assignment that has grown adds a source
pub AddsSource-grown : (a b : Assignment) (g : Graph) (touches : List Touch) (from : Sources) (m : ℕ) → IsWhole b → StandsOver b g touches → HasGrown g.ends touches from a b m → AddsSource g.ends touches from a (pairs b)
AddsSource-grown a b g touches from m whole stands h = record {
  assigns = IsAssignmentAt-standing b g touches whole stands;
  extends = λ p i f. slot_at b.slots p.0 p.1 (h.frozen_pairs p.0 f ∙ slot_from a.slots p i);
  keeps = λ x i. paired x (h.keeps x (λ n. let s = item_slot a.slots x i in none_some s.0 (sym n ∙ s.1)));
  source = m;
  is_source = h.source;
  adds = paired m h.gains;
}
  where
    paired : (x : ℕ) → branch_at b x ≢ None → In x (items (pairs b))
    paired x n = elim (cases_Option (branch_at b x)) [ inl e ↦ absurd (n e) | inr s ↦ slot_item b.slots x s.0 s.1 ]

pub Closed-exactly : (a b : Assignment) (g : Graph) (touches : List Touch) (from : Sources) (flags : List Bool) (answer : Found) → IsWhole b → StandsOver b g touches → IsFound g.ends touches from a b flags answer
    → (answer ≡ Closed) ↔ ((B : List Pair) → AddsSource g.ends touches from a B → ⊥)
Closed-exactly a b g touches from flags (Grown m) whole stands h =
    ((λ e. absurd (cc e)), (λ out. absurd (out (pairs b) (AddsSource-grown a b g touches from m whole stands h))))
Closed-exactly a b g touches from flags Closed whole stands h = ((λ e. h.none), (λ out. refl))
