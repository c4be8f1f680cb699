-- Which meters are critical beside the frozen pairs, and what there is where the pairs can't grow beside them.
use Rattle.std.proofs.Common.{◌≡◌, ℕ, suc, ◌<◌, ◌≤◌, ◌⊎◌, Bool, true, false, not, ◌||◌, ◌&&◌, List, ◌∷◌, length, refl, sym, ap, ◌∙◌, inl, inr, arith}
use Rattle.std.proofs.lemmas.Bool.{cases_Bool, and_from, and_parts, not-true, or_parts}
use Rattle.obs_graph.specs.Graph.{Graph}
use Rattle.obs_graph.specs.Positions.{AreBranches}
use Rattle.obs_matroid.specs.Lists.{In}
use Rattle.obs_matroid.specs.Assignments.{Pair, items}
use Rattle.obs_matroid.specs.inner.Assignments.{part}
use Rattle.obs_matroid.specs.inner.Closed.{Extends, IsLeastClosed, every}
use Rattle.obs_matroid.proofs.Bounds.{length-items, length-parts}
use Rattle.obs_matroid.proofs.Closed.{closed_count}
use Rattle.obs_matroid.proofs.Least.{grows_or_closes}
use Rattle.obs_matroid.proofs.Lists.{In_same, cases_In, clash, length-within}
use Rattle.obs_matroid.proofs.Pairs.{In-items, In-items_from, In-part, In-part_from, IsDistinct-part}
use Rattle.obs_meter.specs.declared.Touch.{Touch}
use Rattle.obs_meter.specs.Assignments.{IsAssignmentAt}
use Rattle.obs_meter.specs.Spanned.{graph_matroid}
use Rattle.obs_meter.specs.Touches.{every_item, is_live, live_items, touch_at}
use Rattle.obs_meter.proofs.Assigned.{every-to_live, from_matroid, live-to_every, live_items-distinct, to_matroid}
use Rattle.obs_meter.proofs.Instance.{IsMatroid-graph}
use Rattle.obs_meter.proofs.Live.{In-live, live-from_live_items}
use Rattle.obs_assign.specs.Assignment.{Assignment}
use Rattle.obs_assign.specs.inner.Assignment.{IsWhole, StandsOver, is_frozen, pairs}
use Rattle.obs_exchange.specs.declared.Sources.TheVariants.{All}
use Rattle.obs_exchange.specs.inner.Closed.{HoldsSourcesAt, IsClosedAt, IsLeastClosedAt}
use Rattle.obs_exchange.proofs.AtGraph.{HoldsSources-to_matroid, IsAssignment-live, IsClosed-from_matroid, IsClosed-to_matroid, bare-from_out, out-from_bare}

module _ (a : Assignment) (g : Graph) (touches : List Touch) (ok : AreBranches g.vertices g.ends) (whole : IsWhole a) (stands : StandsOver a g touches) where
  -- where a closed set holds the live sources, no assignment that has the frozen pairs and nothing for a live meter outside is as long
  pub critical_beside : (S : ℕ → Bool) → IsClosedAt g.ends touches a S → HoldsSourcesAt g.ends touches All a S → (m : ℕ) → is_live g.ends touches m ≡ true → S m ≡ false
      → (B : List Pair) → IsAssignmentAt g.ends touches (every_item touches) B → Extends (is_frozen a) (pairs a) B → (In m (items B) → ⊥) → length B < length (pairs a)
  critical_beside S closed holds m live outside B b e without =
      let n = g.vertices in
      let M = live_items g.ends touches in
      let A = pairs a in
      let T : ℕ → Bool = λ x. S x || is_frozen a x in
      let N : ℕ → Bool = λ x. not (S x || is_frozen a x) in
      let bm = to_matroid n g.ends touches M B (every-to_live g.ends touches B b) in
      let c = closed_count (graph_matroid n g.ends) (IsMatroid-graph n g.ends ok) (touch_at g.ends touches) M (is_frozen a) A B S
      (IsAssignment-live n a g touches whole stands) bm whole.paired.frozen_have e (IsClosed-to_matroid n a g touches stands M S closed) in
      let paired : (x : ℕ) → is_live g.ends touches x ≡ true → S x ≡ false → In x (items A) =
      λ x l f. elim (cases_In x (items A)) [ inl i ↦ i | inr o ↦ clash (holds x (l, bare-from_out a x o)) f ] in
      let thawed : is_frozen a m ≡ false = elim (cases_Bool (is_frozen a m)) [
        | inr f ↦ f
        | inl t ↦
            let v = In-items_from A m (whole.paired.frozen_have m t) in
            absurd (without (In_same m v.0.0 (items B) v.2 (In-items B v.0 (e v.0 v.1 (ap (is_frozen a) (sym v.2) ∙ t)))))
      ] in
      let kept : (x : ℕ) → In x (items A) → N x ≡ true → In x (items (part N A)) =
      λ x i t. let v = In-items_from A x i in In_same x v.0.0 (items (part N A)) v.2 (In-items (part N A) v.0 (In-part N A v.0 v.1 (ap N (sym v.2) ∙ t))) in
      let own : N m ≡ true = ap (λ k. not (k || is_frozen a m)) outside ∙ ap not thawed in
      let w : suc (length (items (part N B))) ≤ length (items (part N A)) =
      length-within (m ∷ items (part N B)) (items (part N A))
      ((λ j. let v = In-items_from (part N B) m j in without (In_same m v.0.0 (items B) v.2 (In-items B v.0 (In-part_from N B v.0 v.1).0))), IsDistinct-part N B b.different)
      (λ x j. elim j [
        | inl y ↦ In_same x m (items (part N A)) y (kept m (paired m live outside) own)
        | inr k ↦
            let v = In-items_from (part N B) x k in
            let u = In-part_from N B v.0 v.1 in
            let none = (or_parts (S v.0.0) (is_frozen a v.0.0) (not-true (S v.0.0 || is_frozen a v.0.0) u.1)).0 in
            In_same x v.0.0 (items (part N A)) v.2 (kept v.0.0 (paired v.0.0 (live-from_live_items g.ends touches v.0.0 (bm.of_items v.0 u.0)) none) u.1)
      ]) in
      let la = length-parts T A in
      let lb = length-parts T B in
      let na : length (items (part N A)) ≡ length (part N A) = length-items (part N A) in
      let nb : length (items (part N B)) ≡ length (part N B) = length-items (part N B) in
      omega (arith, c, w, la, lb, na, nb)

  -- of the least closed set over the matroid the live ones
  IsLeastClosed-from_matroid : (S : ℕ → Bool) → IsLeastClosed (graph_matroid g.vertices g.ends) (touch_at g.ends touches) (live_items g.ends touches) (is_frozen a) every (pairs a) S
      → IsLeastClosedAt g.ends touches All a (λ m. S m && is_live g.ends touches m)
  IsLeastClosed-from_matroid S c = record {
    closed = IsClosed-from_matroid g.vertices a g touches stands S c.closed;
    holds = λ m source. and_from (S m) (is_live g.ends touches m) (c.holds m (In-live g.ends touches m source.0) refl (out-from_bare a m source.1)) source.0;
    least = λ T closed holds m t.
        c.least T (IsClosed-to_matroid g.vertices a g touches stands (live_items g.ends touches) T closed) (HoldsSources-to_matroid g.vertices a g touches stands T holds) m
        (and_parts (S m) (is_live g.ends touches m) t).0;
  }

  -- an assignment that has the frozen pairs is longer by one, or there is a least closed set that holds the live sources
  pub longer_or_closed : ((B : List Pair) × IsAssignmentAt g.ends touches (every_item touches) B × Extends (is_frozen a) (pairs a) B × (length B ≡ suc (length (pairs a))))
      ⊎ ((S : ℕ → Bool) × IsLeastClosedAt g.ends touches All a S)
  longer_or_closed =
      let n = g.vertices in
      let M = live_items g.ends touches in
      elim (grows_or_closes (graph_matroid n g.ends) (IsMatroid-graph n g.ends ok) (touch_at g.ends touches) M (is_frozen a) every (pairs a)
      (live_items-distinct g.ends touches) (IsAssignment-live n a g touches whole stands) whole.paired.frozen_have) [
        | inl h ↦ inl (h.0, live-to_every g.ends touches h.0 (from_matroid n g.ends touches M h.0 h.2.assigns), h.2.extends, h.2.longer)
        | inr s ↦ inr ((λ m. s.0 m && is_live g.ends touches m), IsLeastClosed-from_matroid s.0 s.1)
      ]
