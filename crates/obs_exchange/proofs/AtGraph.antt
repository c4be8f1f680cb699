-- Closed sets of meters are those of the graph's matroid.
use Rattle.std.proofs.Common.{◌≡◌, ℕ, Bool, true, false, None, List, refl, sym, ap, ◌∙◌, subst, inl, inr, ◌||◌, ◌&&◌}
use Rattle.std.proofs.lemmas.Bool.{and_parts, and_from}
use Rattle.obs_graph.specs.Graph.{Graph}
use Rattle.obs_matroid.specs.Lists.{In}
use Rattle.obs_matroid.specs.Assignments.{Pair, items, branches, IsAssignment}
use Rattle.obs_matroid.specs.inner.Assignments.{part}
use Rattle.obs_matroid.specs.inner.Closed.{IsClosed, HoldsSources, IsLeastClosed, every, none}
use Rattle.obs_matroid.proofs.Lists.{filter_same}
use Rattle.obs_matroid.proofs.Comparing.{cases_Option}
use Rattle.obs_matroid.proofs.Slots.{slot_from}
use Rattle.obs_meter.specs.declared.Touch.{Touch}
use Rattle.obs_meter.specs.Spanned.{graph_matroid}
use Rattle.obs_meter.specs.Touches.{is_live, live_items, touch_at}
use Rattle.obs_meter.proofs.Assigned.{every-to_live, to_matroid}
use Rattle.obs_meter.proofs.Touched.{live-from_In}
use Rattle.obs_meter.proofs.Live.{In-live, live-from_live_items}
use Rattle.obs_assign.specs.Assignment.{Assignment}
use Rattle.obs_assign.specs.inner.Assignment.{IsWhole, StandsOver, branch_at, is_frozen, pairs}
use Rattle.obs_assign.proofs.Slotted.{item_slot, none_some, slot_item}
use Rattle.obs_assign.proofs.Standing.{IsAssignmentAt-standing}
use Rattle.obs_exchange.specs.declared.Sources.TheVariants.{All}
use Rattle.obs_exchange.specs.inner.Closed.{HoldsSourcesAt, IsClosedAt, IsLeastClosedAt}

-- a meter that is not among the items of the pairs has no branch, and the other way round
pub bare-from_out : (a : Assignment) (m : ℕ) → (In m (items (pairs a)) → ⊥) → branch_at a m ≡ None
bare-from_out a m out = elim (cases_Option (branch_at a m)) [ inl n ↦ n | inr s ↦ absurd (out (slot_item a.slots m s.0 s.1)) ]

pub out-from_bare : (a : Assignment) (m : ℕ) → branch_at a m ≡ None → In m (items (pairs a)) → ⊥
out-from_bare a m n i = let s = item_slot a.slots m i in none_some s.0 (sym n ∙ s.1)

-- an assignment that stands is one of the live meters over the matroid
pub IsAssignment-live : (n : ℕ) (a : Assignment) (g : Graph) (touches : List Touch) → IsWhole a → StandsOver a g touches → IsAssignment (graph_matroid n g.ends) (touch_at g.ends touches) (live_items g.ends touches) (pairs a)
IsAssignment-live n a g touches w s =
    to_matroid n g.ends touches (live_items g.ends touches) (pairs a) (every-to_live g.ends touches (pairs a) (IsAssignmentAt-standing a g touches w s))

-- the meters with pairs touch their branches, so they are live
pub live-from_pair : (a : Assignment) (g : Graph) (touches : List Touch) (p : Pair) → StandsOver a g touches → In p (pairs a) → is_live g.ends touches p.0 ≡ true
live-from_pair a g touches p s i = live-from_In g.ends touches p.0 p.1 (s.touched p.0 p.1 (slot_from a.slots p i))

module _ (n : ℕ) (a : Assignment) (g : Graph) (touches : List Touch) (stands : StandsOver a g touches) where
  -- a closed set of live meters is closed over the matroid
  pub IsClosed-to_matroid : (M : List ℕ) (S : ℕ → Bool) → IsClosedAt g.ends touches a S → IsClosed (graph_matroid n g.ends) (touch_at g.ends touches) M (is_frozen a) (pairs a) S
  IsClosed-to_matroid M S c = record { spanned = λ m e i t j. c.joined m e t j }

  -- the live ones of a closed set are closed
  pub IsClosed-from_matroid : (T : ℕ → Bool) → IsClosed (graph_matroid n g.ends) (touch_at g.ends touches) (live_items g.ends touches) (is_frozen a) (pairs a) T
      → IsClosedAt g.ends touches a (λ m. T m && is_live g.ends touches m)
  IsClosed-from_matroid T c =
      let same : part (λ m. T m || is_frozen a m) (pairs a) ≡ part (λ m. (T m && is_live g.ends touches m) || is_frozen a m) (pairs a) =
      filter_same (λ (p : Pair). T p.0 || is_frozen a p.0) (λ (p : Pair). (T p.0 && is_live g.ends touches p.0) || is_frozen a p.0) (pairs a)
      (λ p i. ap (λ b. b || is_frozen a p.0) (with_true (T p.0) (is_live g.ends touches p.0) (live-from_pair a g touches p stands i))) in
      record {
        live = λ m t. (and_parts (T m) (is_live g.ends touches m) t).1;
        joined = λ m e t j.
            let u = and_parts (T m) (is_live g.ends touches m) t in
            subst (λ (A : List Pair). (graph_matroid n g.ends).spans (branches A) e ≡ true) same (c.spanned m e (In-live g.ends touches m u.1) u.0 j);
      }
    where
      with_true : (b c : Bool) → c ≡ true → b ≡ (b && c)
      with_true true c t = sym t
      with_true false c t = refl

  pub HoldsSources-to_matroid : (S : ℕ → Bool) → HoldsSourcesAt g.ends touches All a S → HoldsSources (live_items g.ends touches) every (pairs a) S
  HoldsSources-to_matroid S h = λ m i f out. h m (live-from_live_items g.ends touches m i, bare-from_out a m out)

  -- the least closed set of all live sources
  pub IsLeastClosed-to_matroid : (S : ℕ → Bool) → IsLeastClosedAt g.ends touches All a S
      → IsLeastClosed (graph_matroid n g.ends) (touch_at g.ends touches) (live_items g.ends touches) (is_frozen a) every (pairs a) S
  IsLeastClosed-to_matroid S c = record {
    closed = IsClosed-to_matroid (live_items g.ends touches) S c.closed;
    holds = HoldsSources-to_matroid S c.holds;
    least = λ T k h m t.
        let holds : HoldsSourcesAt g.ends touches All a (λ x. T x && is_live g.ends touches x) = λ x source.
        and_from (T x) (is_live g.ends touches x) (h x (In-live g.ends touches x source.0) refl (out-from_bare a x source.1)) source.0 in
        (and_parts (T m) (is_live g.ends touches m) (c.least (λ x. T x && is_live g.ends touches x) (IsClosed-from_matroid T k) holds m t)).0;
  }

  -- where nothing is frozen
  pub IsLeastClosed-thawed : ((m : ℕ) → is_frozen a m ≡ false) → (S : ℕ → Bool) → IsLeastClosedAt g.ends touches All a S
      → IsLeastClosed (graph_matroid n g.ends) (touch_at g.ends touches) (live_items g.ends touches) none every (pairs a) S
  IsLeastClosed-thawed thawed S c =
      let same : is_frozen a ≡ none = λ i m. thawed m i in
      subst (λ (f : ℕ → Bool). IsLeastClosed (graph_matroid n g.ends) (touch_at g.ends touches) (live_items g.ends touches) f every (pairs a) S) same (IsLeastClosed-to_matroid S c)
