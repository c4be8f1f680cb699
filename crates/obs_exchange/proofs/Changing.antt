-- Meters of which one touches something else.
use Rattle.std.proofs.Common.{◌≡◌, ℕ, ◌<◌, ◌≤◌, Bool, true, false, ◌||◌, Option, None, List, length, get_or, set, sym, ap, ◌∙◌, subst, inl, inr}
use Rattle.std.specs.Prelude.{nat_lt}
use Rattle.std.proofs.lemmas.Bool.{cases_eq, or_left, or_right}
use Rattle.std.proofs.lemmas.List.{get_or-set_other, get_or-set_same, length-set, set-get_or, set-set}
use Rattle.obs_graph.specs.declared.Ends.{Ends}
use Rattle.obs_graph.specs.Positions.{AreBranches}
use Rattle.obs_graph.specs.Graph.{Graph}
use Rattle.obs_matroid.specs.Lists.{In}
use Rattle.obs_matroid.specs.Assignments.{Pair, items}
use Rattle.obs_matroid.specs.inner.Closed.{Extends}
use Rattle.obs_matroid.proofs.Closed.{IsClosed-union, closed_longest}
use Rattle.obs_matroid.proofs.Lists.{clash}
use Rattle.obs_matroid.proofs.Pairs.{In-items, same_pair}
use Rattle.obs_meter.specs.declared.Touch.{Touch}
use Rattle.obs_meter.specs.declared.Touch.TheVariants.{Nothing, Edge}
use Rattle.obs_meter.specs.Assignments.{IsAssignmentAt}
use Rattle.obs_meter.specs.Spanned.{graph_matroid}
use Rattle.obs_meter.specs.Touches.{every_item, is_live, live_items, touch_at, touched}
use Rattle.obs_meter.proofs.Assigned.{every-to_live, to_matroid}
use Rattle.obs_meter.proofs.Instance.{IsMatroid-graph}
use Rattle.obs_meter.proofs.Live.{live-from_live_items}
use Rattle.obs_meter.proofs.Touched.{itself_in}
use Rattle.obs_assign.specs.Assignment.{Assignment}
use Rattle.obs_assign.specs.inner.Assignment.{IsWhole, StandsOver, branch_at, is_frozen, pairs}
use Rattle.obs_assign.proofs.Slotted.{none_some}
use Rattle.obs_exchange.specs.declared.Sources.TheVariants.{All as AllSources, One}
use Rattle.obs_exchange.specs.inner.Closed.{IsClosedAt, IsLeastClosedAt}
use Rattle.obs_exchange.proofs.AtGraph.{IsAssignment-live, IsClosed-to_matroid, bare-from_out}
use Rattle.obs_exchange.proofs.Walking.{touched_there}

module _ (ends : List (Option Ends)) (touches : List Touch) (m : ℕ) (t : Touch) where
  -- the others touch what they did
  pub touch_other : (k : ℕ) → (k ≡ m → ⊥) → touch_at ends (set touches m t) k ≡ touch_at ends touches k
  touch_other k n = ap (touched ends) (get_or-set_other touches m k t Nothing n)

  pub live_other : (k : ℕ) → (k ≡ m → ⊥) → is_live ends (set touches m t) k ≡ is_live ends touches k
  live_other k n = ap (λ (l : List ℕ). nat_lt 0 (length l)) (touch_other k n)

  pub touch_changed : m < length touches → touch_at ends (set touches m t) m ≡ touched ends t
  touch_changed l = ap (touched ends) (get_or-set_same touches m t Nothing l)

  -- an assignment in which the meter has nothing that it doesn't touch then
  pub IsAssignmentAt-changed : (B : List Pair) → IsAssignmentAt ends touches (every_item touches) B → ((p : Pair) → In p B → p.0 ≡ m → In p.1 (touch_at ends (set touches m t) m))
      → IsAssignmentAt ends (set touches m t) (every_item (set touches m t)) B
  IsAssignmentAt-changed B b own = record {
    of_items = λ p i. rw (length-set touches m t) (b.of_items p i);
    touched = λ p i. elim (cases_eq p.0 m) [
      | inl y ↦ subst (λ (k : ℕ). In p.1 (touch_at ends (set touches m t) k)) (sym y) (own p i y)
      | inr n ↦ subst (λ (l : List ℕ). In p.1 l) (sym (touch_other p.0 n)) (b.touched p i)
    ];
    different = b.different;
    forest = b.forest;
  }

module _ (g : Graph) (touches : List Touch) (m : ℕ) (t : Touch) where
  -- pairs without the meter stand as well
  pub StandsOver-changed : (a : Assignment) → branch_at a m ≡ None → StandsOver a g touches → StandsOver a g (set touches m t)
  StandsOver-changed a bare s = record {
    forest = s.forest;
    meters = length-set touches m t ∙ s.meters;
    touched = λ k e h. elim (cases_eq k m) [
      | inl y ↦ absurd (none_some e (sym bare ∙ (ap (branch_at a) (sym y) ∙ h)))
      | inr n ↦ subst (λ (l : List ℕ). In e l) (sym (touch_other g.ends touches m t k n)) (s.touched k e h)
    ];
  }

-- set and set back
pub set_back : (touches : List Touch) (m : ℕ) (t : Touch) → set (set touches m t) m (get_or touches m Nothing) ≡ touches
set_back touches m t = set-set touches m t (get_or touches m Nothing) ∙ set-get_or touches m Nothing

module _ (ends : List (Option Ends)) (touches : List Touch) (m : ℕ) (low : m < length touches) where
  -- without what it touches the meter is no source
  pub not_live : is_live ends (set touches m Nothing) m ≡ false
  not_live = ap (λ (l : List ℕ). nat_lt 0 (length l)) (touch_changed ends touches m Nothing low)

  other_live : (k : ℕ) → is_live ends (set touches m Nothing) k ≡ true → k ≡ m → ⊥
  other_live k t y = clash (ap (is_live ends (set touches m Nothing)) (sym y) ∙ t) not_live

  pub IsAssignmentAt-without : (B : List Pair) → IsAssignmentAt ends touches (every_item touches) B → (In m (items B) → ⊥) → IsAssignmentAt ends (set touches m Nothing) (every_item (set touches m Nothing)) B
  IsAssignmentAt-without B b out = IsAssignmentAt-changed ends touches m Nothing B b (λ p i y. absurd (out (subst (λ (k : ℕ). In k (items B)) y (In-items B p i))))

  -- one branch of those that it touches
  module _ (e : ℕ) (i : In e (touch_at ends touches m)) where
    pub edge_touched : In e (touch_at ends (set touches m (Edge e)) m)
    edge_touched = subst (λ (l : List ℕ). In e l) (sym (touch_changed ends touches m (Edge e) low)) (itself_in (get_or ends e None) e (touched_there ends touches m e i))

    pub IsAssignmentAt-edge : (B : List Pair) → IsAssignmentAt ends touches (every_item touches) B → In (m, e) B → IsAssignmentAt ends (set touches m (Edge e)) (every_item (set touches m (Edge e))) B
    IsAssignmentAt-edge B b j = IsAssignmentAt-changed ends touches m (Edge e) B b
        (λ p k y. let same = same_pair B p (m, e) b.different k j y in
        subst (λ (f : ℕ). In f (touch_at ends (set touches m (Edge e)) m)) (sym (ap (λ (q : Pair). q.1) same)) edge_touched)

-- where closed sets of the other meters and of m alone, as if it touched e alone, are known, no assignment in which m has e is longer
module _ (a : Assignment) (g : Graph) (touches : List Touch) (ok : AreBranches g.vertices g.ends) (whole : IsWhole a) (stands : StandsOver a g touches)
    (m e : ℕ) (low : m < length touches) (i : In e (touch_at g.ends touches m)) (bare : branch_at a m ≡ None) (S R : ℕ → Bool)
    (s : IsLeastClosedAt g.ends (set touches m Nothing) AllSources a S) (r : IsLeastClosedAt g.ends (set touches m (Edge e)) (One m) a R) where
  others_closed : IsClosedAt g.ends (set touches m (Edge e)) a S
  others_closed = record {
    live = λ k t. let n = other_live g.ends touches m low k (s.closed.live k t) in
        live_other g.ends touches m (Edge e) k n ∙ (sym (live_other g.ends touches m Nothing k n) ∙ s.closed.live k t);
    joined = λ k f t j. let n = other_live g.ends touches m low k (s.closed.live k t) in
        s.closed.joined k f t (subst (λ (l : List ℕ). In f l) (touch_other g.ends touches m (Edge e) k n ∙ sym (touch_other g.ends touches m Nothing k n)) j);
  }

  source_held : (k : ℕ) → is_live g.ends (set touches m (Edge e)) k ≡ true → branch_at a k ≡ None → (S k || R k) ≡ true
  source_held k t n = elim (cases_eq k m) [
    | inl y ↦ or_right (S k) (R k) (r.holds k (y, t, n))
    | inr o ↦ or_left (S k) (R k) (s.holds k (live_other g.ends touches m Nothing k o ∙ (sym (live_other g.ends touches m (Edge e) k o) ∙ t), n))
  ]

  pub longest_by : (B : List Pair) → IsAssignmentAt g.ends touches (every_item touches) B → Extends (is_frozen a) (pairs a) B → In (m, e) B → length B ≤ length (pairs a)
  longest_by B b x j =
      let n = g.vertices in
      let new = set touches m (Edge e) in
      let M = live_items g.ends new in
      let over = StandsOver-changed g touches m (Edge e) a bare stands in
      let mat = graph_matroid n g.ends in
      let touch = touch_at g.ends new in
      let laws = IsMatroid-graph n g.ends ok in
      closed_longest mat laws touch M (is_frozen a) (pairs a) B (λ k. S k || R k)
      (IsAssignment-live n a g new whole over)
      (to_matroid n g.ends new M B (every-to_live g.ends new B (IsAssignmentAt-edge g.ends touches m low e i B b j)))
      whole.paired.frozen_have x
      (IsClosed-union mat laws touch (is_frozen a) (pairs a) M S R (IsClosed-to_matroid n a g new over M S others_closed) (IsClosed-to_matroid n a g new over M R r.closed))
      (λ k l out. source_held k (live-from_live_items g.ends new k l) (bare-from_out a k out))
