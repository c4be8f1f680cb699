-- The queue of a search, as the theory has it, and the closed set that a search without an end leaves.
use Rattle.std.proofs.Common.{◌≡◌, ℕ, ◌<◌, ◌≤◌, Bool, true, false, ◌==◌, ◌&&◌, Option, Some, None, List, length, get_or, take, refl, sym, ap, ◌∙◌, subst, inl, inr, arith, eq-eqb}
use Rattle.std.proofs.lemmas.Bool.{cases_lt, cases_Bool, eqb-true, and_parts, and_from}
use Rattle.std.proofs.lemmas.List.{get_or_default, get_or_past, get_or-take, length-take-le}
use Rattle.obs_graph.specs.declared.Ends.{Ends}
use Rattle.obs_graph.proofs.Counts.{count_below-le-n}
use Rattle.obs_matroid.specs.Lists.{In}
use Rattle.obs_matroid.specs.Assignments.{IsAssignment, Pair}
use Rattle.obs_matroid.specs.inner.Assignments.{others}
use Rattle.obs_matroid.specs.inner.Closed.{HoldsSources, IsClosed, IsLeastClosed}
use Rattle.obs_matroid.specs.Matroid.{Matroid}
use Rattle.obs_matroid.specs.inner.Matroid.{IsMatroid}
use Rattle.obs_matroid.proofs.Closed.{closed_adds_none}
use Rattle.obs_matroid.proofs.Contained.{Contains-from_In, In-get_or, IsDistinct-from_pairs}
use Rattle.obs_matroid.proofs.Queue.{IsQueue, queue_closed}
use Rattle.obs_meter.specs.declared.Touch.{Touch}
use Rattle.obs_meter.specs.Assignments.{IsAssignmentAt}
use Rattle.obs_meter.specs.Spanned.{graph_matroid}
use Rattle.obs_meter.specs.Touches.{every_item, is_live}
use Rattle.obs_meter.proofs.Assigned.{to_matroid}
use Rattle.obs_meter.proofs.Instance.{IsMatroid-graph}
use Rattle.obs_meter.proofs.Touched.{live-from_In}
use Rattle.obs_meter.proofs.Live.{In-every, live_low}
use Rattle.obs_assign.specs.declared.Move.{Move}
use Rattle.obs_assign.specs.Assignment.{Assignment}
use Rattle.obs_assign.specs.inner.Assignment.{branch_at, has_flag, is_frozen, pairs}
use Rattle.obs_assign.specs.inner.Pins.{joins}
use Rattle.obs_assign.proofs.Slotted.{item_slot}
use Rattle.obs_assign.proofs.Standing.{IsAssignmentAt-standing}
use Rattle.obs_exchange.specs.declared.Sources.{Sources}
use Rattle.obs_exchange.specs.declared.Sources.TheVariants.{All, One}
use Rattle.obs_exchange.specs.inner.Closed.{HoldsSourcesAt, IsClosedAt, IsLeastClosedAt, IsSource}
use Rattle.obs_exchange.specs.inner.Found.{AddsSource, AreListed, HasClosed}
use Rattle.obs_exchange.specs.inner.Searching.{AreMarked, HasOrigin, IsDone, IsParent, IsSearching, IsWalked, parent_of, place_of}
use Rattle.obs_exchange.specs.inner.Setting.{IsSound, IsSourceIn, Setting, end_of, first_of, touched_in}
use Rattle.obs_exchange.specs.inner.Trail.{IsRoot, Trail}
use Rattle.obs_exchange.proofs.Beginning.{source_bare}
use Rattle.obs_exchange.proofs.Queued.{has_pair}
use Rattle.obs_exchange.proofs.AtGraph.{bare-from_out, out-from_bare}

-- the matroid of the graph, and whether a meter without a pair is a source
abbrev pub matroid_in : Setting → Matroid
matroid_in over = graph_matroid over.graph.vertices over.graph.ends

abbrev pub source_test : List (Option Ends) → List Touch → Sources → ℕ → Bool
source_test ends touches All m = is_live ends touches m
source_test ends touches (One k) m = (m == k) && is_live ends touches m

abbrev pub passes_in : Setting → ℕ → Bool
passes_in over m = source_test over.graph.ends over.touches over.sources m

source_passes : (ends : List (Option Ends)) (touches : List Touch) (from : Sources) (a : Assignment) (m : ℕ) → IsSource ends touches from a m
    → (source_test ends touches from m ≡ true) × (is_live ends touches m ≡ true)
source_passes ends touches All a m s = (s.0, s.0)
source_passes ends touches (One k) a m s = (and_from (m == k) (is_live ends touches m) (eq-eqb m k s.0) s.1, s.1)

source_from : (ends : List (Option Ends)) (touches : List Touch) (from : Sources) (a : Assignment) (m : ℕ) → source_test ends touches from m ≡ true → branch_at a m ≡ None → IsSource ends touches from a m
source_from ends touches All a m t b = (t, b)
source_from ends touches (One k) a m t b = let p = and_parts (m == k) (is_live ends touches m) t in (eqb-true m k p.0, p.1, b)

-- a source of a search is live, passes the test and has no pair
pub source_in : (over : Setting) (m : ℕ) → IsSourceIn over m
    → (passes_in over m ≡ true) × (is_live over.graph.ends over.touches m ≡ true) × (branch_at over.assignment m ≡ None)
source_in over m s =
    let p = source_passes over.graph.ends over.touches over.sources over.assignment m s in
    (p.0, p.1, source_bare over.graph.ends over.touches over.sources over.assignment m s)

-- the sources that were looked at are all
all_marked : (ends : List (Option Ends)) (touches : List Touch) (from : Sources) (a : Assignment) (marks : List Bool)
    → ((m : ℕ) → first_of from ≤ m → m < end_of from (length touches) → IsSource ends touches from a m → has_flag marks m ≡ true)
    → HoldsSourcesAt ends touches from a (has_flag marks)
all_marked ends touches All a marks h m s = h m (omega arith) (live_low ends touches m s.0) s
all_marked ends touches (One k) a marks h m s = let e = s.0 in h m (omega (arith, e)) (omega (arith, e)) s

abbrev pub root_of : Option Move → Bool
root_of None = true
root_of (Some p) = false

abbrev pub pair_or : Option Move → Pair
pair_or None = (0, 0)
pair_or (Some p) = (p.meter, p.branch)

-- whether a meter was reached by no other, and else by which move
unfoldable pub root_at : Trail → ℕ → Bool
root_at trail x = root_of (parent_of trail x)

unfoldable pub pair_at : Trail → ℕ → Pair
pair_at trail x = pair_or (parent_of trail x)

pub root_none : (trail : Trail) (x : ℕ) → parent_of trail x ≡ None → root_at trail x ≡ true
unfolding root_at
root_none trail x e = ap root_of e

pub root_some : (trail : Trail) (x : ℕ) (p : Move) → parent_of trail x ≡ Some p → root_at trail x ≡ false
unfolding root_at
root_some trail x p e = ap root_of e

pub pair_some : (trail : Trail) (x : ℕ) (p : Move) → parent_of trail x ≡ Some p → pair_at trail x ≡ (p.meter, p.branch)
unfolding pair_at
pair_some trail x p e = ap pair_or e

is_root : (o : Option Move) → root_of o ≡ true → o ≡ None
is_root None t = refl
is_root (Some p) t = absurd (cc t)

is_led : (o : Option Move) → root_of o ≡ false → (p : Move) × (o ≡ Some p)
is_led None t = absurd (cc t)
is_led (Some p) t = (p, refl)

pub from_root : (trail : Trail) (x : ℕ) → root_at trail x ≡ true → parent_of trail x ≡ None
unfolding root_at
from_root trail x t = is_root (parent_of trail x) t

pub from_led : (trail : Trail) (x : ℕ) → root_at trail x ≡ false → (p : Move) × (parent_of trail x ≡ Some p)
unfolding root_at
from_led trail x t = is_led (parent_of trail x) t

module _ (over : Setting) (trail : Trail) (s : IsSearching over trail) where
  -- the entries of the queue are meters
  pub tail_low : trail.tail ≤ length over.touches
  tail_low = let f = s.few in let m = count_below-le-n (has_flag trail.marks) (length over.touches) in omega (arith, f, m)

  pub origin_source : (x : ℕ) → has_flag trail.marks x ≡ true → parent_of trail x ≡ None → IsSourceIn over x
  origin_source x t e = subst (HasOrigin over trail x) e (s.origins x t)

  pub origin_parent : (x : ℕ) (p : Move) → has_flag trail.marks x ≡ true → parent_of trail x ≡ Some p → IsParent over trail x p
  origin_parent x p t e = subst (HasOrigin over trail x) e (s.origins x t)

  -- the queue, as one from the meters that a test passes, where all pass it to which no other led
  pub IsQueue-from : (from : ℕ → Bool) → ((x : ℕ) → IsRoot trail x → from x ≡ true) → IsQueue (matroid_in over) (touched_in over) (every_item over.touches) (is_frozen over.assignment)
      from (pairs over.assignment) (has_flag trail.marks) (root_at trail) (pair_at trail) (place_of trail)
  IsQueue-from from passes = record {
    inside = λ x t. (In-every over.touches x (s.low x t), s.thawed x t);
    roots = λ x t r.
        let e = from_root trail x r in
        let o = source_in over x (origin_source x t e) in
        record { of_items = In-every over.touches x (s.low x t); is_source = passes x (record { marked = t; first = e }); bare = out-from_bare over.assignment x o.2 };
    led = λ x t r.
        let p = from_led trail x r in
        let e : pair_at trail x ≡ (p.0.meter, p.0.branch) = pair_some trail x p.0 p.1 in
        let k = origin_parent x p.0 t p.1 in
        record { earlier = rw e k.marked; before = rw e k.before; touched = rw e k.touched; spanned = rw e k.needed.joined; on_circuit = rw e k.needed.apart };
    in_order = λ x y tx rx ty ry n.
        let p = from_led trail x rx in
        let q = from_led trail y ry in
        let d : pair_at trail x ≡ (p.0.meter, p.0.branch) = pair_some trail x p.0 p.1 in
        let e : pair_at trail y ≡ (q.0.meter, q.0.branch) = pair_some trail y q.0 q.1 in
        let k : joins over.graph.ends (others (pairs over.assignment) x) q.0.branch ≡ false = rw e at n in
        rw (d, e) (s.in_order x y p.0 q.0 tx p.1 ty q.1 k);
  }

  pub IsQueue-search : IsQueue (matroid_in over) (touched_in over) (every_item over.touches) (is_frozen over.assignment)
      (passes_in over) (pairs over.assignment) (has_flag trail.marks) (root_at trail) (pair_at trail) (place_of trail)
  IsQueue-search = IsQueue-from (passes_in over) (λ x r. (source_in over x (origin_source x r.marked r.first)).0)

  flag_taken : (m : ℕ) → has_flag trail.marks m ≡ has_flag (take (length over.touches) trail.marks) m
  flag_taken m = elim (cases_lt m (length over.touches)) [
    | inl l ↦ sym (get_or-take (length over.touches) trail.marks m false l)
    | inr l ↦ elim (cases_Bool (has_flag trail.marks m)) [
      | inl t ↦ let k = s.low m t in absurd (omega (arith, k, l))
      | inr f ↦ f ∙ sym (get_or_past (take (length over.touches) trail.marks) m false (let e = length-take-le (length over.touches) trail.marks s.marks_len in omega (arith, e, l)))
    ]
  ]

  -- the entries of the queue
  pub queue_len : length (take trail.tail trail.queue) ≡ trail.tail
  queue_len = let l = tail_low in let q = s.queue_len in length-take-le trail.tail trail.queue (omega (arith, l, q))

  pub entry_at : (k d : ℕ) → k < length (take trail.tail trail.queue) → get_or (take trail.tail trail.queue) k d ≡ get_or trail.queue k 0
  entry_at k d l =
      let e = queue_len in
      let low = tail_low in
      let q = s.queue_len in
      get_or-take trail.tail trail.queue k d (omega (arith, e, l)) ∙ get_or_default trail.queue k d 0 (omega (arith, e, l, low, q))

  place_at : (k : ℕ) → k < length (take trail.tail trail.queue) → place_of trail (get_or trail.queue k 0) ≡ k
  place_at k l = let e = queue_len in (s.entries k (omega (arith, e, l))).1

  -- the first entries of the queue are just the marked meters, each once
  pub AreListed-queue : AreListed (take (length over.touches) trail.marks) (take trail.tail trail.queue)
  AreListed-queue = record {
    once = IsDistinct-from_pairs (take trail.tail trail.queue) (λ i j d l m e.
        let p = place_at i (omega (arith, l, m)) in
        let q = place_at j m in
        let same : get_or trail.queue i 0 ≡ get_or trail.queue j 0 = sym (entry_at i d (omega (arith, l, m))) ∙ (e ∙ entry_at j d m) in
        let is : i ≡ j = sym p ∙ (ap (place_of trail) same ∙ q) in
        omega (arith, is, l));
    exactly = λ m. (in_queue m, from_queue m);
  }
    where
      in_queue : (m : ℕ) → In m (take trail.tail trail.queue) → has_flag (take (length over.touches) trail.marks) m ≡ true
      in_queue m i =
          let c = Contains-from_In m (take trail.tail trail.queue) i in
          let e = queue_len in
          let l = c.1 in
          let is : get_or trail.queue c.0 0 ≡ m = sym (entry_at c.0 m l) ∙ c.2 in
          sym (flag_taken m) ∙ (ap (has_flag trail.marks) (sym is) ∙ (s.entries c.0 (omega (arith, e, l))).0)

      from_queue : (m : ℕ) → has_flag (take (length over.touches) trail.marks) m ≡ true → In m (take trail.tail trail.queue)
      from_queue m t =
          let p = s.placed m (flag_taken m ∙ t) in
          let e = queue_len in
          let b = p.0 in
          let l : place_of trail m < length (take trail.tail trail.queue) = omega (arith, e, b) in
          subst (λ x. In x (take trail.tail trail.queue)) (entry_at (place_of trail m) 0 l ∙ p.1) (In-get_or (take trail.tail trail.queue) (place_of trail m) 0 l)

  -- a marked meter is live
  pub marked_live : (x : ℕ) → has_flag trail.marks x ≡ true → is_live over.graph.ends over.touches x ≡ true
  marked_live x t = elim (cases_Bool (root_at trail x)) [
    | inl r ↦ (source_in over x (origin_source x t (from_root trail x r))).1
    | inr n ↦
        let p = from_led trail x n in
        let k = (origin_parent x p.0 t p.1).needed in
        let b = item_slot over.assignment.slots x (has_pair over.graph.ends (pairs over.assignment) x p.0.branch k.joined k.apart) in
        live-from_In over.graph.ends over.touches x b.0 (s.sound.stands.touched x b.0 b.1)
  ]

module _ (over : Setting) (sound : IsSound over) where
  pub matroid_laws : IsMatroid (matroid_in over)
  matroid_laws = IsMatroid-graph over.graph.vertices over.graph.ends sound.branches

  in_matroid : (B : List Pair) → IsAssignmentAt over.graph.ends over.touches (every_item over.touches) B → IsAssignment (matroid_in over) (touched_in over) (every_item over.touches) B
  in_matroid B b = to_matroid over.graph.vertices over.graph.ends over.touches (every_item over.touches) B b

  pub own_pairs : IsAssignment (matroid_in over) (touched_in over) (every_item over.touches) (pairs over.assignment)
  own_pairs = in_matroid (pairs over.assignment) (IsAssignmentAt-standing over.assignment over.graph over.touches sound.whole sound.stands)

  pub to_closed : (S : ℕ → Bool) → IsClosedAt over.graph.ends over.touches over.assignment S
      → IsClosed (matroid_in over) (touched_in over) (every_item over.touches) (is_frozen over.assignment) (pairs over.assignment) S
  to_closed S c = record { spanned = λ m e i t k. c.joined m e t k }

  to_holds : (S : ℕ → Bool) → HoldsSourcesAt over.graph.ends over.touches over.sources over.assignment S → HoldsSources (every_item over.touches) (passes_in over) (pairs over.assignment) S
  to_holds S h m i t out = h m (source_from over.graph.ends over.touches over.sources over.assignment m t (bare-from_out over.assignment m out))

  -- a least closed set shows that no assignment adds a source
  adds_none : (S : ℕ → Bool) → IsLeastClosedAt over.graph.ends over.touches over.sources over.assignment S
      → (B : List Pair) → AddsSource over.graph.ends over.touches over.sources over.assignment B → ⊥
  adds_none S c B b = closed_adds_none (matroid_in over) matroid_laws (touched_in over) (every_item over.touches) (is_frozen over.assignment) (pairs over.assignment) B S
      own_pairs (in_matroid B b.assigns) sound.whole.paired.frozen_have b.extends (to_closed S c.closed) b.keeps b.source (c.holds b.source b.is_source)
      (out-from_bare over.assignment b.source (source_in over b.source b.is_source).2) b.adds

  -- the flags of a closed search
  pub HasClosed-flags : (marks : List Bool) (n : ℕ) → n ≡ length over.touches → length over.touches ≤ length marks
      → IsLeastClosedAt over.graph.ends over.touches over.sources over.assignment (has_flag (take (length over.touches) marks))
      → HasClosed over.graph.ends over.touches over.sources over.assignment over.assignment (take n marks)
  HasClosed-flags marks n is l least =
      subst (λ k. HasClosed over.graph.ends over.touches over.sources over.assignment over.assignment (take k marks)) (sym is) (record {
        same = refl;
        flags = length-take-le (length over.touches) marks l;
        least = least;
        none = adds_none (has_flag (take (length over.touches) marks)) least;
      })

-- after a search that came to its end
module _ (over : Setting) (trail : Trail) (s : IsSearching over trail) (done : IsDone trail) where
  walked_all : (m e : ℕ) → has_flag trail.marks m ≡ true → In e (touched_in over m) → IsWalked over trail.marks e
  walked_all m e t i =
      let p = s.placed m t in
      let b = p.0 in
      s.walks e (s.looked (place_of trail m) e (omega (arith, b, done)) (rw p.1 i))

  -- the marked meters are the least closed set of those that a test passes, where all pass it to which no other led
  pub least_from : (from : ℕ → Bool) → ((x : ℕ) → IsRoot trail x → from x ≡ true) → HoldsSources (every_item over.touches) from (pairs over.assignment) (has_flag trail.marks)
      → IsLeastClosed (matroid_in over) (touched_in over) (every_item over.touches) (is_frozen over.assignment) from (pairs over.assignment) (has_flag trail.marks)
  least_from from passes holds =
      queue_closed (matroid_in over) (touched_in over) (every_item over.touches) (is_frozen over.assignment) from (pairs over.assignment)
      (has_flag trail.marks) (root_at trail) (pair_at trail) (place_of trail) (IsQueue-from over trail s from passes) (matroid_laws over s.sound) (own_pairs over s.sound)
      s.sound.whole.paired.frozen_have holds
      (λ m t e i. (walked_all m e t i).joined) (λ m t e i x j n f. (walked_all m e t i).marked x j n f)

  -- closed over the matroid, they are so at the graph
  pub marked_closed : IsClosed (matroid_in over) (touched_in over) (every_item over.touches) (is_frozen over.assignment) (pairs over.assignment) (has_flag trail.marks)
      → IsClosedAt over.graph.ends over.touches over.assignment (has_flag trail.marks)
  marked_closed c = record { live = λ m t. marked_live over trail s m t; joined = λ m e t i. c.spanned m e (In-every over.touches m (s.low m t)) t i }

  module _ (marked : AreMarked over trail.marks (first_of over.sources) (end_of over.sources (length over.touches))) where
    holds : HoldsSourcesAt over.graph.ends over.touches over.sources over.assignment (has_flag trail.marks)
    holds = all_marked over.graph.ends over.touches over.sources over.assignment trail.marks marked

    least_marked : IsLeastClosedAt over.graph.ends over.touches over.sources over.assignment (has_flag trail.marks)
    least_marked =
        let l = least_from (passes_in over) (λ x r. (source_in over x (origin_source over trail s x r.marked r.first)).0) (to_holds over s.sound (has_flag trail.marks) holds) in
        record {
          closed = marked_closed l.closed;
          holds = holds;
          least = λ T c h m t. l.least T (to_closed over s.sound T c) (to_holds over s.sound T h) m t;
        }

    -- the flags of the meters are the least closed set
    pub IsLeastClosedAt-search : IsLeastClosedAt over.graph.ends over.touches over.sources over.assignment (has_flag (take (length over.touches) trail.marks))
    IsLeastClosedAt-search =
        let same : has_flag trail.marks ≡ has_flag (take (length over.touches) trail.marks) = λ i m. flag_taken over trail s m i in
        subst (λ S. IsLeastClosedAt over.graph.ends over.touches over.sources over.assignment S) same least_marked
