-- The items that are used still, and the pairs that these have.
use Rattle.std.proofs.Common.{◌≡◌, ℕ, ◌+◌, ◌<◌, List, length, get_or, set, refl, sym, ap, ◌∙◌, inl, inr, ◌⊎◌, Bool, true, false, not, Option, Some, None, subst, arith}
use Rattle.std.specs.Prelude.{is_some, nat_lt}
use Rattle.std.proofs.lemmas.Bool.{cases_eq, not-true}
use Rattle.std.proofs.lemmas.List.{get_or-set_other, get_or-set_same}
use Rattle.std.proofs.lemmas.List.FromFn.{length-range_with_len}
use Rattle.obs_graph.specs.declared.Ends.{Ends}
use Rattle.obs_graph.specs.Joined.{first_joined}
use Rattle.obs_graph.specs.Positions.{AreBranches, ends_of, present}
use Rattle.obs_graph.specs.Graph.{Graph}
use Rattle.obs_graph.proofs.AtPositions.{contains-ends_of, ends_of-contains, some_of}
use Rattle.obs_graph.proofs.Forests.{AreAmong, same_first-among}
use Rattle.obs_graph.proofs.IsJoined.{false-from_apart, true-from_same}
use Rattle.obs_graph.proofs.Present.{contains_present, present_contains, some_is_in}
use Rattle.obs_matroid.specs.Lists.{In}
use Rattle.obs_matroid.specs.Assignments.{Pair, branches, items}
use Rattle.obs_matroid.specs.inner.Assignments.{part}
use Rattle.obs_matroid.proofs.Bounds.{length-items}
use Rattle.obs_matroid.proofs.Contained.{Contains-from_In, In-from_Contains}
use Rattle.obs_matroid.proofs.Islands.{HoldsInside}
use Rattle.obs_matroid.proofs.Lists.{clash, In_same, length-within}
use Rattle.obs_matroid.proofs.Pairs.{In-branches, In-branches_from, In-items, In-items_from, In-part, In-part_from, IsDistinct-part, independent_part}
use Rattle.obs_matroid.proofs.Slots.{slot_at, slot_from}
use Rattle.obs_meter.specs.declared.Touch.{Touch}
use Rattle.obs_meter.specs.declared.Touch.TheVariants.{Nothing, Edge, Star, Front}
use Rattle.obs_meter.specs.Spanned.{ends_at, graph_matroid, joined_at}
use Rattle.obs_meter.specs.Touches.{every_item, live_items, touch_at, touched}
use Rattle.obs_meter.proofs.Assigned.{live_items-distinct}
use Rattle.obs_meter.proofs.Touched.{live-from_In}
use Rattle.obs_meter.proofs.Live.{In-live, live-from_live_items}
use Rattle.obs_assign.specs.Assignment.{Assignment}
use Rattle.obs_assign.specs.inner.Assignment.{branch_at, pairs}
use Rattle.obs_assign.proofs.Slotted.{branch_slot, none_some, slot_branch}
use Rattle.obs_exchange.specs.inner.Longest.{IsLongest, IsMost}
use Rattle.obs_islands.specs.Islands.{every_vertex}
use Rattle.obs_islands.specs.inner.Left.{AreLeft, HasLeft, IsLeftAt, is_nothing}
use Rattle.obs_islands.proofs.Over.{IsClosedOver, IsOver, all_pairs, laws}

-- each item touches what it touched at first, or was discarded
abbrev pub IsUsedOf : List Touch → List Touch → Type 0
IsUsedOf ts us = (m : ℕ) → (get_or us m Nothing ≡ get_or ts m Nothing) ⊎ (get_or us m Nothing ≡ Nothing)

-- no live item that lies inside a set that is spanned from inside was discarded
abbrev pub HoldsAll : Graph → List Touch → List Touch → Type 0
HoldsAll g ts us =
    HoldsInside (ends_at g.ends) (graph_matroid g.vertices g.ends) (touch_at g.ends ts) (every_vertex g.vertices) (live_items g.ends ts) (live_items g.ends us)

-- no assignment has more pairs than there are items
pub most_items : (ends : List (Option Ends)) (touches : List Touch) → IsMost ends touches (length touches)
most_items ends touches B b =
    let within = length-within (items B) (every_item touches) b.different
    (λ x i. let p = In-items_from B x i in In_same x p.0.0 (every_item touches) p.2 (b.of_items p.0 p.1)) in
    let pairs = length-items B in
    let all = length-range_with_len 0 (length touches) in
    omega (arith, within, pairs, all)

-- what touches a branch isn't nothing
pub something : (ends : List (Option Ends)) (t : Touch) (e : ℕ) → In e (touched ends t) → is_nothing t ≡ false
something ends Nothing e i = absurd i
something ends (Edge p) e i = refl
something ends (Star v) e i = refl
something ends (Front v count) e i = refl

-- nor is what is live
live_something : (ends : List (Option Ends)) (t : Touch) → nat_lt 0 (length (touched ends t)) ≡ true → not (is_nothing t) ≡ true
live_something ends Nothing l = clash l refl
live_something ends (Edge p) l = refl
live_something ends (Star v) l = refl
live_something ends (Front v count) l = refl

-- whether the item is used still
abbrev pub stays : List Touch → ℕ → Bool
stays us m = not (is_nothing (get_or us m Nothing))

-- the pairs of the items that are
abbrev pub left_pairs : List Touch → Assignment → List Pair
left_pairs us a = part (stays us) (pairs a)

-- one position more is written
pub left_more : (ends : List (Option Ends)) (us : List Touch) (a : Assignment) (held : List (Option Ends)) (e : ℕ) (o : Option Ends) → e < length held
    → ((k : ℕ) → k < e → IsLeftAt ends us a k (get_or held k None)) → IsLeftAt ends us a e o → (k : ℕ) → k < e + 1 → IsLeftAt ends us a k (get_or (set held e o) k None)
left_more ends us a held e o low done this k l = elim (cases_eq k e) [
  | inl s ↦ subst (λ (j : ℕ). IsLeftAt ends us a j (get_or (set held e o) j None)) (sym s) (subst (λ (x : Option Ends). IsLeftAt ends us a e x) (sym (get_or-set_same held e o None low)) this)
  | inr n ↦ subst (λ (x : Option Ends). IsLeftAt ends us a k x) (sym (get_or-set_other held e k o None n)) (done k (omega (arith, l, n)))
]

module _ (us : List Touch) (a : Assignment) where
  pub pair_left : (m e : ℕ) → HasLeft us a e m → In (m, e) (left_pairs us a)
  pair_left m e w = In-part (stays us) (pairs a) (m, e) (slot_at a.slots m e w.has) (ap not w.used)

  pub branch_left : (m e : ℕ) → HasLeft us a e m → In e (branches (left_pairs us a))
  branch_left m e w = In-branches (left_pairs us a) (m, e) (pair_left m e w)

  pub left_from : (e : ℕ) → In e (branches (left_pairs us a)) → (m : ℕ) × HasLeft us a e m
  left_from e i =
      let q = In-branches_from (left_pairs us a) e i in
      let w = In-part_from (stays us) (pairs a) q.0 q.1 in
      (q.0.0, record { has = slot_from a.slots q.0 w.0 ∙ ap Some (sym q.2); used = not-true (is_nothing (get_or us q.0.0 Nothing)) w.1 })

  pub bare_out : (m : ℕ) → branch_at a m ≡ None → In m (items (left_pairs us a)) → ⊥
  bare_out m n i =
      let q = In-items_from (left_pairs us a) m i in
      let w = In-part_from (stays us) (pairs a) q.0 q.1 in
      none_some q.0.1 (sym n ∙ (ap (branch_at a) q.2 ∙ slot_from a.slots q.0 w.0))

module _ (g : Graph) (us : List Touch) (a : Assignment) (held : List (Option Ends)) (left : AreLeft g.ends us a held) where
  among_left : AreAmong (present held) (ends_of g.ends (branches (left_pairs us a)))
  among_left e c =
      let r = present_contains held e c in
      let o = (left.at r.0 (some_is_in held r.0 e r.1)).only e r.1 in
      contains-ends_of g.ends (branches (left_pairs us a)) r.0 e (Contains-from_In r.0 (branches (left_pairs us a)) (branch_left us a o.1.0 r.0 o.1.1)) o.0

  among_held : AreAmong (ends_of g.ends (branches (left_pairs us a))) (present held)
  among_held e c =
      let r = ends_of-contains g.ends (branches (left_pairs us a)) e c in
      let w = left_from us a r.0 (In-from_Contains r.0 (branches (left_pairs us a)) r.1) in
      let low = some_is_in g.ends r.0 e r.2 in
      contains_present held r.0 e ((left.at r.0 (subst (λ n. r.0 < n) (sym left.one_each) low)).left w.0 w.1 ∙ r.2)

  -- what the held branches join, the branches of the pairs that are left do
  pub joined-left : (u v : ℕ) → first_joined (present held) u ≡ first_joined (present held) v → joined_at g.ends (branches (left_pairs us a)) u v ≡ true
  joined-left u v s = true-from_same (ends_of g.ends (branches (left_pairs us a))) u v (same_first-among (present held) (ends_of g.ends (branches (left_pairs us a))) among_left u v s)

  pub apart-left : (u v : ℕ) → (first_joined (present held) u ≡ first_joined (present held) v → ⊥) → joined_at g.ends (branches (left_pairs us a)) u v ≡ false
  apart-left u v n = false-from_apart (ends_of g.ends (branches (left_pairs us a))) u v (λ s. n (same_first-among (ends_of g.ends (branches (left_pairs us a))) (present held) among_held u v s))

module _ (g : Graph) (ts us : List Touch) (used : IsUsedOf ts us) where
  -- a live item touches what it touched at first
  pub used_touch : (m : ℕ) → In m (live_items g.ends us) → touch_at g.ends us m ≡ touch_at g.ends ts m
  used_touch m i = elim (used m) [
    | inl e ↦ ap (touched g.ends) e
    | inr e ↦ clash (rw e at (live-from_live_items g.ends us m i)) refl
  ]

  pub used_live : (m : ℕ) → In m (live_items g.ends us) → In m (live_items g.ends ts)
  used_live m i = In-live g.ends ts m (rw (← used_touch m i) (live-from_live_items g.ends us m i))

  -- so does one that stays
  stays_touch : (m : ℕ) → stays us m ≡ true → touch_at g.ends us m ≡ touch_at g.ends ts m
  stays_touch m t = elim (used m) [
    | inl e ↦ ap (touched g.ends) e
    | inr n ↦ clash t (ap (λ (x : Touch). not (is_nothing x)) n)
  ]

  live_stays : (m : ℕ) → In m (live_items g.ends us) → stays us m ≡ true
  live_stays m i = live_something g.ends (get_or us m Nothing) (live-from_live_items g.ends us m i)

  module _ (a : Assignment) (ok : AreBranches g.vertices g.ends) (h : IsLongest g ts a) (holds : HoldsAll g ts us) (S : ℕ → Bool) (c : IsClosedOver g ts a S)
      (spares : (m : ℕ) → In m (live_items g.ends ts) → S m ≡ true → In m (live_items g.ends us)) where
    -- the pairs that are left are those of the items that are live still
    pub over_used : IsOver g ts a ok h S c (live_items g.ends us) (left_pairs us a)
    over_used =
        let base = all_pairs g ts a ok h in
        record {
          different = live_items-distinct g.ends us;
          of_all = used_live;
          holds = holds;
          assigns = record {
            of_items = λ p i.
                let w = In-part_from (stays us) (pairs a) p i in
                In-live g.ends us p.0 (live-from_In g.ends us p.0 p.1 (subst (λ (xs : List ℕ). In p.1 xs) (sym (stays_touch p.0 w.1)) (base.touched p w.0)));
            touched = λ p i. base.touched p (In-part_from (stays us) (pairs a) p i).0;
            different = IsDistinct-part (stays us) (pairs a) base.different;
            independent = independent_part (graph_matroid g.vertices g.ends) (laws g ts a ok h) (stays us) (pairs a) base.independent;
          };
          own = λ p i t. In-part (stays us) (pairs a) p i (live_stays p.0 (spares p.0 (base.of_items p i) t));
          sources = λ x i out.
              c.holds x (used_live x i) refl (λ k.
              let w = In-items_from (pairs a) x k in
              out (In_same x w.0.0 (items (left_pairs us a)) w.2 (In-items (left_pairs us a) w.0 (In-part (stays us) (pairs a) w.0 w.1 (rw w.2 at (live_stays x i))))));
        }

-- at first all pairs are left, and the forest holds them
pub forest_left : (g : Graph) (ts : List Touch) (a : Assignment) → IsLongest g ts a → AreLeft g.ends ts a a.forest.held
forest_left g ts a h = record {
  one_each = sym h.stands.forest.positions;
  at = λ e l. record {
    left = λ m w. let s = some_of (get_or a.forest.held e None) ((h.whole.paired.holds.exactly e).1 (slot_branch a.slots m e w.has)) in s.1 ∙ sym (h.stands.forest.held e s.0 s.1);
    only = λ x is.
        let b = branch_slot a.slots e ((h.whole.paired.holds.exactly e).0 (ap is_some is)) in
        (h.stands.forest.held e x is, (b.0, record { has = b.1; used = something g.ends (get_or ts b.0 Nothing) e (h.stands.touched b.0 e b.1) }));
  };
}
