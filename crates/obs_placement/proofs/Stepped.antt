-- One item over a graph: what the search from it says.
use Rattle.std.proofs.Common.{◌≡◌, ℕ, ◌≤◌, ◌<◌, Bool, true, false, ◌||◌, ◌&&◌, Option, None, List, ◌∷◌, length, set, refl, sym, ap, ◌∙◌, inl, inr, arith, subst, eqb, ltb, eq-eqb, get_or-set_same, get_or-set_other}
use Rattle.std.specs.Prelude.{nat_lt}
use Rattle.std.proofs.lemmas.Bool.{cases_eq, cases_lt, or_cases, or_right, or_left, and_parts, and_from, ne_eqb, lt-ltb, le-ltb}
use Rattle.std.proofs.lemmas.Bool.Decides.{nat_tests}
use Rattle.obs_graph.specs.declared.Ends.{Ends}
use Rattle.obs_graph.specs.Positions.{AreBranches}
use Rattle.obs_graph.specs.Graph.{Graph}
use Rattle.obs_matroid.specs.Lists.{In, IsDistinct}
use Rattle.obs_matroid.specs.Matroid.{Matroid}
use Rattle.obs_matroid.specs.inner.Matroid.{IsMatroid}
use Rattle.obs_matroid.specs.Assignments.{items, branches}
use Rattle.obs_matroid.specs.inner.Assignments.{part, IsRho}
use Rattle.obs_matroid.specs.inner.Closed.{IsClosed, none}
use Rattle.obs_matroid.specs.Placement.{is_raising}
use Rattle.obs_matroid.specs.inner.Slots.{pairs_of}
use Rattle.obs_matroid.specs.Values.{rho_of}
use Rattle.obs_matroid.proofs.Computed.{rho_of_is}
use Rattle.obs_matroid.proofs.Critical.{rho_same}
use Rattle.obs_matroid.proofs.Lists.{clash, In_same, In-filter_from, is_in, is_in_from, is_in_at}
use Rattle.obs_matroid.proofs.Pairs.{In-items_from, In-part, In-part_from, more_pairs}
use Rattle.obs_meter.specs.declared.Touch.{Touch}
use Rattle.obs_meter.specs.Spanned.{graph_matroid}
use Rattle.obs_meter.specs.Touches.{is_live, live_items, touch_at}
use Rattle.obs_meter.proofs.Instance.{IsMatroid-graph}
use Rattle.obs_meter.proofs.Live.{live-from_live_items}
use Rattle.obs_assign.specs.Assignment.{Assignment}
use Rattle.obs_assign.specs.inner.Assignment.{IsWhole, StandsOver, branch_at, has_flag, is_frozen, pairs}
use Rattle.obs_exchange.specs.declared.Sources.TheVariants.{One}
use Rattle.obs_exchange.specs.inner.Closed.{IsClosedAt, IsLeastClosedAt}
use Rattle.obs_exchange.specs.inner.Found.{AddsSource, HasClosed, HasGrown}
use Rattle.obs_exchange.proofs.AtGraph.{IsAssignment-live, IsClosed-to_matroid, bare-from_out}
use Rattle.obs_exchange.proofs.Lawful.{AddsSource-grown}
use Rattle.obs_placement.specs.Answer.{earlier_items, is_chosen}
use Rattle.obs_placement.specs.Order.{is_earlier}
use Rattle.obs_placement.specs.inner.Holding.{IsTouchedByKnown}
use Rattle.obs_placement.specs.inner.Taking.{AreAdded, AreHeld, IsTaken, IsTakenAt, StandsWithKnown, is_known, never, since_after, since_at}
use Rattle.obs_placement.proofs.Taken.{IsReached, grown_only, joined_rho, known_spanned, IsTaken-grown, IsTaken-joined, IsTaken-passed, IsTaken-rho, IsTaken-same, passed_rho}

not_itself : (p c : ℕ) → (ltb p p || (eqb p p && ltb c c)) ≡ false
not_itself p c = grind (arith, nat_tests)

-- whether an item raises the greatest length, by the two numbers
pub raising_by : (g : Matroid) → IsMatroid g → (touch : ℕ → List ℕ) (M : List ℕ) (c r s : ℕ) → IsDistinct (c ∷ M) → IsRho g touch M r → IsRho g touch (c ∷ M) s
    → is_raising g touch M c ≡ nat_lt r s
unfolding is_raising
raising_by g laws touch M c r s d p q =
    let a = rho_same g touch M r (rho_of g touch M) p (rho_of_is g laws touch M d.1) in
    let b = rho_same g touch (c ∷ M) s (rho_of g touch (c ∷ M)) q (rho_of_is g laws touch (c ∷ M) d) in
    rw (a, b) refl

module _ (a : Assignment) (g : Graph) (touches : List Touch) (ok : AreBranches g.vertices g.ends) (since : List ℕ) (standing : StandsWithKnown g touches a since) (N : List ℕ) (c : ℕ)
    (taken : IsTakenAt g touches N a since)
    (lives : (x : ℕ) → In x N → is_live g.ends touches x ≡ true) (out : In c N → ⊥) (live : is_live g.ends touches c ≡ true) where
  abbrev pub mat : Matroid
  mat = graph_matroid g.vertices g.ends

  item_in : (x : ℕ) → In x (items (pairs a)) → In x N
  item_in x i = let v = In-items_from (pairs a) x i in In_same x v.0.0 N v.2 (taken.assigns.of_items v.0 v.1)

  pub bare_source : branch_at a c ≡ None
  bare_source = bare-from_out a c (λ i. out (item_in c i))

  abbrev S : ℕ → Bool
  S = is_known since

  module _ (R : ℕ → Bool) (h : IsLeastClosedAt g.ends touches (One c) a R) where
    source : R c ≡ true
    source = h.holds c (refl, live, bare_source)

    -- the set that T and the items have in common holds the reached ones, where T is closed
    within_closed : (T : ℕ → Bool) → ((m e : ℕ) → In m (c ∷ N) → T m ≡ true → In e (touch_at g.ends touches m)
        → mat.spans (branches (part (λ x. T x || is_frozen a x) (pairs a))) e ≡ true) → T c ≡ true
        → (m : ℕ) → R m ≡ true → (T m && is_in (c ∷ N) m) ≡ true
    within_closed T spanned t m r =
        let U : ℕ → Bool = λ x. T x && is_in (c ∷ N) x in
        let at : (x : ℕ) → U x ≡ true → In x (c ∷ N) = λ x u. is_in_from (c ∷ N) x (and_parts (T x) (is_in (c ∷ N) x) u).1 in
        let lives_too : (x : ℕ) → In x (c ∷ N) → is_live g.ends touches x ≡ true = λ x i. elim i [ inl e ↦ subst (λ (y : ℕ). is_live g.ends touches y ≡ true) (sym e) live | inr j ↦ lives x j ] in
        let closed : IsClosedAt g.ends touches a U = record {
          live = λ x u. lives_too x (at x u);
          joined = λ x e u j.
              more_pairs mat (IsMatroid-graph g.vertices g.ends ok) (part (λ z. T z || is_frozen a z) (pairs a)) (part (λ z. U z || is_frozen a z) (pairs a)) e
              (λ p i. let w = In-part_from (λ z. T z || is_frozen a z) (pairs a) p i in
              In-part (λ z. U z || is_frozen a z) (pairs a) p w.0 (elim (or_cases (T p.0) (is_frozen a p.0) w.1) [
                | inl y ↦ or_left (U p.0) (is_frozen a p.0) (and_from (T p.0) (is_in (c ∷ N) p.0) y (is_in_at (c ∷ N) p.0 (inr (taken.assigns.of_items p w.0))))
                | inr y ↦ or_right (U p.0) (is_frozen a p.0) y
              ]))
              (spanned x e (at x u) (and_parts (T x) (is_in (c ∷ N) x) u).0 j);
        } in
        h.least U closed (λ x k. subst (λ (y : ℕ). U y ≡ true) (sym k.0) (and_from (T c) (is_in (c ∷ N) c) t (is_in_at (c ∷ N) c (inl refl)))) m r

    reached_closed : IsClosed mat (touch_at g.ends touches) (c ∷ N) (is_frozen a) (pairs a) R
    reached_closed = IsClosed-to_matroid g.vertices a g touches standing.stands (c ∷ N) R h.closed

    pub IsReached-closed : IsReached mat (touch_at g.ends touches) N c (is_frozen a) (pairs a) R
    IsReached-closed = record {
      closed = reached_closed;
      source = source;
      least = λ T k t m r. (and_parts (T m) (is_in (c ∷ N) m) (within_closed T (λ x e i y j. k.spanned x e i y j) t m r)).0;
      within = λ m r. is_in_from (c ∷ N) m (and_parts (R m) (is_in (c ∷ N) m) (within_closed R (λ x e i y j. reached_closed.spanned x e i y j) source m r)).1;
    }

    pub passed_taken : IsTaken mat (touch_at g.ends touches) (c ∷ N) (pairs a) (λ m. S m || R m)
    passed_taken = IsTaken-passed mat (IsMatroid-graph g.vertices g.ends ok) (touch_at g.ends touches) N c (pairs a) S taken out (is_frozen a) standing.frozen R IsReached-closed

    pub passed_not_raising : is_raising mat (touch_at g.ends touches) N c ≡ false
    passed_not_raising =
        raising_by mat (IsMatroid-graph g.vertices g.ends ok) (touch_at g.ends touches) N c (length (pairs a)) (length (pairs a)) (out, taken.distinct)
        (IsTaken-rho mat (IsMatroid-graph g.vertices g.ends ok) (touch_at g.ends touches) N (pairs a) S taken)
        (passed_rho mat (IsMatroid-graph g.vertices g.ends ok) (touch_at g.ends touches) N c (pairs a) S taken out (is_frozen a) standing.frozen R IsReached-closed)
        ∙ le-ltb (length (pairs a)) (length (pairs a)) (omega arith)

  -- where known items touch all that the item touches, the pairs of the known items span it
  module _ (joins : (e : ℕ) → In e (touch_at g.ends touches c) → IsTouchedByKnown g.ends touches since e) where
    joins_own : (e : ℕ) → In e (touch_at g.ends touches c) → mat.spans (branches (part (λ x. S x || none x) (pairs a))) e ≡ true
    joins_own e i = let v = joins e i in known_spanned mat (IsMatroid-graph g.vertices g.ends ok) (touch_at g.ends touches) N c (pairs a) S taken out v.0 e v.1 v.2

    pub joined_taken : IsTaken mat (touch_at g.ends touches) (c ∷ N) (pairs a) (λ m. S m || eqb m c)
    joined_taken = IsTaken-joined mat (IsMatroid-graph g.vertices g.ends ok) (touch_at g.ends touches) N c (pairs a) S taken out joins_own

    pub joined_not_raising : is_raising mat (touch_at g.ends touches) N c ≡ false
    joined_not_raising =
        raising_by mat (IsMatroid-graph g.vertices g.ends ok) (touch_at g.ends touches) N c (length (pairs a)) (length (pairs a)) (out, taken.distinct)
        (IsTaken-rho mat (IsMatroid-graph g.vertices g.ends ok) (touch_at g.ends touches) N (pairs a) S taken)
        (joined_rho mat (IsMatroid-graph g.vertices g.ends ok) (touch_at g.ends touches) N c (pairs a) S taken out joins_own)
        ∙ le-ltb (length (pairs a)) (length (pairs a)) (omega arith)

  module _ (b : Assignment) (m : ℕ) (whole : IsWhole b) (stands : StandsOver b g touches) (h : HasGrown g.ends touches (One c) a b m) where
    added : AddsSource g.ends touches (One c) a (pairs b)
    added = AddsSource-grown a b g touches (One c) m whole stands h

    pub grown_taken : IsTaken mat (touch_at g.ends touches) (c ∷ N) (pairs b) S
    grown_taken = IsTaken-grown mat (IsMatroid-graph g.vertices g.ends ok) (touch_at g.ends touches) N c (pairs a) S taken out (live_items g.ends touches) (pairs b)
        (IsAssignment-live g.vertices b g touches whole stands) h.longer (In_same c added.source (items (pairs b)) (sym added.is_source.0) added.adds) added.keeps

    pub grown_held : (price : ℕ → ℕ) → AreHeld g touches price a → is_chosen g.vertices g.ends touches price c ≡ true → AreHeld g touches price b
    grown_held price old mine x i =
        elim (grown_only mat (IsMatroid-graph g.vertices g.ends ok) (touch_at g.ends touches) N c (pairs a) S taken out (live_items g.ends touches) (pairs b)
        (IsAssignment-live g.vertices b g touches whole stands) h.longer (In_same c added.source (items (pairs b)) (sym added.is_source.0) added.adds) added.keeps x i) [
          | inl e ↦ subst (λ (y : ℕ). is_chosen g.vertices g.ends touches price y ≡ true) (sym e) mine
          | inr j ↦ old x j
        ]

    pub grown_raising : is_raising mat (touch_at g.ends touches) N c ≡ true
    grown_raising =
        raising_by mat (IsMatroid-graph g.vertices g.ends ok) (touch_at g.ends touches) N c (length (pairs a)) (length (pairs b)) (out, taken.distinct)
        (IsTaken-rho mat (IsMatroid-graph g.vertices g.ends ok) (touch_at g.ends touches) N (pairs a) S taken)
        (IsTaken-rho mat (IsMatroid-graph g.vertices g.ends ok) (touch_at g.ends touches) (c ∷ N) (pairs b) S grown_taken)
        ∙ lt-ltb (length (pairs a)) (length (pairs b)) (let l = h.longer in omega (arith, l))

-- the items that are taken before one don't hold it
pub earlier-out : (ends : List (Option Ends)) (touches : List Touch) (price : ℕ → ℕ) (c : ℕ) → In c (earlier_items ends touches price c) → ⊥
earlier-out ends touches price c i = clash (In-filter_from (is_earlier price c) c (live_items ends touches) i).1 (not_itself (price c) c)

pub earlier-live : (ends : List (Option Ends)) (touches : List Touch) (price : ℕ → ℕ) (c x : ℕ) → In x (earlier_items ends touches price c) → is_live ends touches x ≡ true
earlier-live ends touches price c x i = live-from_live_items ends touches x (In-filter_from (is_earlier price c) x (live_items ends touches) i).0

or_none : (b : Bool) → b ≡ (b || false)
or_none true = refl
or_none false = refl

-- what is known after a mark
pub known_after : (reached : ℕ → Bool) (price : ℕ) (before after : List ℕ) → price < never
    → ((m : ℕ) → since_at after m ≡ since_after (reached m) price (since_at before m))
    → ((m : ℕ) → since_at before m ≤ never)
    → (m : ℕ) → is_known after m ≡ (is_known before m || reached m)
known_after reached price before after low e b m = rw (e m) (core (reached m) (since_at before m) (b m))
  where
    core : (r : Bool) (s : ℕ) → s ≤ never → nat_lt (since_after r price s) never ≡ (nat_lt s never || r)
    core false s l = or_none (nat_lt s never)
    core true s l = elim (cases_eq s never) [
      | inl w ↦ rw w (lt-ltb price never low)
      | inr n ↦ rw (ne_eqb s never n, lt-ltb s never (omega (arith, l, n))) refl
    ]

-- the closed answer of a search from one item, with the mark after it
pub passed_at : (a b : Assignment) (g : Graph) (touches : List Touch) (ok : AreBranches g.vertices g.ends) (before : List ℕ) (standing : StandsWithKnown g touches a before) (price : ℕ → ℕ) (c p : ℕ)
    (after : List ℕ) (reached : List Bool) → is_live g.ends touches c ≡ true → p < never → ((m : ℕ) → since_at before m ≤ never)
    → IsTakenAt g touches (earlier_items g.ends touches price c) a before → HasClosed g.ends touches (One c) a b reached
    → ((m : ℕ) → since_at after m ≡ since_after (has_flag reached m) p (since_at before m))
    → IsTakenAt g touches (c ∷ earlier_items g.ends touches price c) b after
passed_at a b g touches ok before standing price c p after reached live low fits taken closed marked =
    let N = earlier_items g.ends touches price c in
    let mat = graph_matroid g.vertices g.ends in
    let known = known_after (has_flag reached) p before after low marked fits in
    let t = passed_taken a g touches ok before standing N c taken (earlier-live g.ends touches price c) (earlier-out g.ends touches price c) live (has_flag reached) closed.least in
    subst (λ (x : Assignment). IsTakenAt g touches (c ∷ N) x after) (sym closed.same)
    (IsTaken-same mat (IsMatroid-graph g.vertices g.ends ok) (touch_at g.ends touches) (c ∷ N) (c ∷ N) (pairs a) (λ m. is_known before m || has_flag reached m) (is_known after)
    t.distinct (λ x i. i) (λ x i. i) known t)

-- only the pairs count
pub taken_slots : (g : Graph) (touches : List Touch) (N since : List ℕ) (a b : Assignment) → b.slots ≡ a.slots → IsTakenAt g touches N a since → IsTakenAt g touches N b since
taken_slots g touches N since a b e t = subst (λ (s : List (Option ℕ)). IsTaken (graph_matroid g.vertices g.ends) (touch_at g.ends touches) N (pairs_of s) (is_known since)) (sym e) t

pub held_slots : (g : Graph) (touches : List Touch) (price : ℕ → ℕ) (a b : Assignment) → b.slots ≡ a.slots → AreHeld g touches price a → AreHeld g touches price b
held_slots g touches price a b e h m i = h m (subst (λ (s : List (Option ℕ)). In m (items (pairs_of s))) e i)

-- a live item is chosen where it raises the greatest length
pub chosen_by : (g : Graph) (touches : List Touch) (price : ℕ → ℕ) (c : ℕ) (r : Bool) → is_live g.ends touches c ≡ true
    → is_raising (graph_matroid g.vertices g.ends) (touch_at g.ends touches) (earlier_items g.ends touches price c) c ≡ r → r ≡ is_chosen g.vertices g.ends touches price c
chosen_by g touches price c r live e = sym (rw live e)

-- what is known where one item more is
pub known_with : (before : List ℕ) (c p m : ℕ) → c < length before → p < never → is_known (set before c p) m ≡ (is_known before m || eqb m c)
known_with before c p m l low = elim (cases_eq m c) [
  | inl e ↦ rw (e, get_or-set_same before c p never l, lt-ltb p never low) (sym (or_right (is_known before c) (eqb c c) (eq-eqb c c refl)))
  | inr n ↦ rw (get_or-set_other before c m p never n, ne_eqb m c n) (or_none (is_known before m))
]

-- a live item of which known ones touch all that it touches, with its price after it
pub joined_at : (a : Assignment) (g : Graph) (touches : List Touch) (ok : AreBranches g.vertices g.ends) (before : List ℕ) (standing : StandsWithKnown g touches a before) (price : ℕ → ℕ) (c p : ℕ)
    → is_live g.ends touches c ≡ true → p < never → c < length before
    → IsTakenAt g touches (earlier_items g.ends touches price c) a before → ((e : ℕ) → In e (touch_at g.ends touches c) → IsTouchedByKnown g.ends touches before e)
    → IsTakenAt g touches (c ∷ earlier_items g.ends touches price c) a (set before c p)
joined_at a g touches ok before standing price c p live low l taken joins =
    let N = earlier_items g.ends touches price c in
    let mat = graph_matroid g.vertices g.ends in
    let t = joined_taken a g touches ok before standing N c taken (earlier-live g.ends touches price c) (earlier-out g.ends touches price c) live joins in
    IsTaken-same mat (IsMatroid-graph g.vertices g.ends ok) (touch_at g.ends touches) (c ∷ N) (c ∷ N) (pairs a) (λ m. is_known before m || eqb m c) (is_known (set before c p))
    t.distinct (λ x i. i) (λ x i. i) (λ m. known_with before c p m l low) t

-- an item that is taken next isn't known yet
pub joined_added : (a : Assignment) (g : Graph) (touches : List Touch) (price : ℕ → ℕ) (c p : ℕ) (before : List ℕ) → c < length before → ((m : ℕ) → since_at before m ≤ never)
    → IsTakenAt g touches (earlier_items g.ends touches price c) a before → AreAdded p before (set before c p)
joined_added a g touches price c p before l b taken m = elim (cases_eq m c) [
  | inl e ↦ inr (ap (since_at before) e ∙ never_yet, ap (since_at (set before c p)) e ∙ get_or-set_same before c p never l)
  | inr n ↦ inl (get_or-set_other before c m p never n)
]
  where
    never_yet : since_at before c ≡ never
    never_yet = elim (cases_lt (since_at before c) never) [
      | inl k ↦ absurd (earlier-out g.ends touches price c (taken.within c (lt-ltb (since_at before c) never k)))
      | inr k ↦ let u = b c in omega (arith, k, u)
    ]
