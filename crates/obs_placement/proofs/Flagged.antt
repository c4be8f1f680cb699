-- Known items stay known, with the flags of what they touch and with their frozen pairs.
use Rattle.std.proofs.Common.{◌≡◌, ℕ, ◌+◌, ◌≤◌, ◌<◌, Bool, true, false, Option, None, Some, List, [], ◌∷◌, length, get_or, set, take, refl, sym, ap, ◌∙◌, inl, inr, arith, subst, get_or-set_same, get_or-set_other}
use Rattle.std.specs.Prelude.{nat_lt}
use Rattle.std.proofs.lemmas.Bool.{cases_Bool, cases_eq, cases_lt, lt-ltb, ne_eqb}
use Rattle.std.proofs.lemmas.List.{get_or_default, get_or_past, length-set, same_lists, take_more}
use Rattle.obs_graph.specs.Graph.{Graph}
use Rattle.obs_graph.specs.Positions.{AreBranches, branches_at}
use Rattle.obs_matroid.specs.Lists.{In, other_than}
use Rattle.obs_matroid.specs.inner.Assignments.{others, part}
use Rattle.obs_matroid.specs.inner.Matroid.{IsMatroid}
use Rattle.obs_matroid.proofs.Contained.{In-get_or}
use Rattle.obs_matroid.proofs.Lists.{In-append_cases, In-append_left, In-append_right, cases_In, clash, other_true}
use Rattle.obs_matroid.proofs.Pairs.{In-branches, In-part, In-part_from, less_pairs, own}
use Rattle.obs_matroid.proofs.Slots.{slot_at}
use Rattle.obs_meter.specs.declared.Hub.{Hub}
use Rattle.obs_meter.specs.declared.Touch.{Touch}
use Rattle.obs_meter.specs.Spanned.{graph_matroid}
use Rattle.obs_meter.specs.Touches.{touch_at}
use Rattle.obs_meter.proofs.Instance.{IsMatroid-graph}
use Rattle.obs_meter.proofs.Touched.{In-take_more}
use Rattle.obs_assign.specs.Assignment.{Assignment}
use Rattle.obs_assign.specs.inner.Assignment.{IsWhole, StandsOver, branch_at, has_flag, is_frozen, pairs}
use Rattle.obs_assign.specs.inner.Pins.{IsPinnedAt, MayPin, joins}
use Rattle.obs_assign.proofs.Slotted.{none_some}
use Rattle.obs_exchange.specs.inner.Found.{AreListed}
use Rattle.obs_exchange.proofs.AtGraph.{IsAssignment-live}
use Rattle.obs_placement.specs.inner.Holding.{AreFrontsOfKnown, AreTouchedByKnown, IsTouchedByKnown}
use Rattle.obs_placement.specs.inner.Taking.{AreAdded, AreKept, StandsWithKnown, is_known, never, since_after, since_at}

-- of the items that a mark is for, some are known from its price on
pub AreAdded-marked : (reached : ℕ → Bool) (p : ℕ) (before after : List ℕ) → ((m : ℕ) → since_at after m ≡ since_after (reached m) p (since_at before m)) → AreAdded p before after
AreAdded-marked reached p before after marked m = elim (cases_eq (since_at before m) never) [
  | inl e ↦ elim (cases_Bool (reached m)) [
    | inl t ↦ inr (e, marked m ∙ rw (t, e) refl)
    | inr f ↦ inl (marked m ∙ rw f refl)
  ]
  | inr n ↦ elim (cases_Bool (reached m)) [
    | inl t ↦ inl (marked m ∙ rw (t, ne_eqb (since_at before m) never n) refl)
    | inr f ↦ inl (marked m ∙ rw f refl)
  ]
]

-- the list of a search has just the items that it marks
pub kept_marked : (flags : List Bool) (listed : List ℕ) (p : ℕ) (before after : List ℕ) → AreListed flags listed → AreKept listed p before after
    → (m : ℕ) → since_at after m ≡ since_after (has_flag flags m) p (since_at before m)
kept_marked flags listed p before after l k m = elim (cases_Bool (has_flag flags m)) [
  | inl t ↦ rw t (k.kept m ((l.exactly m).1 t))
  | inr f ↦ rw f (k.others m (λ i. clash ((l.exactly m).0 i) f))
]

-- and it has no other numbers than those of items
pub listed_low : (flags : List Bool) (listed : List ℕ) (n : ℕ) → length flags ≡ n → AreListed flags listed → (k d : ℕ) → k < length listed → get_or listed k d < n
listed_low flags listed n e l k d low =
    let x = get_or listed k d in
    let t = (l.exactly x).0 (In-get_or listed k d low) in
    elim (cases_lt x (length flags)) [
      | inl u ↦ omega (arith, u, e)
      | inr u ↦ clash t (get_or_past flags x false u)
    ]

-- known items stay known
pub still_known : (p : ℕ) (before after : List ℕ) → p < never → AreAdded p before after → (m : ℕ) → is_known before m ≡ true → is_known after m ≡ true
still_known p before after low added m k = elim (added m) [
  | inl e ↦ subst (λ (s : ℕ). nat_lt s never ≡ true) (sym e) k
  | inr e ↦ lt-ltb (since_at after m) never (let u = e.1 in omega (arith, u, low))
]

-- and no price is above that of an item that isn't known
pub bounded_after : (p : ℕ) (before after : List ℕ) → p < never → AreAdded p before after → ((m : ℕ) → since_at before m ≤ never) → (m : ℕ) → since_at after m ≤ never
bounded_after p before after low added bounded m = elim (added m) [
  | inl e ↦ let b = bounded m in omega (arith, e, b)
  | inr e ↦ let u = e.1 in omega (arith, u, low)
]

-- an item that had no price has one now
pub set_added : (p : ℕ) (before : List ℕ) (m : ℕ) → m < length before → since_at before m ≡ never → AreAdded p before (set before m p)
set_added p before m l unknown x = elim (cases_eq x m) [
  | inl e ↦ inr (ap (since_at before) e ∙ unknown, ap (since_at (set before m p)) e ∙ get_or-set_same before m p never l)
  | inr n ↦ inl (get_or-set_other before m x p never n)
]

pub set_known : (p : ℕ) (before : List ℕ) (m : ℕ) → m < length before → p < never → is_known (set before m p) m ≡ true
set_known p before m l low = lt-ltb (since_at (set before m p) m) never (let e = get_or-set_same before m p never l in omega (arith, e, low))

-- the list is kept place by place
module _ (L : List ℕ) (p : ℕ) (low : p < never) (before : List ℕ) where
  module _ (i : ℕ) (l : i < length L) (since : List ℕ) (h : AreKept (take i L) p before since) where
    abbrev x : ℕ
    x = get_or L i 0

    earlier : (m : ℕ) → (m ≡ x → ⊥) → In m (take (i + 1) L) → In m (take i L)
    earlier m n j = elim (In-append_cases m (take i L) (x ∷ []) (subst (λ (K : List ℕ). In m K) (take_more L i 0 l) j)) [
      | inl k ↦ k
      | inr k ↦ elim k [ inl e ↦ absurd (n e) | inr z ↦ absurd z ]
    ]

    later : (m : ℕ) → In m (take i L) → In m (take (i + 1) L)
    later m j = subst (λ (K : List ℕ). In m K) (sym (take_more L i 0 l)) (In-append_left m (take i L) (x ∷ []) j)

    this : In x (take (i + 1) L)
    this = subst (λ (K : List ℕ). In x K) (sym (take_more L i 0 l)) (In-append_right x (take i L) (x ∷ []) (inl refl))

    -- an item that has a price by now
    old_price : (since_at since x ≡ never → ⊥) → since_at since x ≡ since_after true p (since_at before x)
    old_price n = elim (cases_In x (take i L)) [
      | inl j ↦ h.kept x j
      | inr o ↦ let e = h.others x o in e ∙ sym (rw (ne_eqb (since_at before x) never (λ w. n (e ∙ w))) refl)
    ]

    pub AreKept-over : (since_at since x ≡ never → ⊥) → AreKept (take (i + 1) L) p before since
    AreKept-over n = record {
      kept = λ m j. elim (cases_eq m x) [
        | inl e ↦ subst (λ (y : ℕ). since_at since y ≡ since_after true p (since_at before y)) (sym e) (old_price n)
        | inr d ↦ h.kept m (earlier m d j)
      ];
      others = λ m o. h.others m (λ j. o (later m j));
    }

    -- an item that has none yet had none
    never_before : since_at since x ≡ never → since_at before x ≡ never
    never_before e = elim (cases_In x (take i L)) [
      | inr o ↦ sym (h.others x o) ∙ e
      | inl j ↦ elim (cases_eq (since_at before x) never) [
        | inl w ↦ w
        | inr d ↦ sym (h.kept x j ∙ rw (ne_eqb (since_at before x) never d) refl) ∙ e
      ]
    ]

    pub AreKept-more : x < length since → since_at since x ≡ never → AreKept (take (i + 1) L) p before (set since x p)
    AreKept-more k e = record {
      kept = λ m j. elim (cases_eq m x) [
        | inl s ↦
            subst (λ (y : ℕ). since_at (set since x p) y ≡ since_after true p (since_at before y)) (sym s)
            (get_or-set_same since x p never k ∙ sym (rw (never_before e) refl))
        | inr d ↦ get_or-set_other since x m p never d ∙ h.kept m (earlier m d j)
      ];
      others = λ m o. get_or-set_other since x m p never (λ s. o (subst (λ (y : ℕ). In y (take (i + 1) L)) (sym s) this)) ∙ h.others m (λ j. o (later m j));
    }

module _ (g : Graph) (touches : List Touch) where
  -- known items touch what is no more than was counted
  pub known_front : (since counts : List ℕ) (m : ℕ) (hub : Hub) → AreFrontsOfKnown g touches since counts → touch_at g.ends touches m ≡ take hub.count (branches_at g.ends hub.vertex)
      → hub.count ≤ get_or counts hub.vertex 0 → (e : ℕ) → In e (touch_at g.ends touches m) → IsTouchedByKnown g.ends touches since e
  known_front since counts m hub k is l e i =
      k.known hub.vertex e (In-take_more hub.count (get_or counts hub.vertex 0) (branches_at g.ends hub.vertex) e l (subst (λ (xs : List ℕ). In e xs) is i))

  module _ (before after : List ℕ) (still : (m : ℕ) → is_known before m ≡ true → is_known after m ≡ true) where
    pub AreTouchedByKnown-more : (flags : List Bool) → AreTouchedByKnown g touches before flags → AreTouchedByKnown g touches after flags
    AreTouchedByKnown-more flags h = record { count = h.count; known = λ e t. let v = h.known e t in (v.0, still v.0 v.1, v.2) }

    pub AreFrontsOfKnown-more : (counts : List ℕ) → AreFrontsOfKnown g touches before counts → AreFrontsOfKnown g touches after counts
    AreFrontsOfKnown-more counts h = record { count = h.count; known = λ v e i. let w = h.known v e i in (w.0, still w.0 w.1, w.2) }

    pub StandsWithKnown-more : (a : Assignment) → StandsWithKnown g touches a before → StandsWithKnown g touches a after
    StandsWithKnown-more a h = record { stands = h.stands; whole = h.whole; frozen = λ m f. still m (h.frozen m f) }

  module _ (since : List ℕ) (m : ℕ) (k : is_known since m ≡ true) where
    -- the flag of a branch that a known item touches
    pub AreTouchedByKnown-set : (flags : List Bool) (e : ℕ) → In e (touch_at g.ends touches m) → AreTouchedByKnown g touches since flags → AreTouchedByKnown g touches since (set flags e true)
    AreTouchedByKnown-set flags e i h = record {
      count = length-set flags e true ∙ h.count;
      known = λ f t. elim (cases_eq f e) [
        | inl s ↦ (m, k, subst (λ (x : ℕ). In x (touch_at g.ends touches m)) (sym s) i)
        | inr n ↦ h.known f (sym (get_or-set_other flags e f true false n) ∙ t)
      ];
    }

    -- and the count of the vertex at which it touches the first so many
    pub AreFrontsOfKnown-set : (counts : List ℕ) (hub : Hub) → hub.vertex < g.vertices → touch_at g.ends touches m ≡ take hub.count (branches_at g.ends hub.vertex)
        → AreFrontsOfKnown g touches since counts → AreFrontsOfKnown g touches since (set counts hub.vertex hub.count)
    AreFrontsOfKnown-set counts hub low is h =
        let here = get_or-set_same counts hub.vertex hub.count 0 (let c = h.count in omega (arith, c, low)) in
        record {
          count = length-set counts hub.vertex hub.count ∙ h.count;
          known = λ w e i. elim (cases_eq w hub.vertex) [
            | inl s ↦ (
              m,
              k,
              subst (λ (xs : List ℕ). In e xs) (ap (λ n. take n (branches_at g.ends hub.vertex)) here ∙ sym is)
                  (subst (λ (v : ℕ). In e (take (get_or (set counts hub.vertex hub.count) v 0) (branches_at g.ends v))) s i),
            )
            | inr n ↦ h.known w e (subst (λ (j : ℕ). In e (take j (branches_at g.ends w))) (get_or-set_other counts hub.vertex w hub.count 0 n) i)
          ];
        }

-- a pair that stands may be pinned, and nothing else changes
module _ (g : Graph) (touches : List Touch) (ok : AreBranches g.vertices g.ends) (a : Assignment) (whole : IsWhole a) (stands : StandsOver a g touches) (m e : ℕ)
    (has : branch_at a m ≡ Some e) (thawed : is_frozen a m ≡ false) where
  laws : IsMatroid (graph_matroid g.vertices g.ends)
  laws = IsMatroid-graph g.vertices g.ends ok

  -- the branches of the others don't join its ends
  apart : joins g.ends (others (pairs a) m) e ≡ false
  apart =
      let A = IsAssignment-live g.vertices a g touches whole stands in
      own (graph_matroid g.vertices g.ends) laws (pairs a) (m, e) A.independent A.different (slot_at a.slots m e has)

  pub MayPin-own : MayPin a g.ends m e
  MayPin-own = record {
    thawed = thawed;
    free = λ x f s. clash
        (laws.member (others (pairs a) m) e
        (In-branches (part (other_than m) (pairs a)) (x, e)
        (In-part (other_than m) (pairs a) (x, e) (slot_at a.slots x e s) (other_true m x (λ w. clash (ap (is_frozen a) (sym w) ∙ f) thawed)))))
        apart;
    apart = less_pairs (graph_matroid g.vertices g.ends) laws (part (is_frozen a) (pairs a)) (part (other_than m) (pairs a)) e
        (λ p i. let u = In-part_from (is_frozen a) (pairs a) p i in
        In-part (other_than m) (pairs a) p u.0 (other_true m p.0 (λ w. clash (ap (is_frozen a) (sym w) ∙ u.1) thawed)))
        apart;
  }

  slots_same : (k : ℕ) → get_or (set (set a.slots m None) m (Some e)) k None ≡ get_or a.slots k None
  slots_same k = elim (cases_eq k m) [
    | inl w ↦ elim (cases_lt m (length a.slots)) [
      | inl l ↦ ap (λ j. get_or (set (set a.slots m None) m (Some e)) j None) w
          ∙ (get_or-set_same (set a.slots m None) m (Some e) None (let q = length-set a.slots m None in omega (arith, q, l)) ∙ (sym has ∙ ap (branch_at a) (sym w)))
      | inr l ↦ absurd (none_some e (sym (get_or_past a.slots m None l) ∙ has))
    ]
    | inr n ↦ get_or-set_other (set a.slots m None) m k (Some e) None n ∙ get_or-set_other a.slots m k None None n
  ]

  same_length : length (set (set a.slots m None) m (Some e)) ≡ length a.slots
  same_length = length-set (set a.slots m None) m (Some e) ∙ length-set a.slots m None

  pub pinned_same : (after : List (Option ℕ)) (x : ℕ) → IsPinnedAt a g.ends m e after x → after ≡ a.slots
  pinned_same after x h = h.pairs_are ∙ elim h.needed [
    | inr y ↦ clash y apart
    | inl s ↦
        ap (λ j. set (set a.slots j None) m (Some e)) s
        ∙ same_lists (set (set a.slots m None) m (Some e)) a.slots same_length (λ k d l.
        get_or_default (set (set a.slots m None) m (Some e)) k d None l
        ∙ (slots_same k ∙ sym (get_or_default a.slots k d None (let q = same_length in omega (arith, q, l)))))
  ]
