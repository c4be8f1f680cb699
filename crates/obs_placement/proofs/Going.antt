-- The items are taken one after the other.
use Rattle.std.proofs.Common.{◌≡◌, ℕ, ◌+◌, ◌≤◌, ◌<◌, Bool, true, false, ◌||◌, ◌&&◌, not, List, [], ◌∷◌, length, get_or, set, refl, sym, ap, ◌∙◌, inl, inr, arith, subst, eqb, ltb, get_or-set_same, get_or-set_other}
use Rattle.std.specs.Prelude.{nat_lt}
use Rattle.std.specs.Cmp.Derive.{one_truth}
use Rattle.std.proofs.lemmas.Bool.{cases_Bool, cases_eq, cases_lt, and_parts, and_from, lt-ltb, le-ltb, ltb-false, ltb-true, not-true}
use Rattle.std.proofs.lemmas.Bool.Decides.{nat_tests}
use Rattle.std.proofs.lemmas.List.{length-set}
use Rattle.obs_graph.specs.Positions.{AreBranches}
use Rattle.obs_graph.specs.Graph.{Graph}
use Rattle.obs_matroid.specs.Lists.{In, IsDistinct}
use Rattle.obs_matroid.specs.Matroid.{IsIndependent}
use Rattle.obs_matroid.specs.inner.Matroid.{IsMatroid}
use Rattle.obs_matroid.specs.Assignments.{Pair, items, branches, IsAssignment}
use Rattle.obs_matroid.specs.Values.{is_critical}
use Rattle.obs_matroid.proofs.Computed.{is_critical_is}
use Rattle.obs_matroid.proofs.Lists.{clash, In_same, In-filter, In-filter_from, IsDistinct-filter}
use Rattle.obs_meter.specs.declared.Touch.{Touch}
use Rattle.obs_meter.specs.Spanned.{graph_matroid}
use Rattle.obs_meter.specs.Touches.{is_live, live_items, touch_at}
use Rattle.obs_meter.proofs.Assigned.{live_items-distinct}
use Rattle.obs_meter.proofs.Instance.{IsMatroid-graph}
use Rattle.obs_meter.proofs.Live.{In-live, live-from_live_items, live_low}
use Rattle.obs_assign.specs.Assignment.{Assignment}
use Rattle.obs_assign.specs.inner.Assignment.{has_flag, pairs}
use Rattle.obs_placement.specs.Answer.{earlier_items, is_chosen}
use Rattle.obs_placement.specs.Order.{is_earlier}
use Rattle.obs_placement.specs.inner.Order.{IsOrder, item_at}
use Rattle.obs_placement.specs.Taking.{is_below, is_listed_at, scope_of}
use Rattle.obs_placement.specs.inner.Taking.{AreAdded, AreFirst, AreHeld, AreTaken, IsTakenAt, IsUnderWay, StandsWithKnown, is_known, never, since_at}
use Rattle.obs_placement.proofs.Taken.{IsTaken-same}

pub earlier_cheap : (p q a b : ℕ) → (ltb p q || (eqb p q && ltb a b)) ≡ true → p ≤ q
earlier_cheap p q a b = grind (arith, nat_tests)

pub earlier_not_both : (p q a b : ℕ) → (ltb p q || (eqb p q && ltb a b)) ≡ true → (ltb q p || (eqb q p && ltb b a)) ≡ true → ⊥
earlier_not_both p q a b h k = absurd (grind (arith, nat_tests, h, k))

-- an idle item is not chosen
pub idle_chosen : (g : Graph) (touches : List Touch) (price : ℕ → ℕ) (c : ℕ) → is_live g.ends touches c ≡ false → is_chosen g.vertices g.ends touches price c ≡ false
idle_chosen g touches price c f = rw f refl

module _ (g : Graph) (touches : List Touch) (price : ℕ → ℕ) (keys : List (ℕ × ℕ)) (ok : AreBranches g.vertices g.ends) (order : IsOrder price (length touches) keys) where
  mat_laws : IsMatroid (graph_matroid g.vertices g.ends)
  mat_laws = IsMatroid-graph g.vertices g.ends ok

  -- what is known, at a list of items below a price
  known_own : (t : ℕ) (a : Assignment) (since : List ℕ) → IsTakenAt g touches (scope_of g.ends touches price t) a since → (m : ℕ) → is_known since m ≡ is_listed_at g.vertices g.ends touches price t m
  known_own t a since h m =
      let live = is_live g.ends touches m in
      let below = is_below price t m in
      let critical = is_critical (graph_matroid g.vertices g.ends) (touch_at g.ends touches) (scope_of g.ends touches price t) m in
      let is = is_critical_is (graph_matroid g.vertices g.ends) mat_laws (touch_at g.ends touches) (scope_of g.ends touches price t) h.distinct m in
      one_truth (is_known since m) ((live && below) && not critical)
      (λ k.
      let i = h.within m k in
      let u = In-filter_from (is_below price t) m (live_items g.ends touches) i in
      and_from (live && below) (not critical) (and_from live below (live-from_live_items g.ends touches m u.0) u.1)
      (elim (cases_Bool critical) [ inl y ↦ clash k ((h.critical m i).1 (is.0 y)) | inr f ↦ ap not f ]))
      (λ y.
      let u = and_parts (live && below) (not critical) y in
      let v = and_parts live below u.0 in
      let i = In-filter (is_below price t) m (live_items g.ends touches) (In-live g.ends touches m v.0) v.1 in
      elim (cases_Bool (is_known since m)) [ inl k ↦ k | inr f ↦ clash (is.1 ((h.critical m i).0 f)) (not-true critical u.1) ])

  live_found : (x : ℕ) → is_live g.ends touches x ≡ true → (k : ℕ) × (k < length touches) × (item_at keys k ≡ x)
  live_found x t = order.found x (live_low g.ends touches x t)

  live_same : (x y : ℕ) → x ≡ y → is_live g.ends touches y ≡ true → is_live g.ends touches x ≡ true
  live_same x y e t = subst (λ (z : ℕ). is_live g.ends touches z ≡ true) (sym e) t

  places_differ : (j k : ℕ) → j < k → k < length touches → item_at keys j ≡ item_at keys k → ⊥
  places_differ j k l m e =
      let r = order.rising j k l m in
      let s : is_earlier price (item_at keys k) (item_at keys k) ≡ true = subst (λ (z : ℕ). is_earlier price (item_at keys k) z ≡ true) e r in
      earlier_not_both (price (item_at keys k)) (price (item_at keys k)) (item_at keys k) (item_at keys k) s s

  -- after the last item
  pub AreTaken-ended : (i : ℕ) (a : Assignment) (since : List ℕ) (raised : List Bool) → length touches ≤ i → IsUnderWay g touches price keys i a since raised → AreTaken g touches price a since raised
  AreTaken-ended i a since raised end w = record {
    taken = w.taken (live_items g.ends touches) (record {
      distinct = live_items-distinct g.ends touches;
      from = λ x j. let t = live-from_live_items g.ends touches x j in let f = live_found x t in (t, f.0, (let l = f.1 in omega (arith, l, end)), f.2);
      all = λ k l t. In-live g.ends touches (item_at keys k) t;
    });
    chosen = λ m l. let f = order.found m l in subst (λ (x : ℕ). has_flag raised x ≡ is_chosen g.vertices g.ends touches price x) f.2 (w.chosen f.0 (let u = f.1 in omega (arith, u, end)));
    held = w.held;
    known = λ t m l. w.known t m l (λ k u v. absurd (omega (arith, u, v, end)));
  }

  module _ (i : ℕ) (a : Assignment) (since : List ℕ) (raised : List Bool) (low : i < length touches) (w : IsUnderWay g touches price keys i a since raised) where
    abbrev pub next_item : ℕ
    next_item = item_at keys i

    earlier_first : AreFirst g.ends touches keys i (earlier_items g.ends touches price next_item)
    earlier_first = record {
      distinct = IsDistinct-filter (is_earlier price next_item) (live_items g.ends touches) (live_items-distinct g.ends touches);
      from = λ x j.
          let u = In-filter_from (is_earlier price next_item) x (live_items g.ends touches) j in
          let t = live-from_live_items g.ends touches x u.0 in
          let f = live_found x t in (
            t,
            f.0,
            elim (cases_lt f.0 i) [
              | inl l ↦ l
              | inr l ↦ absurd (elim (cases_eq f.0 i) [
                | inl e ↦
                    let s : is_earlier price next_item next_item ≡ true = subst (λ (z : ℕ). is_earlier price next_item z ≡ true) (sym f.2 ∙ ap (item_at keys) e) u.1 in
                    earlier_not_both (price next_item) (price next_item) next_item next_item s s
                | inr n ↦
                    let r = order.rising i f.0 (omega (arith, l, n)) f.1 in
                    let s : is_earlier price x next_item ≡ true = subst (λ (z : ℕ). is_earlier price z next_item ≡ true) f.2 r in
                    earlier_not_both (price x) (price next_item) x next_item u.1 s
              ])
            ],
            f.2,
          );
      all = λ k l t. In-filter (is_earlier price next_item) (item_at keys k) (live_items g.ends touches) (In-live g.ends touches (item_at keys k) t) (order.rising k i l low);
    }

    pub earlier_taken : IsTakenAt g touches (earlier_items g.ends touches price next_item) a since
    earlier_taken = w.taken (earlier_items g.ends touches price next_item) earlier_first

    pub live_taken : (b : Assignment) (after : List ℕ) → is_live g.ends touches next_item ≡ true → IsTakenAt g touches (next_item ∷ earlier_items g.ends touches price next_item) b after
        → (N : List ℕ) → AreFirst g.ends touches keys (i + 1) N → IsTakenAt g touches N b after
    live_taken b after live t N f =
        let E = earlier_items g.ends touches price next_item in
        IsTaken-same (graph_matroid g.vertices g.ends) mat_laws (touch_at g.ends touches) (next_item ∷ E) N (pairs b) (is_known after) (is_known after) f.distinct
        (λ x j. elim j [
          | inl e ↦ In_same x next_item N e (f.all i (omega arith) live)
          | inr h ↦
              let v = earlier_first.from x h in
              In_same x (item_at keys v.1) N (sym v.3) (f.all v.1 (let l = v.2 in omega (arith, l)) (live_same (item_at keys v.1) x v.3 v.0))
        ])
        (λ x j.
        let v = f.from x j in
        elim (cases_lt v.1 i) [
          | inl l ↦ inr (In_same x (item_at keys v.1) E (sym v.3) (earlier_first.all v.1 l (live_same (item_at keys v.1) x v.3 v.0)))
          | inr l ↦ inl (sym v.3 ∙ ap (item_at keys) (let u = v.2 in let e : v.1 ≡ i = omega (arith, l, u) in e))
        ])
        (λ m. refl) t

    pub idle_taken : is_live g.ends touches next_item ≡ false → (N : List ℕ) → AreFirst g.ends touches keys (i + 1) N → IsTakenAt g touches N a since
    idle_taken idle N f = w.taken N (record {
      distinct = f.distinct;
      from = λ x j. let v = f.from x j in (
        v.0,
        v.1,
        elim (cases_lt v.1 i) [
          | inl l ↦ l
          | inr l ↦ clash (live_same next_item x (ap (item_at keys) (let u = v.2 in let e : i ≡ v.1 = omega (arith, l, u) in e) ∙ v.3) v.0) idle
        ],
        v.3,
      );
      all = λ k l t. f.all k (omega (arith, l)) t;
    })

    module _ (b : Assignment) (after : List ℕ) (flags : List Bool) (p : ℕ) (cheap : p < never) (is_price : p ≡ price next_item) (counted : length after ≡ length touches) (flagged : length flags ≡ length touches)
        (stand : StandsWithKnown g touches b after) (hold : AreHeld g touches price b) (taken : (N : List ℕ) → AreFirst g.ends touches keys (i + 1) N → IsTakenAt g touches N b after)
        (added : AreAdded p since after) (mine : has_flag flags next_item ≡ is_chosen g.vertices g.ends touches price next_item)
        (theirs : (m : ℕ) → (m ≡ next_item → ⊥) → has_flag flags m ≡ has_flag raised m) where
      dear : (k : ℕ) → k < i + 1 → price (item_at keys k) ≤ price next_item
      dear k l = elim (cases_lt k i) [
        | inl u ↦ earlier_cheap (price (item_at keys k)) (price next_item) (item_at keys k) next_item (order.rising k i u low)
        | inr u ↦ let e : k ≡ i = omega (arith, l, u) in rw e (omega arith)
      ]

      reached_after : (m : ℕ) → is_known after m ≡ true → (k : ℕ) × (k < i + 1) × (since_at after m ≡ price (item_at keys k))
      reached_after m y = elim (added m) [
        | inl e ↦ let v = w.reached m (subst (λ (s : ℕ). nat_lt s never ≡ true) e y) in (v.0, (let l = v.1 in omega (arith, l)), e ∙ v.2)
        | inr e ↦ (i, omega arith, e.1 ∙ is_price)
      ]

      bounded_after : (m : ℕ) → since_at after m ≤ never
      bounded_after m = elim (added m) [
        | inl e ↦ let l = w.bounded m in omega (arith, e, l)
        | inr e ↦ let u = e.1 in omega (arith, u, cheap)
      ]

      scope_first : (t : ℕ) → price next_item < t → ((k : ℕ) → i + 1 ≤ k → k < length touches → t ≤ price (item_at keys k)) → AreFirst g.ends touches keys (i + 1) (scope_of g.ends touches price t)
      scope_first t l h = record {
        distinct = IsDistinct-filter (is_below price t) (live_items g.ends touches) (live_items-distinct g.ends touches);
        from = λ x j.
            let u = In-filter_from (is_below price t) x (live_items g.ends touches) j in
            let y = live-from_live_items g.ends touches x u.0 in
            let f = live_found x y in (
              y,
              f.0,
              elim (cases_lt f.0 (i + 1)) [
                | inl k ↦ k
                | inr k ↦
                    let d = h f.0 k f.1 in
                    let e : price (item_at keys f.0) ≡ price x = ap price f.2 in
                    let b = ltb-true (price x) t u.1 in absurd (omega (arith, d, e, b))
              ],
              f.2,
            );
        all = λ k u y. In-filter (is_below price t) (item_at keys k) (live_items g.ends touches) (In-live g.ends touches (item_at keys k) y)
            (lt-ltb (price (item_at keys k)) t (let d = dear k u in omega (arith, d, l)));
      }

      known_after_item : (t m : ℕ) → t ≤ never → ((k : ℕ) → i + 1 ≤ k → k < length touches → t ≤ price (item_at keys k))
          → nat_lt (since_at after m) t ≡ is_listed_at g.vertices g.ends touches price t m
      known_after_item t m tl h = elim (cases_lt (price next_item) t) [
        | inl l ↦
            let same : nat_lt (since_at after m) t ≡ is_known after m = elim (cases_Bool (is_known after m)) [
              | inl y ↦ let v = reached_after m y in let d = dear v.0 v.1 in let e = v.2 in lt-ltb (since_at after m) t (omega (arith, d, e, l)) ∙ sym y
              | inr f ↦ le-ltb (since_at after m) t (let n = ltb-false (since_at after m) never f in omega (arith, n, tl)) ∙ sym f
            ] in
            same ∙ known_own t b after (taken (scope_of g.ends touches price t) (scope_first t l h)) m
        | inr l ↦
            let old = w.known t m tl (λ k u v. elim (cases_eq k i) [ inl e ↦ rw e l | inr n ↦ h k (omega (arith, u, n)) v ]) in
            elim (added m) [
              | inl e ↦ ap (λ (s : ℕ). nat_lt s t) e ∙ old
              | inr e ↦
                  let x = e.0 in let y = e.1 in
                  le-ltb (since_at after m) t (omega (arith, y, is_price, l)) ∙ (sym (le-ltb (since_at since m) t (omega (arith, x, tl))) ∙ old)
            ]
      ]

      pub IsUnderWay-more : IsUnderWay g touches price keys (i + 1) b after flags
      IsUnderWay-more = record {
        since_count = counted;
        raised_count = flagged;
        bounded = bounded_after;
        standing = stand;
        held = hold;
        taken = taken;
        chosen = λ k l. elim (cases_lt k i) [
          | inl u ↦ theirs (item_at keys k) (λ e. places_differ k i u low e) ∙ w.chosen k u
          | inr u ↦ let e : k ≡ i = omega (arith, l, u) in rw e mine
        ];
        untouched = λ k l u. theirs (item_at keys k) (λ e. places_differ i k (omega (arith, l)) u (sym e)) ∙ w.untouched k (omega (arith, l)) u;
        reached = reached_after;
        known = known_after_item;
      }

    -- a live item is taken, and an idle one
    pub live_step : (b : Assignment) (after : List ℕ) (p : ℕ) (r : Bool) → p < never → p ≡ price next_item → length after ≡ length since → StandsWithKnown g touches b after → AreHeld g touches price b
        → IsTakenAt g touches (next_item ∷ earlier_items g.ends touches price next_item) b after → AreAdded p since after
        → r ≡ is_chosen g.vertices g.ends touches price next_item → is_live g.ends touches next_item ≡ true
        → IsUnderWay g touches price keys (i + 1) b after (set raised next_item r)
    live_step b after p r cheap is_price count stand hold t added chosen live =
        IsUnderWay-more b after (set raised next_item r) p cheap is_price (count ∙ w.since_count) (length-set raised next_item r ∙ w.raised_count) stand hold (live_taken b after live t) added
        (get_or-set_same raised next_item r false (let x = order.low i low in let y = w.raised_count in omega (arith, x, y)) ∙ chosen)
        (λ m n. get_or-set_other raised next_item m r false n)

    pub idle_step : price next_item < never → is_live g.ends touches next_item ≡ false → IsUnderWay g touches price keys (i + 1) a since raised
    idle_step cheap idle =
        IsUnderWay-more a since raised (price next_item) cheap refl w.since_count w.raised_count w.standing w.held (idle_taken idle) (λ m. inl refl)
        (w.untouched i (omega arith) low ∙ sym (idle_chosen g touches price next_item idle)) (λ m n. refl)

-- the price of the item at a place is one of the prices, or nothing
pub cheap_items : (price : ℕ → ℕ) (n : ℕ) (keys : List (ℕ × ℕ)) → IsOrder price n keys → ((m : ℕ) → price m < never) → (k : ℕ) → k < n → (get_or keys k (0, 0)).0 < never
cheap_items price n keys order cheap k l = let e = order.priced k l in let b = cheap (item_at keys k) in omega (arith, e, b)

-- nothing is taken yet
pub IsUnderWay-begun : (g : Graph) (touches : List Touch) (price : ℕ → ℕ) (keys : List (ℕ × ℕ)) (ok : AreBranches g.vertices g.ends) (a : Assignment) (since : List ℕ) (raised : List Bool)
    → length since ≡ length touches → length raised ≡ length touches → ((m : ℕ) → since_at since m ≡ never) → ((m : ℕ) → has_flag raised m ≡ false)
    → StandsWithKnown g touches a since → pairs a ≡ [] → IsOrder price (length touches) keys → IsUnderWay g touches price keys 0 a since raised
IsUnderWay-begun g touches price keys ok a since raised sc rc s f stand bare order = record {
  since_count = sc;
  raised_count = rc;
  bounded = λ m. let e = s m in omega (arith, e);
  standing = stand;
  held = λ m i. absurd (subst (λ (A : List Pair). In m (items A)) bare i);
  taken = λ N first. record {
    distinct = first.distinct;
    assigns = record {
      of_items = λ p i. absurd (empty p (subst (λ (A : List Pair). In p A) bare i));
      touched = λ p i. absurd (empty p (subst (λ (A : List Pair). In p A) bare i));
      different = subst (λ (A : List Pair). IsDistinct (items A)) (sym bare) tt;
      independent = subst (λ (A : List Pair). IsIndependent (graph_matroid g.vertices g.ends) (branches A)) (sym bare) tt;
    };
    longest = λ B b. no_pair N first B b;
    critical = λ m i. absurd (nothing N first m i);
    within = λ m y. clash y (le-ltb (since_at since m) never (let e = s m in omega (arith, e)));
  };
  chosen = λ k l. absurd (omega (arith, l));
  untouched = λ k l u. f (item_at keys k);
  reached = λ m y. clash y (le-ltb (since_at since m) never (let e = s m in omega (arith, e)));
  known = λ t m l h. le-ltb (since_at since m) t (let e = s m in omega (arith, e, l)) ∙ sym (not_own t m h);
}
  where
    nothing : (N : List ℕ) → AreFirst g.ends touches keys 0 N → (x : ℕ) → In x N → ⊥
    nothing N first x j = let l = (first.from x j).2 in absurd (omega (arith, l))

    empty : (p : Pair) → In p [] → ⊥
    empty p i = i

    no_pair : (N : List ℕ) → AreFirst g.ends touches keys 0 N → (B : List Pair) → IsAssignment (graph_matroid g.vertices g.ends) (touch_at g.ends touches) N B → length B ≤ length (pairs a)
    no_pair N first [] b = omega arith
    no_pair N first (p ∷ B) b = absurd (nothing N first p.0 (b.of_items p (inl refl)))

    not_own : (t m : ℕ) → ((k : ℕ) → 0 ≤ k → k < length touches → t ≤ price (item_at keys k)) → is_listed_at g.vertices g.ends touches price t m ≡ false
    not_own t m h = elim (cases_Bool (is_listed_at g.vertices g.ends touches price t m)) [
      | inr f ↦ f
      | inl y ↦
          let live = is_live g.ends touches m in
          let below = is_below price t m in
          let critical = is_critical (graph_matroid g.vertices g.ends) (touch_at g.ends touches) (scope_of g.ends touches price t) m in
          let v = and_parts live below (and_parts (live && below) (not critical) y).0 in
          let f = order.found m (live_low g.ends touches m v.0) in
          let d = h f.0 (omega arith) f.1 in
          let e : price (item_at keys f.0) ≡ price m = ap price f.2 in
          let b = ltb-true (price m) t v.1 in absurd (omega (arith, d, e, b))
    ]
