-- The live items below a price, and the chosen ones of these, are counted in the order of the items; from both counts come the numbers of a layer.
use Rattle.std.proofs.Common.{◌≡◌, ℕ, ◌+◌, ◌≤◌, ◌<◌, Bool, true, false, Option, List, [], ◌∷◌, length, refl, sym, ap, ◌∙◌, inl, inr, arith, subst, ltb}
use Rattle.std.specs.Prelude.{filter, if◌then◌else◌}
use Rattle.std.specs.List.{range_with_len}
use Rattle.std.proofs.lemmas.Bool.{cases_Bool, cases_eq, cases_lt, le-ltb, lt-ltb, ltb-true}
use Rattle.obs_graph.specs.declared.Ends.{Ends}
use Rattle.obs_graph.specs.Graph.{Graph}
use Rattle.obs_graph.specs.Positions.{AreBranches}
use Rattle.obs_matroid.specs.Lists.{In, IsDistinct}
use Rattle.obs_matroid.specs.Assignments.{IsAssignment, Pair}
use Rattle.obs_matroid.specs.inner.Assignments.{IsRho}
use Rattle.obs_matroid.specs.Placement.{below}
use Rattle.obs_matroid.specs.inner.Placement.{IsAnswer, IsApart}
use Rattle.obs_matroid.proofs.Answer.{answer_below}
use Rattle.obs_matroid.proofs.Critical.{rho_same}
use Rattle.obs_matroid.proofs.Lists.{clash, In_same, In-filter, In-filter_from, IsDistinct-filter, length-split, length-within}
use Rattle.obs_matroid.proofs.Placement.{IsRho-same}
use Rattle.obs_matroid.proofs.Ranges.{below_in, range_distinct}
use Rattle.obs_meter.specs.declared.Touch.{Touch}
use Rattle.obs_meter.specs.Spanned.{graph_matroid}
use Rattle.obs_meter.specs.Touches.{is_live, live_items, touch_at}
use Rattle.obs_meter.proofs.Assigned.{live_items-distinct}
use Rattle.obs_meter.proofs.Instance.{IsMatroid-graph}
use Rattle.obs_meter.proofs.Live.{In-live, live-from_live_items, live_low}
use Rattle.obs_meter.specs.Costs.{price_of}
use Rattle.obs_placement.specs.declared.counting.Tally.{Tally}
use Rattle.obs_placement.specs.Answer.{is_chosen}
use Rattle.obs_placement.specs.inner.Counting.{AreCounted, live_below, raised_below}
use Rattle.obs_placement.specs.Layers.{layer_outside, layer_rank}
use Rattle.obs_placement.specs.inner.Layers.{count_known, layer_items}
use Rattle.obs_placement.specs.Order.{is_earlier}
use Rattle.obs_placement.specs.inner.Order.{IsOrder, item_at}
use Rattle.obs_placement.specs.Taking.{is_below, is_listed_at, scope_of}
use Rattle.obs_placement.specs.inner.Taking.{since_at}
use Rattle.obs_placement.proofs.Costed.{tight_scope}
use Rattle.obs_placement.proofs.Going.{earlier_cheap, earlier_not_both}
use Rattle.obs_placement.proofs.Growing.{own_in, own_low, scope_distinct}
use Rattle.obs_placement.proofs.Lawful.{InOrder, is_answer, order_distinct, order_price, sorted, sorted_from, sorted_in, sorted_order}

-- different numbers that are the same in both lists
same_count : (xs ys : List ℕ) → IsDistinct xs → IsDistinct ys → ((x : ℕ) → In x xs → In x ys) → ((x : ℕ) → In x ys → In x xs) → length xs ≡ length ys
same_count xs ys d e to back = let a = length-within xs ys d to in let b = length-within ys xs e back in omega (arith, a, b)

-- and those of them that pass
same_passing : (P : ℕ → Bool) (xs ys : List ℕ) → IsDistinct xs → IsDistinct ys → ((x : ℕ) → In x xs → In x ys) → ((x : ℕ) → In x ys → In x xs) → length (filter P xs) ≡ length (filter P ys)
same_passing P xs ys d e to back =
    same_count (filter P xs) (filter P ys) (IsDistinct-filter P xs d) (IsDistinct-filter P ys e)
    (λ x i. let u = In-filter_from P x xs i in In-filter P x ys (to x u.0) u.1)
    (λ x i. let u = In-filter_from P x ys i in In-filter P x xs (back x u.0) u.1)

none_below : (price : ℕ → ℕ) (xs : List ℕ) → filter (is_below price 0) xs ≡ []
none_below price [] = refl
none_below price (x ∷ xs) = rw (le-ltb (price x) 0 (omega arith)) (none_below price xs)

pub one_most : (b : Bool) (n : ℕ) → n ≡ (if b then 1 else 0) → n ≤ 1
one_most true n e = omega (arith, e)
one_most false n e = omega (arith, e)

none_more : (b : Bool) (n : ℕ) → b ≡ false → n ≡ (if b then 1 else 0) → n ≡ 0
none_more true n f e = clash refl f
none_more false n f e = e

-- of one item more one more passes, or none
more_passing : (P : ℕ → Bool) (x : ℕ) (xs : List ℕ) (n : ℕ) → n ≡ length (filter P xs) → n + (if P x then 1 else 0) ≡ length (filter P (x ∷ xs))
more_passing P x xs n e = elim (cases_Bool (P x)) [ inl t ↦ rw t (omega (arith, e)) | inr f ↦ rw f (omega (arith, e)) ]

-- the greatest length of the items below a price is the number of chosen ones
module _ (n : ℕ) (ends : List (Option Ends)) (touches : List Touch) (meters : ℕ) (prices : List ℕ) (ok : AreBranches n ends) where
  abbrev price : ℕ → ℕ
  price = price_of meters prices

  abbrev chosen : ℕ → Bool
  chosen = is_chosen n ends touches price

  abbrev every : List ℕ
  every = sorted price (live_items ends touches)

  in_order : InOrder price every
  in_order = sorted_order price (live_items ends touches) (live_items-distinct ends touches)

  answer : IsAnswer (graph_matroid n ends) (touch_at ends touches) [] every (filter chosen every)
  answer = is_answer n ends touches ok price [] every tt in_order
      (λ x i. live-from_live_items ends touches x (sorted_from price (live_items ends touches) x i)) (λ x i. absurd i)
      (λ x t. inr (sorted_in price (live_items ends touches) x (In-live ends touches x t))) (λ x y i. absurd i)

  apart : IsApart [] every
  apart = record { items_differ = tt; candidates_differ = order_distinct price every in_order; apart = λ x i j. j }

  no_pair : (B : List Pair) → IsAssignment (graph_matroid n ends) (touch_at ends touches) [] B → length B ≤ 0
  no_pair [] b = omega arith
  no_pair (p ∷ B) b = absurd (b.of_items p (inl refl))

  of_nothing : IsRho (graph_matroid n ends) (touch_at ends touches) [] 0
  of_nothing = record {
    longest = [];
    assigns = record { of_items = λ p i. absurd i; touched = λ p i. absurd i; different = tt; independent = tt };
    long = refl;
    none_longer = no_pair;
  }

  module _ (t : ℕ) where
    abbrev scope : List ℕ
    scope = scope_of ends touches price t

    scope_to : (x : ℕ) → In x scope → In x (below price t every)
    scope_to x i = let u = In-filter_from (is_below price t) x (live_items ends touches) i in In-filter (λ c. ltb (price c) t) x every (sorted_in price (live_items ends touches) x u.0) u.1

    scope_back : (x : ℕ) → In x (below price t every) → In x scope
    scope_back x i = let u = In-filter_from (λ c. ltb (price c) t) x every i in In-filter (is_below price t) x (live_items ends touches) (sorted_from price (live_items ends touches) x u.0) u.1

    raised_same : length (below price t (filter chosen every)) ≡ raised_below n ends touches price t
    raised_same =
        same_count (below price t (filter chosen every)) (filter chosen scope)
        (IsDistinct-filter (λ c. ltb (price c) t) (filter chosen every) (IsDistinct-filter chosen every (order_distinct price every in_order)))
        (IsDistinct-filter chosen scope (scope_distinct n ends touches ok price t))
        (λ x i.
        let u = In-filter_from (λ c. ltb (price c) t) x (filter chosen every) i in
        let v = In-filter_from chosen x every u.0 in
        In-filter chosen x scope (scope_back x (In-filter (λ c. ltb (price c) t) x every v.0 u.1)) v.1)
        (λ x i.
        let u = In-filter_from chosen x scope i in
        let v = In-filter_from (λ c. ltb (price c) t) x every (scope_to x u.0) in
        In-filter (λ c. ltb (price c) t) x (filter chosen every) (In-filter chosen x every v.0 u.1) v.1)

    rho_raised : IsRho (graph_matroid n ends) (touch_at ends touches) scope (length (below price t (filter chosen every)))
    rho_raised =
        let k = answer_below (graph_matroid n ends) (IsMatroid-graph n ends ok) (touch_at ends touches) price t [] every (filter chosen every) 0 answer apart (order_price price every in_order) of_nothing in
        let e : 0 + length (below price t (filter chosen every)) ≡ length (below price t (filter chosen every)) = omega arith in
        IsRho-same (graph_matroid n ends) (IsMatroid-graph n ends ok) (touch_at ends touches) (below price t every) scope (length (below price t (filter chosen every))) scope_back scope_to
        (subst (λ (r : ℕ). IsRho (graph_matroid n ends) (touch_at ends touches) (below price t every) r) e k)

    -- the rank of a layer and its other items are as many as the chosen items below its price
    pub layer_raised : layer_rank n ends touches price t + layer_outside n ends touches price t ≡ raised_below n ends touches price t
    layer_raised =
        rho_same (graph_matroid n ends) (touch_at ends touches) scope (layer_rank n ends touches price t + layer_outside n ends touches price t) (length (below price t (filter chosen every)))
        (tight_scope n ends touches meters prices ok t) rho_raised
        ∙ raised_same

    -- the items that a layer lists and its other items are all live items below its price
    pub layer_live : (since : List ℕ) → length since ≡ length touches → ((m : ℕ) → ltb (since_at since m) t ≡ is_listed_at n ends touches price t m)
        → count_known since t + layer_outside n ends touches price t ≡ live_below ends touches price t
    layer_live since count known =
        let split = length-split (is_listed_at n ends touches price t) scope in
        let e : count_known since t ≡ length (layer_items n ends touches price t) =
        same_count (filter (λ m. ltb (since_at since m) t) (range_with_len 0 (length since))) (layer_items n ends touches price t)
        (IsDistinct-filter (λ m. ltb (since_at since m) t) (range_with_len 0 (length since)) (range_distinct 0 (length since)))
        (IsDistinct-filter (is_listed_at n ends touches price t) scope (scope_distinct n ends touches ok price t))
        (λ x i. (own_in n ends touches ok price t x).1 (sym (known x) ∙ (In-filter_from (λ m. ltb (since_at since m) t) x (range_with_len 0 (length since)) i).1))
        (λ x i.
        let y = (own_in n ends touches ok price t x).0 i in
        let l = own_low n ends touches ok price t x y in
        In-filter (λ m. ltb (since_at since m) t) x (range_with_len 0 (length since)) (below_in (length since) x (omega (arith, l, count))) (known x ∙ y)) in
        omega (arith, split, e)

module _ (g : Graph) (touches : List Touch) (price : ℕ → ℕ) (keys : List (ℕ × ℕ)) where
  abbrev raises : ℕ → Bool
  raises = is_chosen g.vertices g.ends touches price

  abbrev counted : ℕ → Tally → Type 0
  counted k t = AreCounted g touches price keys k t

  pub AreCounted-none : counted 0 (record { price = 0; live_below = 0; raised_below = 0; live = 0; raised = 0 })
  AreCounted-none = record {
    list = [];
    first = record { distinct = tt; from = λ x i. absurd i; all = λ k l. absurd (omega (arith, l)) };
    live = refl;
    raised = refl;
    few = omega arith;
    below = rw (none_below price (live_items g.ends touches)) refl;
    below_raised = rw (none_below price (live_items g.ends touches)) refl;
    passed = λ j l. absurd (omega (arith, l));
    coming = λ j l m. omega arith;
  }

  -- no more are chosen than are live
  pub AreCounted-fewer : (k : ℕ) (t : Tally) → counted k t → t.raised ≤ t.live
  AreCounted-fewer k t h = let s = length-split raises h.list in let a = h.live in let b = h.raised in omega (arith, s, a, b)

  module _ (order : IsOrder price (length touches) keys) (k : ℕ) (low : k < length touches) (t : Tally) (h : counted k t) where
    abbrev next : ℕ
    next = item_at keys k

    later_dear : (j : ℕ) → k ≤ j → j < length touches → price next ≤ price (item_at keys j)
    later_dear j l m = elim (cases_eq k j) [
      | inl e ↦ let q = ap (λ (x : ℕ). price (item_at keys x)) e in omega (arith, q)
      | inr n ↦ earlier_cheap (price next) (price (item_at keys j)) next (item_at keys j) (order.rising k j (omega (arith, l, n)) m)
    ]

    module _ (more : t.price < price next) where
      to_scope : (x : ℕ) → In x h.list → In x (scope_of g.ends touches price (price next))
      to_scope x i =
          let v = h.first.from x i in
          let d = h.passed v.1 v.2 in
          let e : price (item_at keys v.1) ≡ price x = ap price v.3 in
          In-filter (is_below price (price next)) x (live_items g.ends touches) (In-live g.ends touches x v.0) (lt-ltb (price x) (price next) (omega (arith, d, e, more)))

      from_scope : (x : ℕ) → In x (scope_of g.ends touches price (price next)) → In x h.list
      from_scope x i =
          let u = In-filter_from (is_below price (price next)) x (live_items g.ends touches) i in
          let y = live-from_live_items g.ends touches x u.0 in
          let f = order.found x (live_low g.ends touches x y) in
          let e : price (item_at keys f.0) ≡ price x = ap price f.2 in
          let b = ltb-true (price x) (price next) u.1 in
          elim (cases_lt f.0 k) [
            | inl l ↦ In_same x (item_at keys f.0) h.list (sym f.2) (h.first.all f.0 l (subst (λ (z : ℕ). is_live g.ends touches z ≡ true) (sym f.2) y))
            | inr l ↦ let d = later_dear f.0 l f.1 in absurd (omega (arith, d, e, b))
          ]

    -- at the price of the next item
    pub AreCounted-price : (ok : AreBranches g.vertices g.ends) (p : ℕ) → p ≡ price next → (u : Tally) → (p ≤ t.price → u ≡ t)
        → (t.price < p → u ≡ record { price = p; live_below = t.live; raised_below = t.raised; live = t.live; raised = t.raised }) → counted k u × (u.price ≡ price next)
    AreCounted-price ok p e u same higher = elim (cases_lt t.price p) [
      | inr l ↦ let c = h.coming k (omega arith) low in let s = same l in let q = ap (λ (x : Tally). x.price) s in (subst (λ (x : Tally). counted k x) (sym s) h, omega (arith, q, c, e, l))
      | inl l ↦
          let s = higher l in
          let more : t.price < price next = omega (arith, l, e) in
          let d = scope_distinct g.vertices g.ends touches ok price (price next) in (
            subst (λ (x : Tally). counted k x) (sym s) (record {
              list = h.list;
              first = h.first;
              live = h.live;
              raised = h.raised;
              few = h.few;
              below = h.live ∙ (same_count h.list (scope_of g.ends touches price (price next)) h.first.distinct d (to_scope more) (from_scope more) ∙ ap (live_below g.ends touches price) (sym e));
              below_raised = h.raised
                  ∙ (same_passing raises h.list (scope_of g.ends touches price (price next)) h.first.distinct d (to_scope more) (from_scope more)
                  ∙ ap (raised_below g.vertices g.ends touches price) (sym e));
              passed = λ j i. let a = h.passed j i in omega (arith, a, l);
              coming = λ j i m. let a = later_dear j i m in omega (arith, a, e);
            }),
            ap (λ (x : Tally). x.price) s ∙ e,
          )
    ]

  module _ (order : IsOrder price (length touches) keys) (k : ℕ) (low : k < length touches) (t : Tally) (h : counted k t) (at : t.price ≡ price (item_at keys k)) where
    abbrev this : ℕ
    this = item_at keys k

    fresh : In this h.list → ⊥
    fresh i =
        let v = h.first.from this i in
        let r = order.rising v.1 k v.2 low in
        let s : is_earlier price this this ≡ true = subst (λ (z : ℕ). is_earlier price this z ≡ true) v.3 r in
        earlier_not_both (price this) (price this) this this s s

    passed_too : (j : ℕ) → j < k + 1 → price (item_at keys j) ≤ t.price
    passed_too j l = elim (cases_eq j k) [
      | inl e ↦ let q = ap (λ (x : ℕ). price (item_at keys x)) e in omega (arith, q, at)
      | inr n ↦ h.passed j (omega (arith, l, n))
    ]

    abbrev after : ℕ → ℕ → Tally
    after live raised = record { price = t.price; live_below = t.live_below; raised_below = t.raised_below; live = t.live + live; raised = t.raised + raised }

    raised_more : ℕ
    raised_more = if raises this then 1 else 0

    live_more : is_live g.ends touches this ≡ true → counted (k + 1) (after 1 raised_more)
    unfolding raised_more
    live_more y = record {
      list = this ∷ h.list;
      first = record {
        distinct = (fresh, h.first.distinct);
        from = λ x i. elim i [
          | inl e ↦ (subst (λ (z : ℕ). is_live g.ends touches z ≡ true) (sym e) y, k, omega arith, sym e)
          | inr j ↦ let v = h.first.from x j in (v.0, v.1, (let l = v.2 in omega (arith, l)), v.3)
        ];
        all = λ j l z. elim (cases_eq j k) [
          | inl e ↦ inl (ap (item_at keys) e)
          | inr n ↦ inr (h.first.all j (omega (arith, l, n)) z)
        ];
      };
      live = let a = h.live in omega (arith, a);
      raised = more_passing raises this h.list t.raised h.raised;
      few = let f = h.few in omega (arith, f);
      below = h.below;
      below_raised = h.below_raised;
      passed = passed_too;
      coming = λ j i m. h.coming j (omega (arith, i)) m;
    }

    idle_more : is_live g.ends touches this ≡ false → counted (k + 1) (after 0 raised_more)
    unfolding raised_more
    idle_more y = record {
      list = h.list;
      first = record {
        distinct = h.first.distinct;
        from = λ x i. let v = h.first.from x i in (v.0, v.1, (let l = v.2 in omega (arith, l)), v.3);
        all = λ j l z. elim (cases_eq j k) [
          | inl e ↦ clash (subst (λ (x : ℕ). is_live g.ends touches (item_at keys x) ≡ true) e z) y
          | inr n ↦ h.first.all j (omega (arith, l, n)) z
        ];
      };
      live = let a = h.live in omega (arith, a);
      raised = let b = h.raised in let none = none_more (raises this) raised_more (rw y refl) refl in omega (arith, b, none);
      few = let f = h.few in omega (arith, f);
      below = h.below;
      below_raised = h.below_raised;
      passed = passed_too;
      coming = λ j i m. h.coming j (omega (arith, i)) m;
    }

    -- the next item is counted
    pub AreCounted-more : counted (k + 1) (after (if is_live g.ends touches this then 1 else 0) (if raises this then 1 else 0))
    unfolding raised_more
    AreCounted-more = elim (cases_Bool (is_live g.ends touches this)) [
      | inl y ↦ subst (λ (b : Bool). counted (k + 1) (after (if b then 1 else 0) (if raises this then 1 else 0))) (sym y) (live_more y)
      | inr y ↦ subst (λ (b : Bool). counted (k + 1) (after (if b then 1 else 0) (if raises this then 1 else 0))) (sym y) (idle_more y)
    ]
