-- The chosen candidates are the answer of the theory, over any order by price and position.
use Rattle.std.proofs.Common.{◌≡◌, ℕ, ◌+◌, ◌≤◌, ◌<◌, Bool, true, false, ◌||◌, ◌&&◌, not, cond, Option, List, [], ◌∷◌, ◌++◌, length, refl, sym, ap, inl, inr, arith, subst, eqb, ltb, ◌⊎◌}
use Rattle.std.specs.Prelude.{filter, nat_lt}
use Rattle.std.specs.List.{sum_by}
use Rattle.std.proofs.lemmas.Bool.{cases_Bool, cases_lt, lt-ltb, ltb-true, not-true}
use Rattle.std.proofs.lemmas.Bool.Decides.{nat_tests}
use Rattle.std.proofs.lemmas.List.Sums.{sum_by-cons}
use Rattle.obs_graph.specs.declared.Ends.{Ends}
use Rattle.obs_graph.specs.Positions.{AreBranches}
use Rattle.obs_matroid.specs.Lists.{In, IsDistinct}
use Rattle.obs_matroid.specs.inner.Matroid.{IsMatroid}
use Rattle.obs_matroid.specs.inner.Assignments.{IsRho}
use Rattle.obs_matroid.specs.inner.Placement.{IsAnswer, IsApart, IsByPrice, chosen, finished, passed}
use Rattle.obs_matroid.proofs.Answer.{answer_completes}
use Rattle.obs_matroid.proofs.Cheapest.{answer_costs_least}
use Rattle.obs_matroid.proofs.Critical.{rho_exists, rho_same}
use Rattle.obs_matroid.proofs.Lists.{clash, In_same, In-append_left, In-append_right, In-append_cases, In-filter, In-filter_from, IsDistinct-filter}
use Rattle.obs_matroid.proofs.Placement.{IsRho-same}
use Rattle.obs_meter.specs.declared.Touch.{Touch}
use Rattle.obs_meter.specs.Assignments.{IsRhoAt}
use Rattle.obs_meter.specs.Spanned.{graph_matroid}
use Rattle.obs_meter.specs.Touches.{is_live, live_items, touch_at}
use Rattle.obs_meter.proofs.Assigned.{live_items-distinct, rho-from_matroid, rho-to_matroid}
use Rattle.obs_meter.proofs.Instance.{IsMatroid-graph}
use Rattle.obs_meter.proofs.Live.{In-live, live-from_live_items}
use Rattle.obs_meter.specs.Costs.{live_candidates, live_meters, price_of}
use Rattle.obs_rankcut.specs.inner.Costs.{DoAsMuch}
use Rattle.obs_placement.specs.Answer.{earlier_items, is_chosen}
use Rattle.obs_placement.specs.inner.Laws.{answer_at}
use Rattle.obs_placement.specs.Order.{is_earlier}
use Rattle.obs_placement.proofs.Going.{earlier_cheap, earlier_not_both}
use Rattle.obs_placement.proofs.Stepped.{earlier-out, raising_by}

either : (p q a b : ℕ) → (ltb p q || (eqb p q && ltb a b)) ≡ false → (a ≡ b → ⊥) → (ltb q p || (eqb q p && ltb b a)) ≡ true
either p q a b f n = grind (arith, nat_tests, f, n)

earlier_chain : (p q r a b c : ℕ) → (ltb p q || (eqb p q && ltb a b)) ≡ true → (ltb q r || (eqb q r && ltb b c)) ≡ true → (ltb p r || (eqb p r && ltb a c)) ≡ true
earlier_chain p q r a b c f h = grind (arith, nat_tests, f, h)

module _ (price : ℕ → ℕ) where
  -- each is taken before those after it
  abbrev pub InOrder : List ℕ → Type 0
  InOrder [] = Unit {0}
  InOrder (c ∷ es) = ((x : ℕ) → In x es → is_earlier price x c ≡ true) × InOrder es

  abbrev pub insert : ℕ → List ℕ → List ℕ
  insert c [] = c ∷ []
  insert c (e ∷ es) = cond (is_earlier price e c) (c ∷ e ∷ es) (e ∷ insert c es)

  abbrev pub sorted : List ℕ → List ℕ
  sorted [] = []
  sorted (c ∷ es) = insert c (sorted es)

  insert_in : (c : ℕ) (es : List ℕ) (x : ℕ) → In x (c ∷ es) → In x (insert c es)
  insert_in c [] x i = i
  insert_in c (e ∷ es) x i = elim (cases_Bool (is_earlier price e c)) [
    | inl t ↦ rw t i
    | inr f ↦ rw f (elim i [ inl w ↦ inr (insert_in c es x (inl w)) | inr j ↦ elim j [ inl w ↦ inl w | inr k ↦ inr (insert_in c es x (inr k)) ] ])
  ]

  insert_from : (c : ℕ) (es : List ℕ) (x : ℕ) → In x (insert c es) → In x (c ∷ es)
  insert_from c [] x i = i
  insert_from c (e ∷ es) x i = elim (cases_Bool (is_earlier price e c)) [
    | inl t ↦ rw t at i
    | inr f ↦
        let j : In x (e ∷ insert c es) = rw f at i in
        elim j [ inl w ↦ inr (inl w) | inr k ↦ elim (insert_from c es x k) [ inl w ↦ inl w | inr h ↦ inr (inr h) ] ]
  ]

  insert_order : (c : ℕ) (es : List ℕ) → (In c es → ⊥) → InOrder es → InOrder (insert c es)
  insert_order c [] out o = ((λ x i. absurd i), tt)
  insert_order c (e ∷ es) out o = elim (cases_Bool (is_earlier price e c)) [
    | inl t ↦ rw t (
      (λ x i. elim i [
        | inl w ↦ subst (λ (y : ℕ). is_earlier price y c ≡ true) (sym w) t
        | inr j ↦ earlier_chain (price c) (price e) (price x) c e x t (o.0 x j)
      ]),
      o,
    )
    | inr f ↦ rw f (
      (λ x i. elim (insert_from c es x i) [
        | inl w ↦ subst (λ (y : ℕ). is_earlier price y e ≡ true) (sym w) (either (price c) (price e) c e f (λ w2. out (inl w2)))
        | inr j ↦ o.0 x j
      ]),
      insert_order c es (λ i. out (inr i)) o.1,
    )
  ]

  pub sorted_in : (es : List ℕ) (x : ℕ) → In x es → In x (sorted es)
  sorted_in [] x i = i
  sorted_in (c ∷ es) x (inl e) = insert_in c (sorted es) x (inl e)
  sorted_in (c ∷ es) x (inr i) = insert_in c (sorted es) x (inr (sorted_in es x i))

  pub sorted_from : (es : List ℕ) (x : ℕ) → In x (sorted es) → In x es
  sorted_from [] x i = i
  sorted_from (c ∷ es) x i = elim (insert_from c (sorted es) x i) [ inl e ↦ inl e | inr j ↦ inr (sorted_from es x j) ]

  pub sorted_order : (es : List ℕ) → IsDistinct es → InOrder (sorted es)
  sorted_order [] d = tt
  sorted_order (c ∷ es) d = insert_order c (sorted es) (λ i. d.0 (sorted_from es c i)) (sorted_order es d.1)

  pub order_price : (es : List ℕ) → InOrder es → IsByPrice price es
  order_price [] o = tt
  order_price (c ∷ es) o = ((λ x i. earlier_cheap (price c) (price x) c x (o.0 x i)), order_price es o.1)

  pub order_distinct : (es : List ℕ) → InOrder es → IsDistinct es
  order_distinct [] o = tt
  order_distinct (c ∷ es) o = ((λ i. earlier_not_both (price c) (price c) c c (o.0 c i) (o.0 c i)), order_distinct es o.1)

  -- the sum over those that pass does not depend on the order
  module _ (P : ℕ → Bool) where
    abbrev counted : ℕ → ℕ
    counted c = cond (P c) (price c) 0

    sum_one : (c : ℕ) (es : List ℕ) → sum_by price (filter P (c ∷ es)) ≡ counted c + sum_by price (filter P es)
    sum_one c es = elim (cases_Bool (P c)) [
      | inl t ↦ rw t (sum_by-cons price c (filter P es))
      | inr f ↦ rw f (omega arith)
    ]

    insert_sum : (c : ℕ) (es : List ℕ) → sum_by price (filter P (insert c es)) ≡ counted c + sum_by price (filter P es)
    insert_sum c [] = sum_one c []
    insert_sum c (e ∷ es) = elim (cases_Bool (is_earlier price e c)) [
      | inl t ↦ rw t (sum_one c (e ∷ es))
      | inr f ↦ rw f (let a = sum_one e (insert c es) in let b = insert_sum c es in let d = sum_one e es in omega (arith, a, b, d))
    ]

    pub sorted_sum : (es : List ℕ) → sum_by price (filter P (sorted es)) ≡ sum_by price (filter P es)
    sorted_sum [] = refl
    sorted_sum (c ∷ es) = let a = insert_sum c (sorted es) in let b = sorted_sum es in let d = sum_one c es in omega (arith, a, b, d)

meter_first : (p q x y : ℕ) → p ≡ 0 → x < y → (ltb p q || (eqb p q && ltb x y)) ≡ true
meter_first p q x y e l = grind (arith, nat_tests, e, l)

module _ (n : ℕ) (ends : List (Option Ends)) (touches : List Touch) (ok : AreBranches n ends) (price : ℕ → ℕ) where
  laws : IsMatroid (graph_matroid n ends)
  laws = IsMatroid-graph n ends ok

  -- over any order by price and position the chosen ones are the answer
  pub is_answer : (N es : List ℕ) → IsDistinct N → InOrder price es → ((x : ℕ) → In x es → is_live ends touches x ≡ true) → ((x : ℕ) → In x N → is_live ends touches x ≡ true)
      → ((x : ℕ) → is_live ends touches x ≡ true → In x N ⊎ In x es) → ((x y : ℕ) → In x N → In y es → is_earlier price y x ≡ true)
      → IsAnswer (graph_matroid n ends) (touch_at ends touches) N es (filter (is_chosen n ends touches price) es)
  is_answer N [] d o le ln cover before = finished
  is_answer N (c ∷ es) d o le ln cover before =
      let mat = graph_matroid n ends in
      let touch = touch_at ends touches in
      let E = earlier_items ends touches price c in
      let out : In c N → ⊥ = λ i. earlier_not_both (price c) (price c) c c (before c c i (inl refl)) (before c c i (inl refl)) in
      let to : (x : ℕ) → In x N → In x E = λ x i. In-filter (is_earlier price c) x (live_items ends touches) (In-live ends touches x (ln x i)) (before x c i (inl refl)) in
      let back : (x : ℕ) → In x E → In x N = λ x i.
      let u = In-filter_from (is_earlier price c) x (live_items ends touches) i in
      elim (cover x (live-from_live_items ends touches x u.0)) [
        | inl j ↦ j
        | inr j ↦ elim j [
          | inl e ↦ absurd (earlier-out ends touches price c (In_same c x E (sym e) i))
          | inr k ↦ absurd (earlier_not_both (price x) (price c) x c u.1 (o.0 x k))
        ]
      ] in
      let rest = is_answer (c ∷ N) es (out, d) o.1 (λ x i. le x (inr i)) (λ x i. elim i [ inl e ↦ le x (inl e) | inr j ↦ ln x j ])
      (λ x t. elim (cover x t) [ inl j ↦ inl (inr j) | inr j ↦ elim j [ inl e ↦ inl (inl e) | inr k ↦ inr k ] ])
      (λ x y i j. elim i [ inl e ↦ subst (λ (z : ℕ). is_earlier price y z ≡ true) (sym e) (o.0 y j) | inr k ↦ before x y k (inr j) ]) in
      let p = rho_exists mat laws touch N d in
      let q = rho_exists mat laws touch (c ∷ N) (out, d) in
      let e : is_chosen n ends touches price c ≡ nat_lt p.0 q.0 = rw (le c (inl refl)) (raising_by mat laws touch E c p.0 q.0
      (earlier-out ends touches price c, IsDistinct-filter (is_earlier price c) (live_items ends touches) (live_items-distinct ends touches))
      (IsRho-same mat laws touch N E p.0 to back p.1)
      (IsRho-same mat laws touch (c ∷ N) (c ∷ E) q.0 (λ x i. elim i [ inl w ↦ inl w | inr j ↦ inr (to x j) ]) (λ x i. elim i [ inl w ↦ inl w | inr j ↦ inr (back x j) ]) q.1)) in
      elim (cases_Bool (nat_lt p.0 q.0)) [
        | inl t ↦ rw (e, t) (chosen (λ r s a b.
            let k = ltb-true p.0 q.0 t in
            let u = rho_same mat touch N p.0 r p.1 a in
            let v = rho_same mat touch (c ∷ N) q.0 s q.1 b in omega (arith, k, u, v)) rest)
        | inr f ↦ rw (e, f) (passed (λ h. clash (lt-ltb p.0 q.0 (h p.0 q.0 p.1 q.1)) f) rest)
      ]

module _ (n : ℕ) (ends : List (Option Ends)) (touches : List Touch) (meters : ℕ) (prices : List ℕ) (ok : AreBranches n ends) where
  abbrev pub price : ℕ → ℕ
  price = price_of meters prices

  abbrev pub M : List ℕ
  M = live_meters ends touches meters

  abbrev pub E : List ℕ
  E = live_candidates ends touches meters

  abbrev pub es : List ℕ
  es = sorted price E

  abbrev pub xs : List ℕ
  xs = filter (is_chosen n ends touches price) es

  pub es_candidate : (x : ℕ) → In x es → In x (live_items ends touches) × (not (nat_lt x meters) ≡ true)
  es_candidate x i = In-filter_from (λ m. not (nat_lt m meters)) x (live_items ends touches) (sorted_from price E x i)

  pub m_meter : (x : ℕ) → In x M → In x (live_items ends touches) × (nat_lt x meters ≡ true)
  m_meter x i = In-filter_from (λ m. nat_lt m meters) x (live_items ends touches) i

  cover : (x : ℕ) → In x (live_items ends touches) → In x M ⊎ In x es
  cover x i = elim (cases_Bool (nat_lt x meters)) [
    | inl t ↦ inl (In-filter (λ m. nat_lt m meters) x (live_items ends touches) i t)
    | inr f ↦ inr (sorted_in price E x (In-filter (λ m. not (nat_lt m meters)) x (live_items ends touches) i (ap not f)))
  ]

  pub meters_distinct : IsDistinct M
  meters_distinct = IsDistinct-filter (λ m. nat_lt m meters) (live_items ends touches) (live_items-distinct ends touches)

  pub in_order : InOrder price es
  in_order = sorted_order price E (IsDistinct-filter (λ m. not (nat_lt m meters)) (live_items ends touches) (live_items-distinct ends touches))

  meter_before : (x y : ℕ) → In x M → In y es → is_earlier price y x ≡ true
  meter_before x y i j =
      let t = (m_meter x i).1 in
      let l = ltb-true x meters t in
      let f = not-true (nat_lt y meters) (es_candidate y j).1 in
      let low : x < y = elim (cases_lt y meters) [ inl k ↦ clash (lt-ltb y meters k) f | inr k ↦ omega (arith, l, k) ] in
      let free : price x ≡ 0 = rw t refl in
      meter_first (price x) (price y) x y free low

  pub answer : IsAnswer (graph_matroid n ends) (touch_at ends touches) M es xs
  answer = is_answer n ends touches ok price M es meters_distinct in_order
      (λ x i. live-from_live_items ends touches x (es_candidate x i).0) (λ x i. live-from_live_items ends touches x (m_meter x i).0)
      (λ x t. cover x (In-live ends touches x t)) meter_before

  pub apart : IsApart M es
  apart = record {
    items_differ = meters_distinct;
    candidates_differ = order_distinct price es in_order;
    apart = λ x i j. clash (m_meter x j).1 (not-true (nat_lt x meters) (es_candidate x i).1);
  }

  module _ (r : ℕ) (all : IsRhoAt ends touches (live_items ends touches) r) where
    abbrev pub base : (s : ℕ) × IsRho (graph_matroid n ends) (touch_at ends touches) M s
    base = rho_exists (graph_matroid n ends) (IsMatroid-graph n ends ok) (touch_at ends touches) M meters_distinct

    abbrev pub completes : IsRho (graph_matroid n ends) (touch_at ends touches) (M ++ es) (base.0 + length xs) × IsRho (graph_matroid n ends) (touch_at ends touches) (M ++ xs) (base.0 + length xs)
    completes = answer_completes (graph_matroid n ends) (IsMatroid-graph n ends ok) (touch_at ends touches) M es xs base.0 answer apart base.1

    pub same_length : r ≡ base.0 + length xs
    same_length =
        let mat = graph_matroid n ends in
        let touch = touch_at ends touches in
        rho_same mat touch (M ++ es) r (base.0 + length xs)
        (IsRho-same mat (IsMatroid-graph n ends ok) touch (live_items ends touches) (M ++ es) r
        (λ x i. elim (cover x i) [ inl j ↦ In-append_left x M es j | inr j ↦ In-append_right x M es j ])
        (λ x i. elim (In-append_cases x M es i) [ inl j ↦ (m_meter x j).0 | inr j ↦ (es_candidate x j).0 ])
        (rho-to_matroid n ends touches (live_items ends touches) r all))
        completes.0

    none_cheaper_in : (X : List ℕ) → DoAsMuch ends touches meters r X → sum_by price (filter (is_chosen n ends touches price) E) ≤ sum_by price X
    none_cheaper_in X d =
        let c = answer_costs_least (graph_matroid n ends) (IsMatroid-graph n ends ok) (touch_at ends touches) price M es apart xs X base.0 answer (order_price price es in_order) base.1
        (λ x i. sorted_in price E x (d.candidates x i))
        (subst (λ (s : ℕ). IsRho (graph_matroid n ends) (touch_at ends touches) (M ++ X) s) same_length (rho-to_matroid n ends touches (M ++ X) r d.longest)) in
        let s = sorted_sum price (is_chosen n ends touches price) E in omega (arith, c, s)

    enough_in : DoAsMuch ends touches meters r (filter (is_chosen n ends touches price) E)
    enough_in =
        let P = is_chosen n ends touches price in
        let A = filter P E in
        let to : (x : ℕ) → In x xs → In x A = λ x i. let u = In-filter_from P x es i in In-filter P x E (sorted_from price E x u.0) u.1 in
        let back : (x : ℕ) → In x A → In x xs = λ x i. let u = In-filter_from P x E i in In-filter P x es (sorted_in price E x u.0) u.1 in
        record {
          candidates = λ x i. (In-filter_from P x E i).0;
          longest = rho-from_matroid n ends touches (M ++ A) r
              (IsRho-same (graph_matroid n ends) (IsMatroid-graph n ends ok) (touch_at ends touches) (M ++ xs) (M ++ A) r
              (λ x i. elim (In-append_cases x M xs i) [ inl j ↦ In-append_left x M A j | inr j ↦ In-append_right x M A (to x j) ])
              (λ x i. elim (In-append_cases x M A i) [ inl j ↦ In-append_left x M xs j | inr j ↦ In-append_right x M xs (back x j) ])
              (subst (λ (s : ℕ). IsRho (graph_matroid n ends) (touch_at ends touches) (M ++ xs) s) (sym same_length) completes.1));
        }

pub none_cheaper_at : (n : ℕ) (ends : List (Option Ends)) (touches : List Touch) (meters r : ℕ) (prices X : List ℕ) → AreBranches n ends
    → IsRhoAt ends touches (live_items ends touches) r → DoAsMuch ends touches meters r X
    → sum_by (price_of meters prices) (answer_at n ends touches meters prices) ≤ sum_by (price_of meters prices) X
none_cheaper_at n ends touches meters r prices X ok all d = none_cheaper_in n ends touches meters prices ok r all X d

pub chosen_enough : (n : ℕ) (ends : List (Option Ends)) (touches : List Touch) (meters r : ℕ) (prices : List ℕ) → AreBranches n ends
    → IsRhoAt ends touches (live_items ends touches) r → DoAsMuch ends touches meters r (answer_at n ends touches meters prices)
chosen_enough n ends touches meters r prices ok all = enough_in n ends touches meters prices ok r all
