-- The layers of a plan show its whole cost.
use Rattle.std.proofs.Common.{◌≡◌, ℕ, zero, suc, ◌+◌, ◌-◌, ◌<◌, ◌≤◌, Bool, not, Option, List, [], ◌∷◌, ◌++◌, length, map, refl, sym, ap, ◌∙◌, arith, inl, inr, ◌⊎◌, subst, nat_lt}
use Rattle.std.specs.Prelude.{filter, flat_map}
use Rattle.std.specs.List.{range_with_len}
use Rattle.std.proofs.lemmas.Bool.{and_parts, cases_Bool, cases_lt, le-ltb, lt-ltb}
use Rattle.std.proofs.lemmas.List.Elements.{filter-append}
use Rattle.obs_graph.specs.declared.Ends.{Ends}
use Rattle.obs_graph.specs.Positions.{AreBranches}
use Rattle.obs_matroid.specs.Lists.{In}
use Rattle.obs_matroid.specs.inner.Assignments.{IsRho}
use Rattle.obs_matroid.specs.inner.Bounds.{bound}
use Rattle.obs_matroid.specs.Placement.{Layer, RunOn, layers_sum, IsShown, below, is_raising}
use Rattle.obs_matroid.specs.inner.Placement.{RunsThrough}
use Rattle.obs_matroid.specs.Values.{is_critical}
use Rattle.obs_matroid.proofs.Answer.{answer_cost, answer_lacks}
use Rattle.obs_matroid.proofs.Computed.{noncritical_tight}
use Rattle.obs_matroid.proofs.Lists.{In-append_cases, In-append_left, In-append_right, In-filter, In-filter_from, filter_all, filter_same}
use Rattle.obs_matroid.proofs.Placement.{IsRho-same}
use Rattle.obs_matroid.proofs.Ranges.{range_in}
use Rattle.obs_meter.specs.declared.Touch.{Touch}
use Rattle.obs_meter.specs.Assignments.{IsRhoAt}
use Rattle.obs_meter.specs.Spanned.{graph_matroid, rank_at}
use Rattle.obs_meter.specs.Touches.{is_live, live_items, touch_at}
use Rattle.obs_meter.proofs.Instance.{IsMatroid-graph}
use Rattle.obs_meter.proofs.Live.{In-live, live_low}
use Rattle.obs_meter.specs.Costs.{live_candidates, live_meters, price_of}
use Rattle.obs_exchange.specs.Laws.{noncritical_in}
use Rattle.obs_placement.specs.Answer.{chosen_of, cost_of, earlier_items, is_chosen}
use Rattle.obs_placement.specs.Layers.{added_items, is_price_of, layers_of, layer_outside, layer_rank, prices_above}
use Rattle.obs_placement.specs.Shown.{bare_layer}
use Rattle.obs_placement.specs.inner.Shown.{bare_layers}
use Rattle.obs_placement.specs.Taking.{is_below, is_listed_at, scope_of}
use Rattle.obs_placement.proofs.Growing.{AreRising, prices_rising, scope_distinct, scope_from}
use Rattle.obs_placement.proofs.Lawful.{es, xs, answer, apart, base, in_order, order_price, same_length, sorted_from, sorted_in, sorted_sum}
use Rattle.obs_placement.proofs.LaidOut.{chosen_price, price_found, price_most, priced_candidate}
use Rattle.obs_placement.proofs.Positions.{cost_is}

rising_above : (t : ℕ) (ts : List ℕ) → AreRising t ts → (x : ℕ) → In x ts → t < x
rising_above t [] r x i = absurd i
rising_above t (u ∷ ts) r x (inl e) = let k = r.0 in omega (arith, k, e)
rising_above t (u ∷ ts) r x (inr i) = let k = r.0 in let l = rising_above u ts r.1 x i in omega (arith, k, l)

none_low : (m : ℕ) (Q : ℕ → Bool) (n a : ℕ) → m ≤ a → filter (λ x. nat_lt x m) (filter Q (range_with_len a n)) ≡ []
none_low m Q zero a l = refl
none_low m Q (suc n) a l =
    let r = none_low m Q n (a + 1) (omega (arith, l)) in
    elim (cases_Bool (Q a)) [ inl t ↦ rw (t, le-ltb a m l) r | inr f ↦ rw f r ]

all_high : (m : ℕ) (Q : ℕ → Bool) (n a : ℕ) → m ≤ a → filter (λ x. not (nat_lt x m)) (filter Q (range_with_len a n)) ≡ filter Q (range_with_len a n)
all_high m Q zero a l = refl
all_high m Q (suc n) a l =
    let r = all_high m Q n (a + 1) (omega (arith, l)) in
    elim (cases_Bool (Q a)) [ inl t ↦ rw (t, le-ltb a m l) (ap (λ xs. a ∷ xs) r) | inr f ↦ rw f r ]

-- numbers below m stand before the others
parted : (m : ℕ) (Q : ℕ → Bool) (n a : ℕ)
    → filter (λ x. nat_lt x m) (filter Q (range_with_len a n)) ++ filter (λ x. not (nat_lt x m)) (filter Q (range_with_len a n)) ≡ filter Q (range_with_len a n)
parted m Q zero a = refl
parted m Q (suc n) a = elim (cases_lt a m) [
  | inl l ↦ elim (cases_Bool (Q a)) [
    | inl t ↦ rw (t, lt-ltb a m l) (ap (λ xs. a ∷ xs) (parted m Q n (a + 1)))
    | inr f ↦ rw f (parted m Q n (a + 1))
  ]
  | inr l ↦ rw (none_low m Q (suc n) a l) (all_high m Q (suc n) a l)
]

module _ (n : ℕ) (ends : List (Option Ends)) (touches : List Touch) (price : ℕ → ℕ) where
  abbrev bare : ℕ → ℕ → List ℕ → List Layer
  bare f u ts = map bare_layer (layers_of n ends touches price f u ts)

  run : (f u : ℕ) (ts : List ℕ) → AreRising f ts → RunOn f (bare f u ts)
  run f u [] r = tt
  run f u (t ∷ ts) r = (refl, r.0, run t (u + length (added_items n ends touches price f t)) ts r.1)

  through : (f u : ℕ) (ts xs : List ℕ) → AreRising f ts → ((c : ℕ) → In c xs → (price c ≤ f) ⊎ In (price c) ts) → RunsThrough price f (bare f u ts) xs
  through f u [] xs r h = λ c i. elim (h c i) [ inl l ↦ l | inr j ↦ absurd j ]
  through f u (t ∷ ts) xs r h =
      let low = r.0 in (
        (λ c i. elim (h c i) [
          | inl l ↦ inl l
          | inr j ↦ inr (elim j [ inl e ↦ omega (arith, e) | inr k ↦ let a = rising_above t ts r.1 (price c) k in omega (arith, a) ])
        ]),
        through t (u + length (added_items n ends touches price f t)) ts xs r.1 (λ c i. elim (h c i) [
          | inl l ↦ inl (omega (arith, l, low))
          | inr j ↦ elim j [ inl e ↦ inl (omega (arith, e)) | inr k ↦ inr k ]
        ]),
      )

  layer_at : (f u : ℕ) (ts : List ℕ) (l : Layer) → In l (bare f u ts)
      → (t : ℕ) × In t ts × (k : ℕ) × (l ≡ record { from = k; to = t; rank = layer_rank n ends touches price t; outside = layer_outside n ends touches price t })
  layer_at f u [] l i = absurd i
  layer_at f u (t ∷ ts) l (inl e) = (t, inl refl, f, e)
  layer_at f u (t ∷ ts) l (inr i) = let r = layer_at t (u + length (added_items n ends touches price f t)) ts l i in (r.0, inr r.1, r.2, r.3)

module _ (n : ℕ) (ends : List (Option Ends)) (touches : List Touch) (meters : ℕ) (prices : List ℕ) (ok : AreBranches n ends) where
  abbrev price : ℕ → ℕ
  price = price_of meters prices

  abbrev metered : List ℕ
  metered = live_meters ends touches meters

  abbrev candidates : List ℕ
  candidates = live_candidates ends touches meters

  abbrev ordered : List ℕ
  ordered = es n ends touches meters prices ok

  -- the items below a price above 0 are the live meters and the live candidates below it
  scope_parts : (t : ℕ) → 0 < t → scope_of ends touches price t ≡ metered ++ below price t candidates
  scope_parts t l =
      let free : filter (is_below price t) metered ≡ metered = filter_all (is_below price t) metered (λ m i.
      let y = (In-filter_from (λ x. nat_lt x meters) m (live_items ends touches) i).1 in rw y (lt-ltb 0 t l)) in
      ap (filter (is_below price t)) (sym (parted meters (is_live ends touches) (length touches) 0))
      ∙ (filter-append (is_below price t) metered candidates ∙ ap (λ ys. ys ++ below price t candidates) free)

  -- the bound of the own items is the greatest length of the items below the price
  pub tight_scope : (t : ℕ) → IsRho (graph_matroid n ends) (touch_at ends touches) (scope_of ends touches price t) (layer_rank n ends touches price t + layer_outside n ends touches price t)
  tight_scope t =
      let mat = graph_matroid n ends in
      let touch = touch_at ends touches in
      let S = scope_of ends touches price t in
      let same : (m : ℕ) → In m S → noncritical_in n ends touches S m ≡ is_listed_at n ends touches price t m = λ m i. let q = scope_from n ends touches ok price t m i in rw (q.0, q.1) refl in
      let a = ap (λ ys. rank_at n ends (flat_map touch ys)) (filter_same (noncritical_in n ends touches S) (is_listed_at n ends touches price t) S same) in
      let b = ap length (filter_same (λ m. not (noncritical_in n ends touches S m)) (λ m. not (is_listed_at n ends touches price t m)) S (λ m i. ap not (same m i))) in
      let e : bound mat touch (λ m. not (is_critical mat touch S m)) S ≡ layer_rank n ends touches price t + layer_outside n ends touches price t =
      ap (λ k. k + length (filter (λ m. not (noncritical_in n ends touches S m)) S)) a ∙ ap (λ k. layer_rank n ends touches price t + k) b in
      subst (λ (r : ℕ). IsRho mat touch S r) e (noncritical_tight mat (IsMatroid-graph n ends ok) touch S (scope_distinct n ends touches ok price t))

  tight_ordered : (t : ℕ) → 0 < t → IsRho (graph_matroid n ends) (touch_at ends touches) (metered ++ below price t ordered) (layer_rank n ends touches price t + layer_outside n ends touches price t)
  tight_ordered t l =
      let B = below price t candidates in
      let C = below price t ordered in
      let e = scope_parts t l in
      IsRho-same (graph_matroid n ends) (IsMatroid-graph n ends ok) (touch_at ends touches) (scope_of ends touches price t) (metered ++ C) (layer_rank n ends touches price t + layer_outside n ends touches price t)
      (λ x i. elim (In-append_cases x metered B (subst (λ (ys : List ℕ). In x ys) e i)) [
        | inl j ↦ In-append_left x metered C j
        | inr j ↦ let u = In-filter_from (λ c. nat_lt (price c) t) x candidates j in In-append_right x metered C (In-filter (λ c. nat_lt (price c) t) x ordered (sorted_in price candidates x u.0) u.1)
      ])
      (λ x i. subst (λ (ys : List ℕ). In x ys) (sym e) (elim (In-append_cases x metered C i) [
        | inl j ↦ In-append_left x metered B j
        | inr j ↦ let u = In-filter_from (λ c. nat_lt (price c) t) x ordered j in In-append_right x metered B (In-filter (λ c. nat_lt (price c) t) x candidates (sorted_from price candidates x u.0) u.1)
      ]))
      (tight_scope t)

  shown_scope : (k t : ℕ) → 0 < t
      → IsShown (graph_matroid n ends) (touch_at ends touches) price metered candidates (record { from = k; to = t; rank = layer_rank n ends touches price t; outside = layer_outside n ends touches price t })
  shown_scope k t l =
      let e = scope_parts t l in record {
        marks = is_listed_at n ends touches price t;
        rank_is = ap (λ ys. rank_at n ends (flat_map (touch_at ends touches) (filter (is_listed_at n ends touches price t) ys))) (sym e);
        outside_is = ap (λ ys. length (filter (λ m. not (is_listed_at n ends touches price t m)) ys)) (sym e);
      }

  module _ (needed : ℕ) (size : length touches ≡ meters + length prices) (all : IsRhoAt ends touches (live_items ends touches) needed) where
    abbrev ks : List ℕ
    ks = chosen_of n ends touches meters prices

    abbrev ts : List ℕ
    ts = prices_above prices ks 0

    abbrev taken : List ℕ
    taken = xs n ends touches meters prices ok

    rising : AreRising 0 ts
    rising = prices_rising prices ks 0

    abbrev less : ℕ
    less = (base n ends touches meters prices ok needed all).0

    needed_is : needed ≡ less + length taken
    needed_is = same_length n ends touches meters prices ok needed all

    -- a chosen candidate is free or has the price of a layer
    cost_at : (c : ℕ) → In c taken → (price c ≤ 0) ⊎ In (price c) ts
    cost_at c i =
        let u = In-filter_from (is_chosen n ends touches price) c ordered i in
        let low = live_low ends touches c (and_parts (is_live ends touches c) (is_raising (graph_matroid n ends) (touch_at ends touches) (earlier_items ends touches price c) c) u.1).0 in
        elim (cases_lt 0 (price c)) [
          | inr l ↦ inl l
          | inl l ↦
              let p = chosen_price n ends touches meters prices size c low u.1 l in
              let r = price_found prices ks (price c) p in
              let m = price_most prices ks r.0 r.1 in
              let e = r.2 in
              inr (In-filter (is_price_of prices ks) (price c) (range_with_len (0 + 1) (cost_of prices ks - 0)) (range_in (0 + 1) (cost_of prices ks - 0) (price c) (omega (arith, l)) (omega (arith, m, e))) p)
        ]

    -- and each layer ends at the price of one
    candidate_at : (t : ℕ) → In t ts → (c : ℕ) × In c taken × (price c ≡ t)
    candidate_at t i =
        let r = priced_candidate n ends touches meters prices t (In-filter_from (is_price_of prices ks) t (range_with_len (0 + 1) (cost_of prices ks - 0)) i).1 in
        let live = (and_parts (is_live ends touches r.0) (is_raising (graph_matroid n ends) (touch_at ends touches) (earlier_items ends touches price r.0) r.0) r.3).0 in (
          r.0,
          In-filter (is_chosen n ends touches price) r.0 ordered
              (sorted_in price candidates r.0 (In-filter (λ m. not (nat_lt m meters)) r.0 (live_items ends touches) (In-live ends touches r.0 live) (rw (le-ltb r.0 meters r.1) refl))) r.3,
          r.4,
        )

    run_on : RunOn 0 (bare n ends touches price 0 0 ts)
    run_on = run n ends touches price 0 0 ts rising

    tight_at : (l : Layer) → In l (bare n ends touches price 0 0 ts) → IsRho (graph_matroid n ends) (touch_at ends touches) (metered ++ below price l.to ordered) (l.rank + l.outside)
    tight_at l i =
        let r = layer_at n ends touches price 0 0 ts l i in
        subst (λ (k : Layer). IsRho (graph_matroid n ends) (touch_at ends touches) (metered ++ below price k.to ordered) (k.rank + k.outside)) (sym r.3)
        (tight_ordered r.0 (rising_above 0 ts rising r.0 r.1))

    layers_cost : layers_sum needed (bare n ends touches price 0 0 ts) ≡ cost_of prices ks
    layers_cost =
        let e = answer_cost (graph_matroid n ends) (IsMatroid-graph n ends ok) (touch_at ends touches) price metered ordered taken less (bare n ends touches price 0 0 ts)
        (answer n ends touches meters prices ok) (apart n ends touches meters prices ok) (order_price price ordered (in_order n ends touches meters prices ok)) (base n ends touches meters prices ok needed all).1
        run_on (through n ends touches price 0 0 ts taken rising cost_at) tight_at in
        let a = ap (λ k. layers_sum k (bare n ends touches price 0 0 ts)) needed_is in
        let s = sorted_sum price (is_chosen n ends touches price) candidates in
        let c = cost_is n ends touches meters prices size in
        a ∙ (e ∙ (s ∙ sym c))

    layers_below : (l : Layer) → In l (bare n ends touches price 0 0 ts)
        → IsShown (graph_matroid n ends) (touch_at ends touches) price metered candidates l × (l.rank + l.outside < needed)
    layers_below l i =
        let r = layer_at n ends touches price 0 0 ts l i in
        let w = candidate_at r.0 r.1 in
        let e = w.2 in
        let to : l.to ≡ r.0 = ap (λ (k : Layer). k.to) r.3 in
        let s = answer_lacks (graph_matroid n ends) (IsMatroid-graph n ends ok) (touch_at ends touches) price l.to metered ordered taken less (l.rank + l.outside) w.0
        (answer n ends touches meters prices ok) (apart n ends touches meters prices ok) (order_price price ordered (in_order n ends touches meters prices ok)) (base n ends touches meters prices ok needed all).1
        w.1 (omega (arith, e, to)) (tight_at l i) in
        let k = needed_is in (
          subst (λ (x : Layer). IsShown (graph_matroid n ends) (touch_at ends touches) price metered candidates x) (sym r.3) (shown_scope r.2 r.0 (rising_above 0 ts rising r.0 r.1)),
          omega (arith, s, k),
        )

pub layers_show_the_cost : (n : ℕ) (ends : List (Option Ends)) (touches : List Touch) (meters needed : ℕ) (prices : List ℕ) → AreBranches n ends → length touches ≡ meters + length prices
    → IsRhoAt ends touches (live_items ends touches) needed → layers_sum needed (bare_layers n ends touches meters prices) ≡ cost_of prices (chosen_of n ends touches meters prices)
layers_show_the_cost n ends touches meters needed prices ok size all = layers_cost n ends touches meters prices ok needed size all

pub layers_are_shown : (n : ℕ) (ends : List (Option Ends)) (touches : List Touch) (meters needed : ℕ) (prices : List ℕ) → AreBranches n ends → length touches ≡ meters + length prices
    → IsRhoAt ends touches (live_items ends touches) needed → RunOn 0 (bare_layers n ends touches meters prices)
    × ((l : Layer) → In l (bare_layers n ends touches meters prices)
    → IsShown (graph_matroid n ends) (touch_at ends touches) (price_of meters prices) (live_meters ends touches meters) (live_candidates ends touches meters) l × (l.rank + l.outside < needed))
layers_are_shown n ends touches meters needed prices ok size all = (run_on n ends touches meters prices ok needed size all, layers_below n ends touches meters prices ok needed size all)
