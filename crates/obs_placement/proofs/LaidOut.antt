-- The layers are laid out one after the other, in the order of the items.
use Rattle.std.proofs.Common.{◌≡◌, ℕ, zero, suc, ◌+◌, ◌-◌, ◌<◌, ◌≤◌, Bool, true, false, Option, List, [], ◌∷◌, ◌++◌, length, get_or, refl, sym, ap, ◌∙◌, arith, append_assoc, inl, inr, subst, ltb}
use Rattle.std.specs.Prelude.{filter}
use Rattle.std.specs.List.{range_with_len}
use Rattle.std.proofs.lemmas.Bool.{cases_Bool, cases_eq, cases_lt, eq-eqb, le-ltb, lt-ltb, ne_eqb}
use Rattle.std.proofs.lemmas.List.{append-nil, length-append}
use Rattle.std.proofs.lemmas.List.Sums.{sum_by-cons}
use Rattle.obs_graph.specs.declared.Ends.{Ends}
use Rattle.obs_matroid.specs.Lists.{In}
use Rattle.obs_matroid.proofs.Lists.{clash, In-filter, In-filter_from}
use Rattle.obs_matroid.proofs.Ranges.{below_from, range_in}
use Rattle.obs_meter.specs.declared.Touch.{Touch}
use Rattle.obs_meter.specs.Costs.{price_of}
use Rattle.obs_placement.specs.declared.plans.Layer.{Layer}
use Rattle.obs_placement.specs.Answer.{chosen_of, cost_of, is_chosen}
use Rattle.obs_placement.specs.inner.Choosing.{AreFirstBelow}
use Rattle.obs_placement.specs.Layers.{added_items, inside_of, is_price_of, layer_of, layers_of, prices_above}
use Rattle.obs_placement.specs.inner.Layers.{count_known}
use Rattle.obs_placement.specs.inner.Order.{IsOrder, item_at}
use Rattle.obs_placement.specs.inner.Taking.{since_at}
use Rattle.obs_placement.proofs.Going.{earlier_cheap}

module _ (prices : List ℕ) where
  pub price_found : (ks : List ℕ) (x : ℕ) → is_price_of prices ks x ≡ true → (k : ℕ) × In k ks × (get_or prices k 0 ≡ x)
  price_found [] x t = clash t refl
  price_found (k ∷ ks) x t = elim (cases_eq (get_or prices k 0) x) [
    | inl e ↦ (k, inl refl, e)
    | inr n ↦ let r = price_found ks x (rw (ne_eqb (get_or prices k 0) x n) at t) in (r.0, inr r.1, r.2)
  ]

  pub price_there : (ks : List ℕ) (k x : ℕ) → In k ks → get_or prices k 0 ≡ x → is_price_of prices ks x ≡ true
  price_there [] k x i e = absurd i
  price_there (j ∷ ks) k x i e = elim (cases_eq (get_or prices j 0) x) [
    | inl w ↦ rw (eq-eqb (get_or prices j 0) x w) refl
    | inr n ↦ rw (ne_eqb (get_or prices j 0) x n) (elim i [
      | inl w ↦ absurd (n (subst (λ (y : ℕ). get_or prices y 0 ≡ x) w e))
      | inr l ↦ price_there ks k x l e
    ])
  ]

  pub price_most : (ks : List ℕ) (k : ℕ) → In k ks → get_or prices k 0 ≤ cost_of prices ks
  price_most [] k i = absurd i
  price_most (j ∷ ks) k (inl e) = let s = sum_by-cons (λ x. get_or prices x 0) j ks in let w = ap (λ x. get_or prices x 0) e in omega (arith, s, w)
  price_most (j ∷ ks) k (inr i) = let s = sum_by-cons (λ x. get_or prices x 0) j ks in let r = price_most ks k i in omega (arith, s, r)

  -- numbers that fail are passed over
  skip : (P : ℕ → Bool) (k a j : ℕ) → ((x : ℕ) → a ≤ x → x < a + k → P x ≡ false) → filter P (range_with_len a (k + j)) ≡ filter P (range_with_len (a + k) j)
  skip P zero a j h = let z : 0 + j ≡ j = omega arith in let e : a ≡ a + 0 = omega arith in ap (λ m. filter P (range_with_len a m)) z ∙ ap (λ x. filter P (range_with_len x j)) e
  skip P (suc k) a j h =
      let s : suc k + j ≡ suc (k + j) = omega arith in
      let e : a + 1 + k ≡ a + suc k = omega arith in
      let first : filter P (range_with_len a (suc (k + j))) ≡ filter P (range_with_len (a + 1) (k + j)) = rw (h a (omega arith) (omega arith)) refl in
      ap (λ m. filter P (range_with_len a m)) s
      ∙ (first ∙ (skip P k (a + 1) j (λ x l u. h x (omega (arith, l)) (omega (arith, u))) ∙ ap (λ x. filter P (range_with_len x j)) e))

  pub prices_next : (ks : List ℕ) (f t : ℕ) → f < t → is_price_of prices ks t ≡ true → ((x : ℕ) → f < x → x < t → is_price_of prices ks x ≡ false)
      → prices_above prices ks f ≡ t ∷ prices_above prices ks t
  prices_next ks f t l p h =
      let P = is_price_of prices ks in
      let r = price_found ks t p in
      let m = price_most ks r.0 r.1 in
      let e = r.2 in
      let count : cost_of prices ks - f ≡ (t - f - 1) + suc (cost_of prices ks - t) = omega (arith, l, m, e) in
      let start : f + 1 + (t - f - 1) ≡ t = omega (arith, l) in
      let here : filter P (range_with_len t (suc (cost_of prices ks - t))) ≡ t ∷ prices_above prices ks t = rw p refl in
      ap (λ k. filter P (range_with_len (f + 1) k)) count
      ∙ (skip P (t - f - 1) (f + 1) (suc (cost_of prices ks - t)) (λ x a b. h x (omega (arith, a)) (omega (arith, b, l)))
      ∙ (ap (λ x. filter P (range_with_len x (suc (cost_of prices ks - t)))) start ∙ here))

  pub prices_none : (ks : List ℕ) (f : ℕ) → ((x : ℕ) → f < x → is_price_of prices ks x ≡ false) → prices_above prices ks f ≡ []
  prices_none ks f h =
      let P = is_price_of prices ks in
      let count : cost_of prices ks - f ≡ (cost_of prices ks - f) + 0 = omega arith in
      ap (λ k. filter P (range_with_len (f + 1) k)) count ∙ skip P (cost_of prices ks - f) (f + 1) 0 (λ x a b. h x (omega (arith, a)))

-- the price of a chosen item above 0 is that of a chosen candidate
pub chosen_price : (n : ℕ) (ends : List (Option Ends)) (touches : List Touch) (meters : ℕ) (prices : List ℕ) → length touches ≡ meters + length prices
    → (m : ℕ) → m < length touches → is_chosen n ends touches (price_of meters prices) m ≡ true → 0 < price_of meters prices m
    → is_price_of prices (chosen_of n ends touches meters prices) (price_of meters prices m) ≡ true
chosen_price n ends touches meters prices size m l t p =
    let price = price_of meters prices in
    let chosen = is_chosen n ends touches price in
    elim (cases_lt m meters) [
      | inl a ↦ let e : price m ≡ 0 = rw (lt-ltb m meters a) refl in absurd (omega (arith, p, e))
      | inr a ↦
          let e : meters + (m - meters) ≡ m = omega (arith, a) in
          price_there prices (chosen_of n ends touches meters prices) (m - meters) (price m)
          (In-filter (λ k. chosen (meters + k)) (m - meters) (range_with_len 0 (length prices)) (range_in 0 (length prices) (m - meters) (omega arith) (omega (arith, a, l, size)))
          (subst (λ (x : ℕ). chosen x ≡ true) (sym e) t))
          (let f : price m ≡ get_or prices (m - meters) 0 = rw (le-ltb m meters a) refl in sym f)
    ]

-- a chosen candidate has each price that is that of one
pub priced_candidate : (n : ℕ) (ends : List (Option Ends)) (touches : List Touch) (meters : ℕ) (prices : List ℕ) (x : ℕ) → is_price_of prices (chosen_of n ends touches meters prices) x ≡ true
    → (m : ℕ) × (meters ≤ m) × (m < meters + length prices) × (is_chosen n ends touches (price_of meters prices) m ≡ true) × (price_of meters prices m ≡ x)
priced_candidate n ends touches meters prices x t =
    let price = price_of meters prices in
    let r = price_found prices (chosen_of n ends touches meters prices) x t in
    let u = In-filter_from (λ k. is_chosen n ends touches price (meters + k)) r.0 (range_with_len 0 (length prices)) r.1 in
    let l = below_from (length prices) r.0 u.0 in
    let e : meters + r.0 - meters ≡ r.0 = omega arith in
    (meters + r.0, omega arith, omega (arith, l), u.1, rw (le-ltb (meters + r.0) meters (omega arith)) (ap (λ k. get_or prices k 0) e ∙ r.2))

none_below : (since xs : List ℕ) → length (filter (λ m. ltb (since_at since m) 0) xs) ≡ 0
none_below since [] = refl
none_below since (x ∷ xs) = rw (le-ltb (since_at since x) 0 (omega arith)) (none_below since xs)

-- none is below the price 0
pub AreFirstBelow-none : (since : List ℕ) (keys : List (ℕ × ℕ)) → AreFirstBelow since keys 0 0
AreFirstBelow-none since keys = record { few = omega arith; below = λ k l. absurd (omega (arith, l)); behind = λ k l u. omega arith }

module _ (n : ℕ) (ends : List (Option Ends)) (touches : List Touch) (meters : ℕ) (prices : List ℕ) (keys : List (ℕ × ℕ)) (since : List ℕ) where
  abbrev price : ℕ → ℕ
  price = price_of meters prices

  abbrev chosen : ℕ → Bool
  chosen = is_chosen n ends touches price

  abbrev ks : List ℕ
  ks = chosen_of n ends touches meters prices

  abbrev later : ℕ → List ℕ
  later f = prices_above prices ks f

  -- the chosen items at the first k places are laid out, up to the price `last`
  pub record IsLaying (k last : ℕ) (layers : List Layer) (inside : List ℕ) : Type 0 where
    pub bound : length layers ≤ k
    pub done : (j : ℕ) → j < k → chosen (item_at keys j) ≡ true → price (item_at keys j) ≤ last
    pub known : length inside ≡ count_known since last
    pub lays : layers ++ layers_of n ends touches price last (length inside) (later last) ≡ layers_of n ends touches price 0 0 (later 0)
    pub lists : inside ++ inside_of n ends touches price last (later last) ≡ inside_of n ends touches price 0 (later 0)

  pub IsLaying-begun : IsLaying 0 0 [] []
  IsLaying-begun = record {
    bound = omega arith;
    done = λ j l. absurd (omega (arith, l));
    known = sym (none_below since (range_with_len 0 (length since)));
    lays = refl;
    lists = refl;
  }

  module _ (order : IsOrder price (length touches) keys) (size : length touches ≡ meters + length prices) where
    -- a chosen candidate stands at some place, with its price
    place_of : (x : ℕ) → is_price_of prices ks x ≡ true → (j : ℕ) × (j < length touches) × (chosen (item_at keys j) ≡ true) × (price (item_at keys j) ≡ x)
    place_of x t =
        let r = priced_candidate n ends touches meters prices x t in
        let l = r.2 in
        let w = order.found r.0 (omega (arith, l, size)) in
        (w.0, w.1, subst (λ (m : ℕ). chosen m ≡ true) (sym w.2) r.3, subst (λ (m : ℕ). price m ≡ x) (sym w.2) r.4)

    module _ (k last : ℕ) (layers : List Layer) (inside : List ℕ) (h : IsLaying k last layers inside) where
      pub IsLaying-over : (chosen (item_at keys k) ≡ true → price (item_at keys k) ≤ last) → IsLaying (k + 1) last layers inside
      IsLaying-over o = record {
        bound = let b = h.bound in omega (arith, b);
        done = λ j l t. elim (cases_eq j k) [
          | inl e ↦ rw e (o (subst (λ (x : ℕ). chosen (item_at keys x) ≡ true) e t))
          | inr d ↦ h.done j (omega (arith, l, d)) t
        ];
        known = h.known;
        lays = h.lays;
        lists = h.lists;
      }

      module _ (low : k < length touches) (t : chosen (item_at keys k) ≡ true) (to : ℕ) (cost : to ≡ price (item_at keys k)) (more : last < to) where
        none_between : (x : ℕ) → last < x → x < to → is_price_of prices ks x ≡ false
        none_between x a b = elim (cases_Bool (is_price_of prices ks x)) [
          | inr f ↦ f
          | inl y ↦
              let w = place_of x y in
              let e = w.3 in
              elim (cases_lt w.0 k) [
                | inl l ↦ let d = h.done w.0 l w.2 in absurd (omega (arith, d, e, a))
                | inr l ↦ elim (cases_eq w.0 k) [
                  | inl i ↦ let q = ap (λ j. price (item_at keys j)) i in absurd (omega (arith, q, e, b, cost))
                  | inr d ↦
                      let c = earlier_cheap (price (item_at keys k)) (price (item_at keys w.0)) (item_at keys k) (item_at keys w.0) (order.rising k w.0 (omega (arith, l, d)) w.1) in
                      absurd (omega (arith, c, e, b, cost))
                ]
              ]
        ]

        next : later last ≡ to ∷ later to
        next = prices_next prices ks last to more (subst (λ (x : ℕ). is_price_of prices ks x ≡ true) (sym cost) (chosen_price n ends touches meters prices size (item_at keys k) (order.low k low) t (omega (arith, more, cost)))) none_between

        pub IsLaying-more : (layers_after : List Layer) (inside_after : List ℕ) → layers_after ≡ layers ++ layer_of n ends touches price last to (length inside) ∷ []
            → length inside_after ≡ count_known since to → inside_after ≡ inside ++ added_items n ends touches price last to → IsLaying (k + 1) to layers_after inside_after
        IsLaying-more layers_after inside_after laid known listed =
            let added = ap length listed ∙ length-append inside (added_items n ends touches price last to) in
            record {
              bound = let b = h.bound in let e = ap length laid ∙ length-append layers (layer_of n ends touches price last to (length inside) ∷ []) in omega (arith, b, e);
              done = λ j l y. elim (cases_eq j k) [
                | inl e ↦ let q = ap (λ (x : ℕ). price (item_at keys x)) e in omega (arith, q, cost)
                | inr d ↦ let o = h.done j (omega (arith, l, d)) y in omega (arith, o, more)
              ];
              known = known;
              lays =
                  ap (λ xs. xs ++ layers_of n ends touches price to (length inside_after) (later to)) laid
                  ∙ (append_assoc layers (layer_of n ends touches price last to (length inside) ∷ []) (layers_of n ends touches price to (length inside_after) (later to))
                  ∙ (ap (λ u. layers ++ layer_of n ends touches price last to (length inside) ∷ layers_of n ends touches price to u (later to)) added
                  ∙ (ap (λ ts. layers ++ layers_of n ends touches price last (length inside) ts) (sym next) ∙ h.lays)));
              lists =
                  ap (λ xs. xs ++ inside_of n ends touches price to (later to)) listed
                  ∙ (append_assoc inside (added_items n ends touches price last to) (inside_of n ends touches price to (later to))
                  ∙ (ap (λ ts. inside ++ inside_of n ends touches price last ts) (sym next) ∙ h.lists));
            }

      module _ (end : length touches ≤ k) where
        none_left : later last ≡ []
        none_left = prices_none prices ks last (λ x a. elim (cases_Bool (is_price_of prices ks x)) [
          | inr f ↦ f
          | inl y ↦
              let w = place_of x y in
              let e = w.3 in
              let l = w.1 in
              let d = h.done w.0 (omega (arith, l, end)) w.2 in
              absurd (omega (arith, d, e, a))
        ])

        pub IsLaying-layers : layers ≡ layers_of n ends touches price 0 0 (later 0)
        IsLaying-layers = sym (append-nil layers) ∙ (ap (λ ts. layers ++ layers_of n ends touches price last (length inside) ts) (sym none_left) ∙ h.lays)

        pub IsLaying-inside : inside ≡ inside_of n ends touches price 0 (later 0)
        IsLaying-inside = sym (append-nil inside) ∙ (ap (λ ts. inside ++ inside_of n ends touches price last ts) (sym none_left) ∙ h.lists)
