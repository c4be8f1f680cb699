-- The lists of the layers hold one another, and come first in what a plan lists.
use Rattle.std.proofs.Common.{◌≡◌, ◌↔◌, ℕ, zero, suc, ◌+◌, ◌-◌, ◌<◌, ◌≤◌, ◌&&◌, Bool, true, not, Option, List, [], ◌∷◌, ◌++◌, length, take, refl, sym, ap, ◌∙◌, arith, append_assoc, inl, inr, subst}
use Rattle.std.specs.Prelude.{filter}
use Rattle.std.specs.List.{range_with_len}
use Rattle.std.proofs.lemmas.Bool.{and_parts, cases_Bool, le-ltb, lt-ltb, ltb-true, not-true}
use Rattle.std.proofs.Math.Seq.{take-append_seam}
use Rattle.std.proofs.lemmas.List.{length-append}
use Rattle.obs_graph.specs.declared.Ends.{Ends}
use Rattle.obs_graph.specs.Positions.{AreBranches}
use Rattle.obs_matroid.specs.Lists.{In, IsDistinct}
use Rattle.obs_matroid.specs.Values.{is_critical}
use Rattle.obs_matroid.proofs.Computed.{is_critical_is}
use Rattle.obs_matroid.proofs.Heredity.{critical_within}
use Rattle.obs_matroid.proofs.Lists.{clash, In-append_cases, In-append_left, In-append_right, In-filter, In-filter_from, IsDistinct-filter}
use Rattle.obs_meter.specs.declared.Touch.{Touch}
use Rattle.obs_meter.specs.Spanned.{graph_matroid}
use Rattle.obs_meter.specs.Touches.{every_item, is_live, live_items, touch_at}
use Rattle.obs_meter.proofs.Assigned.{live_items-distinct}
use Rattle.obs_meter.proofs.Instance.{IsMatroid-graph}
use Rattle.obs_meter.proofs.Live.{In-every, In-live, live-from_live_items, live_low}
use Rattle.obs_meter.specs.Costs.{price_of}
use Rattle.obs_exchange.specs.Laws.{noncritical_in}
use Rattle.obs_placement.specs.declared.plans.Layer.{Layer}
use Rattle.obs_placement.specs.Answer.{chosen_of, cost_of}
use Rattle.obs_placement.specs.Layers.{added_items, inside_of, is_price_of, layers_of, prices_above}
use Rattle.obs_placement.specs.inner.Layers.{layer_items}
use Rattle.obs_placement.specs.Placed.{plan_of}
use Rattle.obs_placement.specs.Taking.{is_below, is_listed_at, scope_of}

-- rising numbers, all above f
abbrev pub AreRising : ℕ → List ℕ → Type 0
AreRising f [] = Unit {0}
AreRising f (t ∷ ts) = (f < t) × AreRising t ts

rising_filter : (P : ℕ → Bool) (k f a : ℕ) → f < a → AreRising f (filter P (range_with_len a k))
rising_filter P zero f a l = tt
rising_filter P (suc k) f a l = elim (cases_Bool (P a)) [
  | inl t ↦ rw t (l, rising_filter P k a (a + 1) (omega arith))
  | inr e ↦ rw e (rising_filter P k f (a + 1) (omega (arith, l)))
]

pub prices_rising : (prices ks : List ℕ) (f : ℕ) → AreRising f (prices_above prices ks f)
prices_rising prices ks f = rising_filter (λ t. is_price_of prices ks t) (cost_of prices ks - f) f (f + 1) (omega arith)

module _ (n : ℕ) (ends : List (Option Ends)) (touches : List Touch) (ok : AreBranches n ends) (price : ℕ → ℕ) where
  abbrev own : ℕ → ℕ → Bool
  own t m = is_listed_at n ends touches price t m

  abbrev scope : ℕ → List ℕ
  scope t = scope_of ends touches price t

  pub scope_distinct : (t : ℕ) → IsDistinct (scope t)
  scope_distinct t = IsDistinct-filter (is_below price t) (live_items ends touches) (live_items-distinct ends touches)

  scope_in : (t m : ℕ) → is_live ends touches m ≡ true → is_below price t m ≡ true → In m (scope t)
  scope_in t m l b = In-filter (is_below price t) m (live_items ends touches) (In-live ends touches m l) b

  pub scope_from : (t m : ℕ) → In m (scope t) → (is_live ends touches m ≡ true) × (is_below price t m ≡ true)
  scope_from t m i = let u = In-filter_from (is_below price t) m (live_items ends touches) i in (live-from_live_items ends touches m u.0, u.1)

  scope_within : (f t : ℕ) → f ≤ t → (m : ℕ) → In m (scope f) → In m (scope t)
  scope_within f t l m i = let u = scope_from f m i in let k = ltb-true (price m) f u.1 in scope_in t m u.0 (lt-ltb (price m) t (omega (arith, k, l)))

  own_parts : (t m : ℕ) → own t m ≡ true → In m (scope t) × (noncritical_in n ends touches (scope t) m ≡ true)
  own_parts t m y =
      let u = and_parts (is_live ends touches m && is_below price t m) (noncritical_in n ends touches (scope t) m) y in
      let v = and_parts (is_live ends touches m) (is_below price t m) u.0 in (scope_in t m v.0 v.1, u.1)

  pub own_grows : (f t : ℕ) → f ≤ t → (m : ℕ) → own f m ≡ true → own t m ≡ true
  own_grows f t l m y =
      let mat = graph_matroid n ends in
      let laws = IsMatroid-graph n ends ok in
      let touch = touch_at ends touches in
      let p = own_parts f m y in
      let q = scope_from t m (scope_within f t l m p.0) in
      rw (q.0, q.1) (elim (cases_Bool (is_critical mat touch (scope t) m)) [
        | inr e ↦ rw e refl
        | inl e ↦ clash
            ((is_critical_is mat laws touch (scope f) (scope_distinct f) m).1
            (critical_within mat laws touch (scope f) (scope t) m (scope_distinct f) (scope_distinct t) (scope_within f t l) p.0
            ((is_critical_is mat laws touch (scope t) (scope_distinct t) m).0 e)))
            (not-true (is_critical mat touch (scope f) m) p.1)
      ])

  pub own_in : (t m : ℕ) → In m (layer_items n ends touches price t) ↔ (own t m ≡ true)
  own_in t m = (
    (λ i. (In-filter_from (own t) m (scope t) i).1),
    (λ y. In-filter (own t) m (scope t) (own_parts t m y).0 y),
  )

  pub own_low : (t m : ℕ) → own t m ≡ true → m < length touches
  own_low t m y = live_low ends touches m (scope_from t m (own_parts t m y).0).0

  abbrev is_new : ℕ → ℕ → ℕ → Bool
  is_new f t m = own t m && not (own f m)

  firsts : (f u : ℕ) (ts pre : List ℕ) → length pre ≡ u → ((m : ℕ) → In m pre ↔ (own f m ≡ true)) → AreRising f ts → (l : Layer) → In l (layers_of n ends touches price f u ts) → (m : ℕ)
      → In m (take l.upto (pre ++ inside_of n ends touches price f ts)) ↔ (own l.to m ≡ true)
  firsts f u [] pre c h r l i m = absurd i
  firsts f u (t ∷ ts) pre c h r l i m =
      let A = added_items n ends touches price f t in
      let rest = inside_of n ends touches price t ts in
      let more = r.0 in
      let len : length (pre ++ A) ≡ u + length A = length-append pre A ∙ ap (λ k. k + length A) c in
      let both : (x : ℕ) → In x (pre ++ A) ↔ (own t x ≡ true) = λ x. (
        (λ j. elim (In-append_cases x pre A j) [
          | inl k ↦ own_grows f t (omega (arith, more)) x ((h x).0 k)
          | inr k ↦ (and_parts (own t x) (not (own f x)) (In-filter_from (is_new f t) x (every_item touches) k).1).0
        ]),
        (λ y. elim (cases_Bool (own f x)) [
          | inl z ↦ In-append_left x pre A ((h x).1 z)
          | inr z ↦ In-append_right x pre A (In-filter (is_new f t) x (every_item touches) (In-every touches x (own_low t x y)) (rw (y, z) refl))
        ]),
      ) in
      let joined : pre ++ inside_of n ends touches price f (t ∷ ts) ≡ (pre ++ A) ++ rest = sym (append_assoc pre A rest) in
      subst (λ (xs : List ℕ). In m (take l.upto xs) ↔ (own l.to m ≡ true)) (sym joined) (elim i [
        | inl e ↦
            let k : l.upto ≡ length (pre ++ A) = ap (λ (x : Layer). x.upto) e ∙ sym len in
            let all : take l.upto ((pre ++ A) ++ rest) ≡ pre ++ A = ap (λ x. take x ((pre ++ A) ++ rest)) k ∙ take-append_seam (pre ++ A) rest in
            rw (all, ap (λ (x : Layer). x.to) e) (both m)
        | inr j ↦ firsts t (u + length A) ts (pre ++ A) len both r.1 l j m
      ])

  none_own : (m : ℕ) → own 0 m ≡ true → ⊥
  none_own m y = let p = (scope_from 0 m (own_parts 0 m y).0).1 in clash p (le-ltb (price m) 0 (omega arith))

  pub lists_first : (ts : List ℕ) → AreRising 0 ts → (l : Layer) → In l (layers_of n ends touches price 0 0 ts) → (m : ℕ)
      → In m (take l.upto (inside_of n ends touches price 0 ts)) ↔ In m (layer_items n ends touches price l.to)
  lists_first ts r l i m =
      let u = firsts 0 0 ts [] refl (λ x. ((λ j. absurd j), (λ y. absurd (none_own x y)))) r l i m in
      let v = own_in l.to m in ((λ j. v.1 (u.0 j)), (λ j. u.1 (v.0 j)))

pub lists_come_first : (n : ℕ) (ends : List (Option Ends)) (touches : List Touch) (meters : ℕ) (prices : List ℕ) → AreBranches n ends
    → (l : Layer) → In l ((plan_of n ends touches meters prices).layers) → (m : ℕ)
    → In m (take l.upto ((plan_of n ends touches meters prices).inside)) ↔ In m (layer_items n ends touches (price_of meters prices) l.to)
lists_come_first n ends touches meters prices ok =
    let ks = chosen_of n ends touches meters prices in
    lists_first n ends touches ok (price_of meters prices) (prices_above prices ks 0) (prices_rising prices ks 0)

pub lists_grow : (n : ℕ) (ends : List (Option Ends)) (touches : List Touch) (meters : ℕ) (prices : List ℕ) → AreBranches n ends → (f t : ℕ) → f ≤ t
    → (m : ℕ) → In m (layer_items n ends touches (price_of meters prices) f) → In m (layer_items n ends touches (price_of meters prices) t)
lists_grow n ends touches meters prices ok f t l m i =
    let price = price_of meters prices in
    (own_in n ends touches ok price t m).1 (own_grows n ends touches ok price f t l m ((own_in n ends touches ok price f m).0 i))
