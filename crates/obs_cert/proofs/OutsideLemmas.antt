-- The numbers outside lists.
use Rattle.std.proofs.Common.{◌≡◌, ℕ, ◌+◌, ◌-◌, ◌≤◌, ◌||◌, min, nat_lt, Bool, true, false, not, List, [], ◌∷◌, ◌++◌, length, refl, sym, ap, ◌∙◌, inl, inr, arith, append_assoc, length-append}
use Rattle.std.specs.List.{list_any, range_with_len}
use Rattle.std.proofs.lemmas.Bool.{and_parts, cases_Bool, cases_lt, eq-eqb, ltb-true, ne_eqb, or_parts}
use Rattle.std.proofs.lemmas.List.{get_or_past, length-map, map-append}
use Rattle.obs_matroid.specs.Lists.{In, IsDistinct}
use Rattle.obs_matroid.proofs.Lists.{In-filter, In-append_left, IsDistinct-filter, clash, length-within}
use Rattle.obs_matroid.proofs.Ranges.{range_distinct, range_in}
use Rattle.obs_network.specs.Network.{case_branches, case_offered, is_meter, network_of}
use Rattle.obs_network.specs.Located.{component_of_item}
use Rattle.obs_meter.specs.declared.Touch.TheVariants.{Nothing}
use Rattle.obs_meter.specs.Touches.{touched}
use Rattle.obs_network.proofs.OfCase.{length-case_offered}
use Rattle.obs_case.specs.Tables.{Tables}
use Rattle.obs_cert.specs.Claims.{Layer}
use Rattle.obs_cert.specs.Flaws.{Listed, all_inside, listed_from, not_inside, outside_of, twice, wrong_outside}
use Rattle.obs_cert.specs.Numbered.{item_of, items_of}
use Rattle.obs_meter.specs.Lost.{is_listed}
use Rattle.obs_cert.specs.Scopes.{is_below, is_live_item, is_meter_in, is_this, price_at, scope_of}
use Rattle.obs_cert.specs.inner.Scopes.{OfItems}
use Rattle.obs_meter.proofs.Touched.{In-from_any, any-from_In}
use Rattle.obs_cert.proofs.CountingLemmas.{distinct, each_passes, others}

-- the items of a scope are different
pub scope_distinct : (t : Tables) (test : ℕ → Bool) → IsDistinct (scope_of t test)
scope_distinct t test = IsDistinct-filter test (range_with_len 0 (length (case_offered t))) (range_distinct 0 (length (case_offered t)))

-- where a list without doubles has items of the scope alone, the others are as many as the scope has more
pub outside_is : (t : Tables) (test : ℕ → Bool) (list : List ℕ) → OfItems t test → not_inside test list ≡ false → twice list ≡ false
    → (outside_of t test list ≡ length (scope_of t test) - length list) × (length list ≤ length (scope_of t test))
outside_is t test list of inside once =
    let within : (x : ℕ) → In x list → In x (scope_of t test) = λ x i.
    let p = each_passes test list inside x i in
    In-filter test x (range_with_len 0 (length (case_offered t))) (range_in 0 (length (case_offered t)) x (omega arith) (let l = of x p in omega (arith, l))) p in
    (others (scope_of t test) [] list (scope_distinct t test) (distinct list once) within, length-within list (scope_of t test) (distinct list once) within)

-- live items are items
pub live_of_items : (t : Tables) → OfItems t (is_live_item t)
live_of_items t m live = elim (cases_lt m (length (case_offered t))) [
  | inl l ↦ l
  | inr past ↦ (let none : is_live_item t m ≡ false = ap (λ touch. nat_lt 0 (length (touched (case_branches t) touch))) (get_or_past (case_offered t) m Nothing past) in clash live none)
]

pub below_of_items : (t : Tables) (to : ℕ) → OfItems t (is_below t to)
below_of_items t to m e = live_of_items t m (and_parts (is_live_item t m) (is_meter t m || nat_lt (price_at t m) to) e).0

pub meters_of_items : (t : Tables) (c : ℕ) → OfItems t (is_meter_in t c)
meters_of_items t c m e =
    let l = ltb-true m (length t.meters) (and_parts (is_meter t m) (is_this (component_of_item (network_of t) m) c) e).0 in
    omega (arith, l, length-case_offered t)

-- while the numbers outside the lists of layers are measured
pub record IsMeasuring (t : Tables) (left all : List Layer) (listed : ℕ) : Type 0 where
  pub before : List ℕ
  pub count : listed ≡ min (length before) 4294967295
  pub going : list_any (λ (l : Listed). wrong_outside t (is_below t l.layer.to) l.list l.layer.outside) (listed_from t [] all)
      ≡ list_any (λ (l : Listed). wrong_outside t (is_below t l.layer.to) l.list l.layer.outside) (listed_from t before left)
  pub inside : list_any (λ (l : Listed). not_inside (is_below t l.layer.to) l.list) (listed_from t before left) ≡ false
  pub once : twice (before ++ items_of t (all_inside left)) ≡ false

pub measuring_start : (t : Tables) (all : List Layer) → list_any (λ (l : Listed). not_inside (is_below t l.layer.to) l.list) (listed_from t [] all) ≡ false → twice (items_of t (all_inside all)) ≡ false
    → IsMeasuring t all all 0
measuring_start t all inside once = record { before = []; count = refl; going = refl; inside = inside; once = once }

has_front : (xs ys : List ℕ) (x : ℕ) → is_listed xs x ≡ true → is_listed (xs ++ ys) x ≡ true
has_front xs ys x e = any-from_In (xs ++ ys) x (In-append_left x xs ys (In-from_any xs x e))

twice_front : (xs ys : List ℕ) → twice (xs ++ ys) ≡ false → twice xs ≡ false
twice_front [] ys e = refl
twice_front (x ∷ xs) ys e =
    let two = or_parts (is_listed (xs ++ ys) x) (twice (xs ++ ys)) e in
    let none : is_listed xs x ≡ false = elim (cases_Bool (is_listed xs x)) [ inl t ↦ clash (has_front xs ys x t) two.0 | inr f ↦ f ] in
    ap (λ (b : Bool). b || twice xs) none ∙ twice_front xs ys two.1

module _ (t : Tables) (layer : Layer) (left all : List Layer) (listed after : ℕ) (so_far : IsMeasuring t (layer ∷ left) all listed) (more : after ≡ min (listed + length layer.inside) 4294967295) where
  abbrev now_listed : List ℕ
  now_listed = so_far.before ++ items_of t layer.inside

  count_now : after ≡ min (length now_listed) 4294967295
  count_now =
      let a = so_far.count in
      let b = length-append so_far.before (items_of t layer.inside) in
      let c = length-map layer.inside (item_of t) in
      grind (arith, more, a, b, c)

  once_now : twice (now_listed ++ items_of t (all_inside left)) ≡ false
  once_now = sym (ap twice (ap (λ zs. so_far.before ++ zs) (map-append (item_of t) layer.inside (all_inside left)) ∙ sym (append_assoc so_far.before (items_of t layer.inside) (items_of t (all_inside left))))) ∙ so_far.once

  inside_now : (not_inside (is_below t layer.to) now_listed ≡ false) × (list_any (λ (l : Listed). not_inside (is_below t l.layer.to) l.list) (listed_from t now_listed left) ≡ false)
  inside_now = or_parts (not_inside (is_below t layer.to) now_listed) (list_any (λ (l : Listed). not_inside (is_below t l.layer.to) l.list) (listed_from t now_listed left)) so_far.inside

  -- so many items are outside
  outside_now : (scope : ℕ) → scope ≡ length (scope_of t (is_below t layer.to)) → scope ≤ 4294967295 → outside_of t (is_below t layer.to) now_listed ≡ scope - after
  outside_now scope is few =
      let o = outside_is t (is_below t layer.to) now_listed (below_of_items t layer.to) inside_now.0 (twice_front now_listed (items_of t (all_inside left)) once_now) in
      let e = o.0 in
      let l = o.1 in
      let c = count_now in
      grind (arith, e, l, c, is, few)

  abbrev rest : Bool
  rest = list_any (λ (l : Listed). wrong_outside t (is_below t l.layer.to) l.list l.layer.outside) (listed_from t now_listed left)

  pub measuring_on : (scope : ℕ) → scope ≡ length (scope_of t (is_below t layer.to)) → scope ≤ 4294967295 → scope - after ≡ layer.outside → IsMeasuring t left all after
  measuring_on scope is few right = record {
    before = now_listed;
    count = count_now;
    going = so_far.going ∙ ap (λ (b : Bool). not b || rest) (eq-eqb (outside_of t (is_below t layer.to) now_listed) layer.outside (outside_now scope is few ∙ right));
    inside = inside_now.1;
    once = once_now;
  }

  pub measuring_wrong : (scope : ℕ) → scope ≡ length (scope_of t (is_below t layer.to)) → scope ≤ 4294967295 → (scope - after ≡ layer.outside → ⊥)
      → true ≡ list_any (λ (l : Listed). wrong_outside t (is_below t l.layer.to) l.list l.layer.outside) (listed_from t [] all)
  measuring_wrong scope is few differs =
      sym (so_far.going ∙ ap (λ (b : Bool). not b || rest) (ne_eqb (outside_of t (is_below t layer.to) now_listed) layer.outside (λ e. differs (sym (outside_now scope is few) ∙ e))))
