-- The layers of a plan have no false clause: their lists, ranks and numbers outside are those of what isn't critical below their ends.
use Rattle.std.proofs.Common.{◌≡◌, ◌↔◌, ℕ, ◌+◌, ◌<◌, ◌≤◌, ◌||◌, ◌&&◌, Bool, true, false, not, nat_lt, List, [], ◌∷◌, ◌++◌, length, map, filter, refl, sym, ap, ◌∙◌, subst, inl, inr, arith}
use Rattle.std.specs.List.{flat_map, list_any}
use Rattle.std.proofs.lemmas.Bool.{and_from, and_parts, cases_Bool, eq-eqb, lt-ltb, ltb-true}
use Rattle.obs_case.specs.Tables.{IsValid, Tables, prices_of}
use Rattle.obs_matroid.specs.Lists.{In, IsDistinct}
use Rattle.obs_matroid.specs.Matroid.{Matroid}
use Rattle.obs_matroid.specs.Placement.{Layer as BareLayer, RunOn}
use Rattle.obs_matroid.proofs.Lists.{In-append_cases, In-append_left, In-append_right, In-filter, In-filter_from, In-flat_map, In-flat_map_from, In-map, IsDistinct-append, IsDistinct-filter, clash, length-within}
use Rattle.obs_matroid.proofs.Ranks.{rank-within}
use Rattle.obs_meter.specs.Spanned.{graph_matroid}
use Rattle.obs_meter.specs.Touches.{every_item, live_items}
use Rattle.obs_meter.proofs.Assigned.{every_item-distinct}
use Rattle.obs_meter.proofs.Live.{In-every, In-live, live-from_live_items}
use Rattle.obs_placement.specs.declared.plans.Layer.{Layer as PlacedLayer}
use Rattle.obs_placement.specs.Layers.{layer_outside}
use Rattle.obs_placement.specs.inner.Layers.{layer_items}
use Rattle.obs_placement.specs.Shown.{bare_layer}
use Rattle.obs_placement.specs.Taking.{scope_of as placed_scope}
use Rattle.obs_placement.proofs.Growing.{AreRising, own_grows, own_in, scope_distinct as placed_distinct}
use Rattle.obs_network.specs.Network.{case_branches, case_offered, case_vertex_count, is_meter}
use Rattle.obs_network.proofs.OfCase.{case_branches-are, length-case_offered}
use Rattle.obs_cert.specs.Claims.{Item, Layer}
use Rattle.obs_cert.specs.Flaws.{Listed, all_inside, listed_from, listed_layers, not_below, not_inside, outside_of, rank_of_items, runs_on, wrong_outside, wrong_rank}
use Rattle.obs_cert.specs.Numbered.{items_of}
use Rattle.obs_meter.specs.Lost.{is_listed}
use Rattle.obs_cert.specs.Scopes.{is_below, is_live_item, item_touches, price_at, scope_of}
use Rattle.obs_cert.proofs.OutsideLemmas.{scope_distinct}
use Rattle.std.specs.Cmp.Derive.{one_truth}
use Rattle.obs_meter.specs.Costs.{price_of}
use Rattle.obs_meter.proofs.Touched.{In-from_any, any-from_In}
use Rattle.obs_cert.proofs.TruthLemmas.{laws}
use Rattle.obs_cert.proofs.CompletingLemmas.{bare}
use Rattle.obs_claimed.specs.Claimed.{named_item, named_items, named_layers}
use Rattle.obs_claimed.proofs.ClauseTests.{all_inside_scope, any_false}
use Rattle.obs_claimed.proofs.Layered.{added, added_low, added_own, below_same, inside_from, layer_claim, layer_claims, own, own_below, own_low, price}
use Rattle.obs_claimed.proofs.NamedLemmas.{items_named}

module _ (t : Tables) (v : IsValid t) where
  abbrev g : Matroid
  g = graph_matroid (case_vertex_count t) (case_branches t)

  -- a list has just the own items of a price
  abbrev pub HasOwn : ℕ → List ℕ → Type 0
  HasOwn to list = (m : ℕ) → In m list ↔ (own t to m ≡ true)

  grows : (f to : ℕ) → f < to → (m : ℕ) → own t f m ≡ true → own t to m ≡ true
  grows f to l m y = own_grows (case_vertex_count t) (case_branches t) (case_offered t) (case_branches-are t v) (price t) f to (omega (arith, l)) m y

  -- with the items that are added it has those of the next
  has_more : (f to : ℕ) (list : List ℕ) → f < to → HasOwn f list → HasOwn to (list ++ added t f to)
  has_more f to list l h m = (
    (λ i. elim (In-append_cases m list (added t f to) i) [
      | inl j ↦ grows f to l m ((h m).0 j)
      | inr j ↦ (added_own t f to m j).0
    ]),
    (λ y. elim (cases_Bool (own t f m)) [
      | inl z ↦ In-append_left m list (added t f to) ((h m).1 z)
      | inr z ↦ In-append_right m list (added t f to)
          (In-filter (λ x. own t to x && not (own t f x)) m (every_item (case_offered t)) (In-every (case_offered t) m (own_low t to m y)) (and_from (own t to m) (not (own t f m)) y (ap not z)))
    ]),
  )

  -- what is false of each layer with a list of its own items is false of all layers
  pub each_layer : (P : Listed → Bool) (f : ℕ) (ts before : List ℕ) → HasOwn f before → AreRising f ts
      → ((from to : ℕ) (inside list : List ℕ) → from < to → HasOwn to list → P (record { layer = layer_claim t from to inside; list = list }) ≡ false)
      → list_any P (listed_from t before (layer_claims t f ts)) ≡ false
  each_layer P f [] before b r h = refl
  each_layer P f (to ∷ ts) before b r h =
      let A = added t f to in
      let list = before ++ items_of t (named_items t A) in
      let is : list ≡ before ++ A = ap (λ (xs : List ℕ). before ++ xs) (items_named t v A (λ m i. let l = added_low t f to m i in omega (arith, l, length-case_offered t))) in
      let more : HasOwn to list = subst (λ (xs : List ℕ). HasOwn to xs) (sym is) (has_more f to before r.0 b) in
      rw (h f to A list r.0 more) (each_layer P to ts list more r.1 h)

  -- the list of each layer is inside
  own_inside : (to : ℕ) (list : List ℕ) → HasOwn to list → not_inside (is_below t to) list ≡ false
  own_inside to list h = all_inside_scope (is_below t to) list (λ m i. own_below t to m ((h m).0 i))

  abbrev owned : ℕ → List ℕ
  owned to = layer_items (case_vertex_count t) (case_branches t) (case_offered t) (price_of (length t.meters) (prices_of t.candidates)) to

  touched_within : (xs ys : List ℕ) → ((m : ℕ) → In m xs → In m ys) → g.rank (flat_map (item_touches t) xs) ≤ g.rank (flat_map (item_touches t) ys)
  touched_within xs ys h = rank-within g (laws t v) (flat_map (item_touches t) xs) (flat_map (item_touches t) ys) (λ e i.
      let w = In-flat_map_from (item_touches t) e xs i in
      (laws t v).member (flat_map (item_touches t) ys) e (In-flat_map (item_touches t) w.0 e ys (h w.0 w.1) w.2))

  -- its rank is that of the own items
  own_ranked : (to : ℕ) (list : List ℕ) → HasOwn to list → rank_of_items t list ≡ rank_of_items t (owned to)
  own_ranked to list h =
      let there = own_in (case_vertex_count t) (case_branches t) (case_offered t) (case_branches-are t v) (price t) to in
      let up = touched_within list (owned to) (λ m i. (there m).1 ((h m).0 i)) in
      let down = touched_within (owned to) list (λ m i. (h m).1 ((there m).0 i)) in
      omega (arith, up, down)

  -- and as many of the items below its end are outside
  own_counted : (to : ℕ) (list : List ℕ) → 0 < to → HasOwn to list
      → outside_of t (is_below t to) list ≡ layer_outside (case_vertex_count t) (case_branches t) (case_offered t) (price_of (length t.meters) (prices_of t.candidates)) to
  own_counted to list l h =
      let S = scope_of t (is_below t to) in
      let B = placed_scope (case_branches t) (case_offered t) (price t) to in
      let p : ℕ → Bool = λ m. not (is_listed list m) in
      let q : ℕ → Bool = λ m. not (own t to m) in
      let same : (m : ℕ) → is_listed list m ≡ own t to m = λ m. one_truth (is_listed list m) (own t to m) (λ e. (h m).0 (In-from_any list m e)) (λ e. any-from_In list m ((h m).1 e)) in
      let up = length-within (filter p S) (filter q B) (IsDistinct-filter p S (scope_distinct t (is_below t to))) (λ m i.
      let u = In-filter_from p m S i in
      let both = and_parts (is_live_item t m) (is_meter t m || nat_lt (price_at t m) to) (In-filter_from (is_below t to) m (every_item (case_offered t)) u.0).1 in
      In-filter q m B (In-filter (λ x. nat_lt (price t x) to) m (live_items (case_branches t) (case_offered t)) (In-live (case_branches t) (case_offered t) m both.0) (below_same t to m l ∙ both.1))
      (ap not (sym (same m)) ∙ u.1)) in
      let down = length-within (filter q B) (filter p S) (IsDistinct-filter q B (placed_distinct (case_vertex_count t) (case_branches t) (case_offered t) (case_branches-are t v) (price t) to)) (λ m i.
      let u = In-filter_from q m B i in
      let w = In-filter_from (λ x. nat_lt (price t x) to) m (live_items (case_branches t) (case_offered t)) u.0 in
      let live = live-from_live_items (case_branches t) (case_offered t) m w.0 in
      let there = In-filter_from (is_live_item t) m (every_item (case_offered t)) w.0 in
      In-filter p m S (In-filter (is_below t to) m (every_item (case_offered t)) there.0 (and_from (is_live_item t m) (is_meter t m || nat_lt (price_at t m) to) live (sym (below_same t to m l) ∙ w.1)))
      (ap not (same m) ∙ u.1)) in
      omega (arith, up, down)

  -- no item is own to the price 0
  none_own : HasOwn 0 []
  none_own m = ((λ i. absurd i), (λ y. absurd (never (price t m) ((and_parts (is_live_item t m && nat_lt (price t m) 0) _ y).0))))
    where
      never : (k : ℕ) → (is_live_item t m && nat_lt k 0) ≡ true → ⊥
      never k e = let b = (and_parts (is_live_item t m) (nat_lt k 0) e).1 in let l = ltb-true k 0 b in omega (arith, l)

  module _ (ts : List ℕ) (rising : AreRising 0 ts) where
    pub layers_inside : list_any (λ (l : Listed). not_inside (is_below t l.layer.to) l.list) (listed_layers t (layer_claims t 0 ts)) ≡ false
    layers_inside = each_layer (λ (l : Listed). not_inside (is_below t l.layer.to) l.list) 0 ts [] none_own rising (λ from to inside list l h. own_inside to list h)

    pub layers_ranked : list_any (λ (l : Listed). wrong_rank t l.list l.layer.rank) (listed_layers t (layer_claims t 0 ts)) ≡ false
    layers_ranked = each_layer (λ (l : Listed). wrong_rank t l.list l.layer.rank) 0 ts [] none_own rising (λ from to inside list l h.
        ap not (eq-eqb (rank_of_items t list) (rank_of_items t (owned to)) (own_ranked to list h)))

    pub layers_counted : list_any (λ (l : Listed). wrong_outside t (is_below t l.layer.to) l.list l.layer.outside) (listed_layers t (layer_claims t 0 ts)) ≡ false
    layers_counted = each_layer (λ (l : Listed). wrong_outside t (is_below t l.layer.to) l.list l.layer.outside) 0 ts [] none_own rising (λ from to inside list l h.
        ap not (eq-eqb (outside_of t (is_below t to) list) _ (own_counted to list (omega (arith, l)) h)))

  -- no item stands twice in what the layers list
  inside_new : (f : ℕ) (ts : List ℕ) → AreRising f ts → (m : ℕ) → In m (inside_from t f ts) → own t f m ≡ false
  inside_new f [] r m i = absurd i
  inside_new f (to ∷ ts) r m i = elim (In-append_cases m (added t f to) (inside_from t to ts) i) [
    | inl j ↦ (added_own t f to m j).1
    | inr j ↦ elim (cases_Bool (own t f m)) [
      | inl y ↦ clash (grows f to r.0 m y) (inside_new to ts r.1 m j)
      | inr n ↦ n
    ]
  ]

  pub inside_distinct : (f : ℕ) (ts : List ℕ) → AreRising f ts → IsDistinct (inside_from t f ts)
  inside_distinct f [] r = tt
  inside_distinct f (to ∷ ts) r =
      IsDistinct-append (added t f to) (inside_from t to ts)
      (IsDistinct-filter (λ x. own t to x && not (own t f x)) (every_item (case_offered t)) (every_item-distinct (case_offered t))) (inside_distinct to ts r.1)
      (λ m i j. clash (added_own t f to m i).0 (inside_new to ts r.1 m j))

  -- what the claims list is what the plan lists
  pub listed_all : (f : ℕ) (ts : List ℕ) → all_inside (layer_claims t f ts) ≡ named_items t (inside_from t f ts)
  listed_all f [] = refl
  listed_all f (to ∷ ts) = ap (λ (xs : List Item). named_items t (added t f to) ++ xs) (listed_all to ts) ∙ sym (named_append (added t f to) (inside_from t to ts))
    where
      named_append : (xs ys : List ℕ) → named_items t (xs ++ ys) ≡ named_items t xs ++ named_items t ys
      named_append [] ys = refl
      named_append (x ∷ xs) ys = ap (λ (zs : List Item). named_item t x ∷ zs) (named_append xs ys)

pub bare_same : (t : Tables) (inside : List ℕ) (u : ℕ) (layers : List PlacedLayer) → map bare (named_layers t inside u layers) ≡ map bare_layer layers
bare_same t inside u [] = refl
bare_same t inside u (l ∷ layers) = ap (λ (ls : List BareLayer). bare_layer l ∷ ls) (bare_same t inside l.upto layers)

pub are_below : (needed : ℕ) (layers : List Layer) → ((l : BareLayer) → In l (map bare layers) → l.rank + l.outside < needed) → list_any (λ (l : Layer). not_below l.rank l.outside needed) layers ≡ false
are_below needed layers h = any_false (λ (l : Layer). not_below l.rank l.outside needed) layers (λ l i. ap not (lt-ltb (l.rank + l.outside) needed (h (bare l) (In-map bare l layers i))))

pub run_from : (f : ℕ) (layers : List Layer) → RunOn f (map bare layers) → runs_on f layers ≡ true
run_from f [] r = refl
run_from f (l ∷ layers) r =
    let from = r.0 in
    let above = r.1 in
    rw (eq-eqb l.from f from, lt-ltb l.from l.to (omega (arith, from, above))) (run_from l.to layers r.2)
