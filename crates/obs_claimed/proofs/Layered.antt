-- The layers of a plan, each with the items that it adds, by the clauses of claims.
use Rattle.std.proofs.Common.{◌≡◌, ℕ, ◌+◌, ◌-◌, ◌<◌, ◌||◌, ◌&&◌, Bool, true, false, not, nat_lt, List, [], ◌∷◌, ◌++◌, length, take, drop, refl, sym, ap, ◌∙◌, inl, inr, arith, append_assoc}
use Rattle.std.proofs.Math.Seq.{drop-append_seam, take-append_seam}
use Rattle.std.proofs.lemmas.Bool.{and_from, and_parts, cases_Bool, lt-ltb, not-true, or_left, or_right}
use Rattle.std.proofs.lemmas.List.{length-append}
use Rattle.obs_case.specs.Tables.{Tables, prices_of}
use Rattle.obs_matroid.specs.Lists.{In}
use Rattle.obs_matroid.proofs.Lists.{In-append_cases, In-filter_from}
use Rattle.obs_meter.specs.Touches.{every_item}
use Rattle.obs_meter.proofs.Live.{live_low}
use Rattle.obs_placement.specs.declared.plans.Layer.{Layer as PlacedLayer}
use Rattle.obs_placement.specs.Layers.{added_items, inside_of, layers_of, layer_outside, layer_rank}
use Rattle.obs_placement.specs.Taking.{is_listed_at}
use Rattle.obs_network.specs.Network.{case_branches, case_offered, case_vertex_count, is_meter}
use Rattle.obs_meter.specs.Costs.{price_of}
use Rattle.obs_cert.specs.Claims.{Layer}
use Rattle.obs_cert.specs.Scopes.{is_below, is_live_item, price_at}
use Rattle.obs_claimed.specs.Claimed.{named_items, named_layers}

module _ (t : Tables) where
  abbrev pub price : ℕ → ℕ
  price = price_of (length t.meters) (prices_of t.candidates)

  -- whether an item is below a price and isn't critical there
  abbrev pub own : ℕ → ℕ → Bool
  own to m = is_listed_at (case_vertex_count t) (case_branches t) (case_offered t) (price_of (length t.meters) (prices_of t.candidates)) to m

  -- the items that a layer adds
  abbrev pub added : ℕ → ℕ → List ℕ
  added f to = added_items (case_vertex_count t) (case_branches t) (case_offered t) (price_of (length t.meters) (prices_of t.candidates)) f to

  abbrev pub inside_from : ℕ → List ℕ → List ℕ
  inside_from f ts = inside_of (case_vertex_count t) (case_branches t) (case_offered t) (price_of (length t.meters) (prices_of t.candidates)) f ts

  abbrev pub layers_from : ℕ → ℕ → List ℕ → List PlacedLayer
  layers_from f u ts = layers_of (case_vertex_count t) (case_branches t) (case_offered t) (price_of (length t.meters) (prices_of t.candidates)) f u ts

  -- the layer from one price to another, as it is claimed
  abbrev pub layer_claim : ℕ → ℕ → List ℕ → Layer
  layer_claim f to list = record {
    from = f;
    to = to;
    rank = layer_rank (case_vertex_count t) (case_branches t) (case_offered t) (price_of (length t.meters) (prices_of t.candidates)) to;
    outside = layer_outside (case_vertex_count t) (case_branches t) (case_offered t) (price_of (length t.meters) (prices_of t.candidates)) to;
    inside = named_items t list;
  }

  abbrev pub layer_claims : ℕ → List ℕ → List Layer
  layer_claims f [] = []
  layer_claims f (to ∷ ts) = layer_claim f to (added_items (case_vertex_count t) (case_branches t) (case_offered t) (price_of (length t.meters) (prices_of t.candidates)) f to) ∷ layer_claims to ts

  -- each layer has the items that it adds
  pub are_claimed : (f u : ℕ) (ts pre : List ℕ) → length pre ≡ u → named_layers t (pre ++ inside_from f ts) u (layers_from f u ts) ≡ layer_claims f ts
  are_claimed f u [] pre c = refl
  are_claimed f u (to ∷ ts) pre c =
      let A = added f to in
      let rest = inside_from to ts in
      let joined : pre ++ (A ++ rest) ≡ (pre ++ A) ++ rest = sym (append_assoc pre A rest) in
      let behind : drop u (pre ++ (A ++ rest)) ≡ A ++ rest = ap (λ (k : ℕ). drop k (pre ++ (A ++ rest))) (sym c) ∙ drop-append_seam pre (A ++ rest) in
      let count : u + length A - u ≡ length A = omega arith in
      let here : take (u + length A - u) (drop u (pre ++ (A ++ rest))) ≡ A = ap (λ (xs : List ℕ). take (u + length A - u) xs) behind ∙ ap (λ (k : ℕ). take k (A ++ rest)) count ∙ take-append_seam A rest in
      let long : length (pre ++ A) ≡ u + length A = length-append pre A ∙ ap (λ (k : ℕ). k + length A) c in
      ap (λ (xs : List ℕ). layer_claim f to xs ∷ named_layers t (pre ++ (A ++ rest)) (u + length A) (layers_from to (u + length A) ts)) here
      ∙ ap (λ (ls : List Layer). layer_claim f to A ∷ ls) (ap (λ (xs : List ℕ). named_layers t xs (u + length A) (layers_from to (u + length A) ts)) joined ∙ are_claimed to (u + length A) ts (pre ++ A) long)

  -- an own item of a price is live and below it
  pub own_below : (to m : ℕ) → own to m ≡ true → is_below t to m ≡ true
  own_below to m y =
      let u = and_parts (is_live_item t m && nat_lt (price m) to) _ y in
      let w = and_parts (is_live_item t m) (nat_lt (price m) to) u.0 in
      and_from (is_live_item t m) (is_meter t m || nat_lt (price_at t m) to) w.0 (elim (cases_Bool (is_meter t m)) [
        | inl meter ↦ or_left (is_meter t m) (nat_lt (price_at t m) to) meter
        | inr other ↦ or_right (is_meter t m) (nat_lt (price_at t m) to) (ap (λ (k : ℕ). nat_lt k to) (sym (price_is m other)) ∙ w.1)
      ])
    where
      price_is : (c : ℕ) → is_meter t c ≡ false → price c ≡ price_at t c
      price_is c f = rw f refl

  -- and where the price is above 0, the scopes of a plan and of a claim are the same
  pub below_same : (to m : ℕ) → 0 < to → nat_lt (price m) to ≡ (is_meter t m || nat_lt (price_at t m) to)
  below_same to m l = elim (cases_Bool (is_meter t m)) [
    | inl meter ↦ rw meter (lt-ltb 0 to l)
    | inr other ↦ rw other refl
  ]

  pub own_low : (to m : ℕ) → own to m ≡ true → m < length (case_offered t)
  own_low to m y = live_low (case_branches t) (case_offered t) m (and_parts (is_live_item t m) _ (own_below to m y)).0

  pub added_own : (f to m : ℕ) → In m (added f to) → (own to m ≡ true) × (own f m ≡ false)
  added_own f to m i =
      let u = and_parts (own to m) (not (own f m)) (In-filter_from (λ x. own to x && not (own f x)) m (every_item (case_offered t)) i).1 in
      (u.0, not-true (own f m) u.1)

  pub added_low : (f to m : ℕ) → In m (added f to) → m < length (case_offered t)
  added_low f to m i = own_low to m (added_own f to m i).0

  pub inside_low : (f : ℕ) (ts : List ℕ) (m : ℕ) → In m (inside_from f ts) → m < length (case_offered t)
  inside_low f [] m i = absurd i
  inside_low f (to ∷ ts) m i = elim (In-append_cases m (added f to) (inside_from to ts) i) [
    | inl j ↦ added_low f to m j
    | inr j ↦ inside_low to ts m j
  ]
