-- Lines in their places, and the claims that they are.
use Rattle.std.proofs.Common.{◌≡◌, ℕ, true, false, List, [], ◌∷◌, ◌++◌, map, Option, Some, None, refl, sym, ap, ◌∙◌, subst, append_assoc}
use Rattle.obs_cert.specs.declared.place.Place.{Place}
use Rattle.obs_cert.specs.declared.place.Place.TheVariants.{Start, Tree, Bound, Cost, Pairs, Layer, Shortfall, End}
use Rattle.obs_cert.specs.inner.Certificate.{certificate_lines, claim_lines, joined, layer_lines}
use Rattle.obs_cert.specs.Claims.{BoundClaim, Claim, CostClaim, Item, Pair, ShortfallClaim, TreeClaim, tree, bound, cost, shortfall}
use Rattle.obs_cert.specs.Claims as claims
use Rattle.obs_cert.specs.Places.{is_over, layer_after, place_after}
use Rattle.obs_cert.specs.Read.{onto_parts, parts_of}
use Rattle.obs_cert.specs.Words.{Line, tree_line, bound_line, cost_line, shortfall_line, pair_line, chosen_line, layer_line, inside_line, end_line}
use Rattle.obs_matroid.proofs.Lists.{clash}

abbrev pub OnSome : Option Place → (Place → Type 0) → Type 0
OnSome None P = ⊥
OnSome (Some place) P = P place

-- each line may stand where it stands, and the last is end
abbrev pub InOrder : Place → List Line → Type 0
InOrder place [] = is_over place ≡ true
InOrder place (line ∷ lines) = (is_over place ≡ false) × OnSome (place_after place line) (λ next. InOrder next lines)

-- lines are these parts, one after the other
pub record Are (lines : List Line) (chosen : List (List ℕ)) (pairs : List Pair) (inside : List Item) (layers : List claims.Layer) (all : List Claim) : Type 0 where
  pub parts : parts_of lines ≡ record { chosen = chosen; pairs = pairs; inside = inside; layers = layers; claims = all }
  pub stand : lines ≡ map chosen_line chosen ++ (map pair_line pairs ++ (map inside_line inside ++ (joined (map layer_lines layers) ++ certificate_lines all)))

-- a claim's lines before those of others
claim_first : (claim : Claim) (all : List Claim) → certificate_lines (claim ∷ all) ≡ claim_lines claim ++ certificate_lines all
claim_first claim all = append_assoc (claim_lines claim) (joined (map claim_lines all)) (end_line ∷ [])

layers_first : (layer : claims.Layer) (layers : List claims.Layer) (rest : List Line) → joined (map layer_lines (layer ∷ layers)) ++ rest ≡ layer_lines layer ++ (joined (map layer_lines layers) ++ rest)
layers_first layer layers rest = append_assoc (layer_lines layer) (joined (map layer_lines layers)) rest

cost_parts : (a b c rest : List Line) → (a ++ (b ++ c)) ++ rest ≡ a ++ (b ++ (c ++ rest))
cost_parts a b c rest = append_assoc a (b ++ c) rest ∙ ap (λ r. a ++ r) (append_assoc b c rest)

-- ---- one line before others

module _ (lines : List Line) (all : List Claim) where
  pub onto_chosen : (chosen : List (List ℕ)) (pairs : List Pair) (inside : List Item) (layers : List claims.Layer) (name : List ℕ) → Are lines chosen pairs inside layers all → Are (chosen_line name ∷ lines) (name ∷ chosen) pairs inside layers all
  onto_chosen chosen pairs inside layers name are = record { parts = ap (onto_parts (chosen_line name)) are.parts; stand = ap (λ r. chosen_line name ∷ r) are.stand }

  pub onto_pair : (pairs : List Pair) (inside : List Item) (layers : List claims.Layer) (pair : Pair) → Are lines [] pairs inside layers all → Are (pair_line pair ∷ lines) [] (pair ∷ pairs) inside layers all
  onto_pair pairs inside layers pair are = record { parts = ap (onto_parts (pair_line pair)) are.parts; stand = ap (λ r. pair_line pair ∷ r) are.stand }

  pub onto_inside : (inside : List Item) (layers : List claims.Layer) (item : Item) → Are lines [] [] inside layers all → Are (inside_line item ∷ lines) [] [] (item ∷ inside) layers all
  onto_inside inside layers item are = record { parts = ap (onto_parts (inside_line item)) are.parts; stand = ap (λ r. inside_line item ∷ r) are.stand }

  pub onto_layer : (layer : claims.Layer) (layers : List claims.Layer) → Are lines [] [] layer.inside layers all →
      Are (layer_line layer.from layer.to layer.rank layer.outside ∷ lines) [] [] [] (layer ∷ layers) all
  onto_layer layer layers are = record {
    parts = ap (onto_parts (layer_line layer.from layer.to layer.rank layer.outside)) are.parts;
    stand = ap (λ r. layer_line layer.from layer.to layer.rank layer.outside ∷ r) are.stand ∙ sym (layers_first layer layers (certificate_lines all));
  }

  pub onto_tree : (c : TreeClaim) → Are lines [] c.pairs [] [] all → Are (tree_line c.component ∷ lines) [] [] [] [] (tree c ∷ all)
  onto_tree c are = record {
    parts = ap (onto_parts (tree_line c.component)) are.parts;
    stand = ap (λ r. tree_line c.component ∷ r) are.stand ∙ sym (claim_first (tree c) all);
  }

  pub onto_bound : (c : BoundClaim) → Are lines [] [] c.inside [] all → Are (bound_line c.component c.rank c.outside ∷ lines) [] [] [] [] (bound c ∷ all)
  onto_bound c are = record {
    parts = ap (onto_parts (bound_line c.component c.rank c.outside)) are.parts;
    stand = ap (λ r. bound_line c.component c.rank c.outside ∷ r) are.stand ∙ sym (claim_first (bound c) all);
  }

  pub onto_shortfall : (c : ShortfallClaim) → Are lines [] [] c.inside [] all → Are (shortfall_line c.rank c.outside ∷ lines) [] [] [] [] (shortfall c ∷ all)
  onto_shortfall c are = record {
    parts = ap (onto_parts (shortfall_line c.rank c.outside)) are.parts;
    stand = ap (λ r. shortfall_line c.rank c.outside ∷ r) are.stand ∙ sym (claim_first (shortfall c) all);
  }

  pub onto_cost : (c : CostClaim) → Are lines c.chosen c.pairs [] c.layers all → Are (cost_line c.number ∷ lines) [] [] [] [] (cost c ∷ all)
  onto_cost c are = record {
    parts = ap (onto_parts (cost_line c.number)) are.parts;
    stand = ap (λ r. cost_line c.number ∷ r)
        (are.stand ∙ sym (cost_parts (map chosen_line c.chosen) (map pair_line c.pairs) (joined (map layer_lines c.layers)) (certificate_lines all)))
        ∙ sym (claim_first (cost c) all);
  }

only_end : Are (end_line ∷ []) [] [] [] [] []
only_end = record { parts = refl; stand = refl }

-- ---- lines in their places are parts

-- the parts that may stand from a place on
abbrev pub ArePartsAt : Place → List Line → Type 0
ArePartsAt Start lines = (all : List Claim) × Are lines [] [] [] [] all
ArePartsAt Tree lines = (pairs : List Pair) × (all : List Claim) × Are lines [] pairs [] [] all
ArePartsAt Bound lines = (inside : List Item) × (all : List Claim) × Are lines [] [] inside [] all
ArePartsAt Cost lines = (chosen : List (List ℕ)) × (pairs : List Pair) × (layers : List claims.Layer) × (all : List Claim) × Are lines chosen pairs [] layers all
ArePartsAt Pairs lines = (pairs : List Pair) × (layers : List claims.Layer) × (all : List Claim) × Are lines [] pairs [] layers all
ArePartsAt Layer lines = (inside : List Item) × (layers : List claims.Layer) × (all : List Claim) × Are lines [] [] inside layers all
ArePartsAt Shortfall lines = (inside : List Item) × (all : List Claim) × Are lines [] [] inside [] all
ArePartsAt End lines = Unit {0}

-- claims may stand from any place on
claims_anywhere : (place : Place) (lines : List Line) (all : List Claim) → Are lines [] [] [] [] all → ArePartsAt place lines
claims_anywhere Start lines all are = (all, are)
claims_anywhere Tree lines all are = ([], all, are)
claims_anywhere Bound lines all are = ([], all, are)
claims_anywhere Cost lines all are = ([], [], [], all, are)
claims_anywhere Pairs lines all are = ([], [], all, are)
claims_anywhere Layer lines all are = ([], [], all, are)
claims_anywhere Shortfall lines all are = ([], all, are)
claims_anywhere End lines all are = tt

after_end : (lines : List Line) → InOrder End lines → lines ≡ []
after_end [] order = refl
after_end (line ∷ lines) order = clash refl order.0

pub parts_in_order : (lines : List Line) (place : Place) → is_over place ≡ false → InOrder place lines → ArePartsAt place lines
parts_in_order [] place going order = clash order going
parts_in_order (tree_line component ∷ lines) place going order =
    let are = parts_in_order lines Tree refl order.1 in
    let claim : TreeClaim = record { component = component; pairs = are.0 } in
    claims_anywhere place (tree_line component ∷ lines) (tree claim ∷ are.1) (onto_tree lines are.1 claim are.2)
parts_in_order (bound_line component rank outside ∷ lines) place going order =
    let are = parts_in_order lines Bound refl order.1 in
    let claim : BoundClaim = record { component = component; rank = rank; outside = outside; inside = are.0 } in
    claims_anywhere place (bound_line component rank outside ∷ lines) (bound claim ∷ are.1) (onto_bound lines are.1 claim are.2)
parts_in_order (cost_line number ∷ lines) place going order =
    let are = parts_in_order lines Cost refl order.1 in
    let claim : CostClaim = record { number = number; chosen = are.0; pairs = are.1; layers = are.2 } in
    claims_anywhere place (cost_line number ∷ lines) (cost claim ∷ are.3) (onto_cost lines are.3 claim are.4)
parts_in_order (shortfall_line rank outside ∷ lines) place going order =
    let are = parts_in_order lines Shortfall refl order.1 in
    let claim : ShortfallClaim = record { rank = rank; outside = outside; inside = are.0 } in
    claims_anywhere place (shortfall_line rank outside ∷ lines) (shortfall claim ∷ are.1) (onto_shortfall lines are.1 claim are.2)
parts_in_order (end_line ∷ lines) place going order =
    let none = after_end lines order.1 in
    claims_anywhere place (end_line ∷ lines) [] (subst (λ r. Are (end_line ∷ r) [] [] [] [] []) (sym none) only_end)
parts_in_order (pair_line pair ∷ lines) Tree going order = (let are = parts_in_order lines Tree refl order.1 in (pair ∷ are.0, are.1, onto_pair lines are.1 are.0 [] [] pair are.2))
parts_in_order (pair_line pair ∷ lines) Cost going order =
    (let are = parts_in_order lines Pairs refl order.1 in ([], pair ∷ are.0, are.1, are.2, onto_pair lines are.2 are.0 [] are.1 pair are.3))
parts_in_order (pair_line pair ∷ lines) Pairs going order =
    (let are = parts_in_order lines Pairs refl order.1 in (pair ∷ are.0, are.1, are.2, onto_pair lines are.2 are.0 [] are.1 pair are.3))
parts_in_order (pair_line pair ∷ lines) Start going order = absurd order.1
parts_in_order (pair_line pair ∷ lines) Bound going order = absurd order.1
parts_in_order (pair_line pair ∷ lines) Layer going order = absurd order.1
parts_in_order (pair_line pair ∷ lines) Shortfall going order = absurd order.1
parts_in_order (pair_line pair ∷ lines) End going order = absurd order.1
parts_in_order (chosen_line name ∷ lines) Cost going order =
    (let are = parts_in_order lines Cost refl order.1 in (name ∷ are.0, are.1, are.2, are.3, onto_chosen lines are.3 are.0 are.1 [] are.2 name are.4))
parts_in_order (chosen_line name ∷ lines) Start going order = absurd order.1
parts_in_order (chosen_line name ∷ lines) Tree going order = absurd order.1
parts_in_order (chosen_line name ∷ lines) Bound going order = absurd order.1
parts_in_order (chosen_line name ∷ lines) Pairs going order = absurd order.1
parts_in_order (chosen_line name ∷ lines) Layer going order = absurd order.1
parts_in_order (chosen_line name ∷ lines) Shortfall going order = absurd order.1
parts_in_order (chosen_line name ∷ lines) End going order = absurd order.1
parts_in_order (layer_line from to rank outside ∷ lines) Cost going order =
    let are = parts_in_order lines Layer refl order.1 in
    let layer : claims.Layer = record { from = from; to = to; rank = rank; outside = outside; inside = are.0 } in
    ([], [], layer ∷ are.1, are.2, onto_layer lines are.2 layer are.1 are.3)
parts_in_order (layer_line from to rank outside ∷ lines) Pairs going order =
    let are = parts_in_order lines Layer refl order.1 in
    let layer : claims.Layer = record { from = from; to = to; rank = rank; outside = outside; inside = are.0 } in
    ([], layer ∷ are.1, are.2, onto_layer lines are.2 layer are.1 are.3)
parts_in_order (layer_line from to rank outside ∷ lines) Layer going order =
    let are = parts_in_order lines Layer refl order.1 in
    let layer : claims.Layer = record { from = from; to = to; rank = rank; outside = outside; inside = are.0 } in
    ([], layer ∷ are.1, are.2, onto_layer lines are.2 layer are.1 are.3)
parts_in_order (layer_line from to rank outside ∷ lines) Start going order = absurd order.1
parts_in_order (layer_line from to rank outside ∷ lines) Tree going order = absurd order.1
parts_in_order (layer_line from to rank outside ∷ lines) Bound going order = absurd order.1
parts_in_order (layer_line from to rank outside ∷ lines) Shortfall going order = absurd order.1
parts_in_order (layer_line from to rank outside ∷ lines) End going order = absurd order.1
parts_in_order (inside_line item ∷ lines) Bound going order = (let are = parts_in_order lines Bound refl order.1 in (item ∷ are.0, are.1, onto_inside lines are.1 are.0 [] item are.2))
parts_in_order (inside_line item ∷ lines) Shortfall going order = (let are = parts_in_order lines Shortfall refl order.1 in (item ∷ are.0, are.1, onto_inside lines are.1 are.0 [] item are.2))
parts_in_order (inside_line item ∷ lines) Layer going order =
    (let are = parts_in_order lines Layer refl order.1 in (item ∷ are.0, are.1, are.2, onto_inside lines are.2 are.0 are.1 item are.3))
parts_in_order (inside_line item ∷ lines) Start going order = absurd order.1
parts_in_order (inside_line item ∷ lines) Tree going order = absurd order.1
parts_in_order (inside_line item ∷ lines) Cost going order = absurd order.1
parts_in_order (inside_line item ∷ lines) Pairs going order = absurd order.1
parts_in_order (inside_line item ∷ lines) End going order = absurd order.1

-- ---- the lines of claims are in their places

module _ (rest : List Line) (starts : (place : Place) → is_over place ≡ false → InOrder place rest) where
  in_tree : (pairs : List Pair) → InOrder Tree (map pair_line pairs ++ rest)
  in_tree [] = starts Tree refl
  in_tree (pair ∷ pairs) = (refl, in_tree pairs)

  in_bound : (inside : List Item) → InOrder Bound (map inside_line inside ++ rest)
  in_bound [] = starts Bound refl
  in_bound (item ∷ inside) = (refl, in_bound inside)

  in_shortfall : (inside : List Item) → InOrder Shortfall (map inside_line inside ++ rest)
  in_shortfall [] = starts Shortfall refl
  in_shortfall (item ∷ inside) = (refl, in_shortfall inside)

  in_layer : (inside : List Item) (later : List Line) → InOrder Layer later → InOrder Layer (map inside_line inside ++ later)
  in_layer [] later order = order
  in_layer (item ∷ inside) later order = (refl, in_layer inside later order)

  in_layers : (layers : List claims.Layer) (place : Place) → is_over place ≡ false → layer_after place ≡ Some Layer → InOrder place (joined (map layer_lines layers) ++ rest)
  in_layers [] place going may = starts place going
  in_layers (layer ∷ layers) place going may =
      subst (InOrder place) (sym (layers_first layer layers rest)) (
        going,
        subst (λ o. OnSome o (λ next. InOrder next (map inside_line layer.inside ++ (joined (map layer_lines layers) ++ rest)))) (sym may)
            (in_layer layer.inside (joined (map layer_lines layers) ++ rest) (in_layers layers Layer refl refl)),
      )

  in_pairs : (pairs : List Pair) (layers : List claims.Layer) → InOrder Pairs (map pair_line pairs ++ (joined (map layer_lines layers) ++ rest))
  in_pairs [] layers = in_layers layers Pairs refl refl
  in_pairs (pair ∷ pairs) layers = (refl, in_pairs pairs layers)

  in_cost : (chosen : List (List ℕ)) (pairs : List Pair) (layers : List claims.Layer) → InOrder Cost (map chosen_line chosen ++ (map pair_line pairs ++ (joined (map layer_lines layers) ++ rest)))
  in_cost [] [] layers = in_layers layers Cost refl refl
  in_cost [] (pair ∷ pairs) layers = (refl, in_pairs pairs layers)
  in_cost (name ∷ chosen) pairs layers = (refl, in_cost chosen pairs layers)

  in_claim : (claim : Claim) (place : Place) → is_over place ≡ false → InOrder place (claim_lines claim ++ rest)
  in_claim (tree c) place going = (going, in_tree c.pairs)
  in_claim (bound c) place going = (going, in_bound c.inside)
  in_claim (shortfall c) place going = (going, in_shortfall c.inside)
  in_claim (cost c) place going = (
    going,
    subst (InOrder Cost) (sym (cost_parts (map chosen_line c.chosen) (map pair_line c.pairs) (joined (map layer_lines c.layers)) rest)) (in_cost c.chosen c.pairs c.layers),
  )

pub claims_in_order : (all : List Claim) (place : Place) → is_over place ≡ false → InOrder place (certificate_lines all)
claims_in_order [] place going = (going, refl)
claims_in_order (claim ∷ others) place going =
    subst (InOrder place) (sym (claim_first claim others)) (in_claim (certificate_lines others) (claims_in_order others) claim place going)

-- ---- the lines of claims are these claims

module _ (rest : List Line) (all : List Claim) where
  are_pairs : (pairs : List Pair) (layers : List claims.Layer) → Are rest [] [] [] layers all → Are (map pair_line pairs ++ rest) [] pairs [] layers all
  are_pairs [] layers are = are
  are_pairs (pair ∷ pairs) layers are = onto_pair (map pair_line pairs ++ rest) all pairs [] layers pair (are_pairs pairs layers are)

  are_inside : (inside : List Item) (layers : List claims.Layer) → Are rest [] [] [] layers all → Are (map inside_line inside ++ rest) [] [] inside layers all
  are_inside [] layers are = are
  are_inside (item ∷ inside) layers are = onto_inside (map inside_line inside ++ rest) all inside layers item (are_inside inside layers are)

  are_chosen : (chosen : List (List ℕ)) (pairs : List Pair) (layers : List claims.Layer) → Are rest [] pairs [] layers all → Are (map chosen_line chosen ++ rest) chosen pairs [] layers all
  are_chosen [] pairs layers are = are
  are_chosen (name ∷ chosen) pairs layers are = onto_chosen (map chosen_line chosen ++ rest) all chosen pairs [] layers name (are_chosen chosen pairs layers are)

are_layers : (rest : List Line) (all : List Claim) (layers : List claims.Layer) → Are rest [] [] [] [] all → Are (joined (map layer_lines layers) ++ rest) [] [] [] layers all
are_layers rest all [] are = are
are_layers rest all (layer ∷ layers) are =
    subst (λ lines. Are lines [] [] [] (layer ∷ layers) all) (sym (layers_first layer layers rest))
    (onto_layer (map inside_line layer.inside ++ (joined (map layer_lines layers) ++ rest)) all layer layers
    (are_inside (joined (map layer_lines layers) ++ rest) all layer.inside layers (are_layers rest all layers are)))

are_claim : (claim : Claim) (rest : List Line) (all : List Claim) → Are rest [] [] [] [] all → Are (claim_lines claim ++ rest) [] [] [] [] (claim ∷ all)
are_claim (tree c) rest all are = onto_tree (map pair_line c.pairs ++ rest) all c (are_pairs rest all c.pairs [] are)
are_claim (bound c) rest all are = onto_bound (map inside_line c.inside ++ rest) all c (are_inside rest all c.inside [] are)
are_claim (shortfall c) rest all are = onto_shortfall (map inside_line c.inside ++ rest) all c (are_inside rest all c.inside [] are)
are_claim (cost c) rest all are =
    let layers = joined (map layer_lines c.layers) ++ rest in
    let pairs = map pair_line c.pairs ++ layers in
    subst (λ lines. Are (cost_line c.number ∷ lines) [] [] [] [] (cost c ∷ all)) (sym (cost_parts (map chosen_line c.chosen) (map pair_line c.pairs) (joined (map layer_lines c.layers)) rest))
    (onto_cost (map chosen_line c.chosen ++ pairs) all c
    (are_chosen pairs all c.chosen c.pairs c.layers (are_pairs layers all c.pairs c.layers (are_layers rest all c.layers are))))

pub are_claims : (all : List Claim) → Are (certificate_lines all) [] [] [] [] all
are_claims [] = only_end
are_claims (claim ∷ others) =
    subst (λ lines. Are lines [] [] [] [] (claim ∷ others)) (sym (claim_first claim others)) (are_claim claim (certificate_lines others) others (are_claims others))
