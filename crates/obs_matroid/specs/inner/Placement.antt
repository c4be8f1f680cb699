-- The greedy choice of candidates, and the layers that are its own.
use Rattle.std.specs.Prelude.{ℕ, ◌+◌, ◌≤◌, ◌<◌, if◌then◌else◌, not, nat_lt, ◌⊎◌, List, [], ◌∷◌, ◌++◌, length, flat_map}
use Rattle.obs_matroid.specs.Lists.{In, IsDistinct}
use Rattle.obs_matroid.specs.Matroid.{Matroid}
use Rattle.obs_matroid.specs.inner.Assignments.{IsRho}
use Rattle.obs_matroid.specs.Bounds.{inside, outside}
use Rattle.obs_matroid.specs.Values.{is_critical}
use Rattle.obs_matroid.specs.Placement.{below, is_raising, Layer}

-- the candidates stand by price, the cheapest first, equal ones in any order
abbrev pub IsByPrice : (ℕ → ℕ) → List ℕ → Type 0
IsByPrice price [] = Unit {0}
IsByPrice price (c ∷ es) = ((x : ℕ) → In x es → price c ≤ price x) × IsByPrice price es

-- different items and different candidates, with none in both
pub record IsApart (M es : List ℕ) : Type 0 where
  pub items_differ : IsDistinct M
  pub candidates_differ : IsDistinct es
  pub apart : (x : ℕ) → In x es → In x M → ⊥

-- the candidate c raises the greatest length of an assignment of items of M
abbrev pub Raises : Matroid → (ℕ → List ℕ) → List ℕ → ℕ → Type 0
Raises g touch M c = (r s : ℕ) → IsRho g touch M r → IsRho g touch (c ∷ M) s → r < s

-- the lists are the items, the candidates in order, and the answer (the greedy choice): of the candidates in order, each that raises the greatest length of the items and all candidates before it
-- (a basis of the candidates after the items are contracted)
pub data IsAnswer (g : Matroid) (touch : ℕ → List ℕ) : List ℕ → List ℕ → List ℕ → Type 0 where
  finished : {M : List ℕ} → IsAnswer g touch M [] []
  chosen : {M : List ℕ} {c : ℕ} {es xs : List ℕ} → Raises g touch M c → IsAnswer g touch (c ∷ M) es xs → IsAnswer g touch M (c ∷ es) (c ∷ xs)
  passed : {M : List ℕ} {c : ℕ} {es xs : List ℕ} → (Raises g touch M c → ⊥) → IsAnswer g touch (c ∷ M) es xs → IsAnswer g touch M (c ∷ es) xs

-- the answer, computed
unfoldable pub answer_of : Matroid → (ℕ → List ℕ) → List ℕ → List ℕ → List ℕ
answer_of g touch M [] = []
answer_of g touch M (c ∷ es) = if is_raising g touch M c then c ∷ answer_of g touch (c ∷ M) es else answer_of g touch (c ∷ M) es

-- no price of xs lies inside a layer or above the last one; the layers begin at the price f, and where there is none, no price is above f
abbrev pub RunsThrough : (ℕ → ℕ) → ℕ → List Layer → List ℕ → Type 0
RunsThrough price f [] xs = (c : ℕ) → In c xs → price c ≤ f
RunsThrough price f (l ∷ ls) xs = ((c : ℕ) → In c xs → (price c ≤ f) ⊎ (l.to ≤ price c)) × RunsThrough price l.to ls xs

-- the own list of a price: of the items M and the candidates of E below it, those that are not critical among them
abbrev pub own_list : Matroid → (ℕ → List ℕ) → (ℕ → ℕ) → List ℕ → List ℕ → ℕ → List ℕ
own_list g touch price M E to = inside (λ m. not (is_critical g touch (M ++ below price to E) m)) (M ++ below price to E)

-- the layer of these prices, with the two numbers of the bound of its own list
abbrev pub own_layer : Matroid → (ℕ → List ℕ) → (ℕ → ℕ) → List ℕ → List ℕ → ℕ → ℕ → Layer
own_layer g touch price M E f t = record {
  from = f;
  to = t;
  rank = g.rank (flat_map touch (own_list g touch price M E t));
  outside = length (outside (λ m. not (is_critical g touch (M ++ below price t E) m)) (M ++ below price t E));
}

-- the own layers of an answer, from the price f: one for each different price above f of its members, which stand by price
abbrev pub own_layers : Matroid → (ℕ → List ℕ) → (ℕ → ℕ) → List ℕ → List ℕ → ℕ → List ℕ → List Layer
own_layers g touch price M E f [] = []
own_layers g touch price M E f (c ∷ xs) =
    if nat_lt f (price c) then own_layer g touch price M E f (price c) ∷ own_layers g touch price M E (price c) xs
    else own_layers g touch price M E f xs
