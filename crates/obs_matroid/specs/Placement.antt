-- Candidates that may be added to the items at a price, and what shows that a choice is cheapest.
use Rattle.std.specs.Prelude.{◌≡◌, ℕ, ◌+◌, ◌*◌, ◌-◌, ◌<◌, Bool, nat_lt, List, [], ◌∷◌, ◌++◌, length, filter, flat_map}
use Rattle.obs_matroid.specs.Matroid.{Matroid}
use Rattle.obs_matroid.specs.Bounds.{inside, outside}
use Rattle.obs_matroid.specs.Values.{rho_of}

-- the candidates with a price below a number
abbrev pub below : (ℕ → ℕ) → ℕ → List ℕ → List ℕ
below price to = filter (λ c. nat_lt (price c) to)

-- whether c raises the greatest length
unfoldable pub is_raising : Matroid → (ℕ → List ℕ) → List ℕ → ℕ → Bool
is_raising g touch M c = nat_lt (rho_of g touch M) (rho_of g touch (c ∷ M))

-- a layer of prices, with the two numbers of the bound of a list of its items
pub record Layer : Type 0 where
  pub from : ℕ
  pub to : ℕ
  pub rank : ℕ
  pub outside : ℕ

-- the layers run on from the price f: each begins where the one before it ends, and ends above that
abbrev pub RunOn : ℕ → List Layer → Type 0
RunOn f [] = Unit {0}
RunOn f (l ∷ ls) = (l.from ≡ f) × (f < l.to) × RunOn l.to ls

-- what the layers show of the cost: in each, what its bound lacks to the needed length (nothing where it is more), times its height
abbrev pub layers_sum : ℕ → List Layer → ℕ
layers_sum needed [] = 0
layers_sum needed (l ∷ ls) = (needed - l.rank - l.outside) * (l.to - l.from) + layers_sum needed ls

-- the layer is shown: its numbers are those of the bound of some list, over M and the candidates of E below its upper price
pub record IsShown (g : Matroid) (touch : ℕ → List ℕ) (price : ℕ → ℕ) (M E : List ℕ) (l : Layer) : Type 0 where
  pub marks : ℕ → Bool
  pub rank_is : g.rank (flat_map touch (inside marks (M ++ below price l.to E))) ≡ l.rank
  pub outside_is : length (outside marks (M ++ below price l.to E)) ≡ l.outside
