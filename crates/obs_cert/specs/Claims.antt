-- What a certificate claims.
use Rattle.std.specs.Prelude.{ℕ, List}

-- an item: a meter or a candidate, by its name
pub data Item : Type 0 where
  meter candidate : List ℕ → Item

-- an item and the branch that it is given, by its name
pub record Pair : Type 0 where
  pub item : Item
  pub branch : List ℕ

-- a range of prices, the rank and the number outside that are stated for it, and the items that it adds to the list
pub record Layer : Type 0 where
  pub from : ℕ
  pub to : ℕ
  pub rank : ℕ
  pub outside : ℕ
  pub inside : List Item

-- a component, by its name, has these pairs
pub record TreeClaim : Type 0 where
  pub component : List ℕ
  pub pairs : List Pair

-- a component, by its name, has the rank of the branches that the listed items touch, and so many outside the list
pub record BoundClaim : Type 0 where
  pub component : List ℕ
  pub rank : ℕ
  pub outside : ℕ
  pub inside : List Item

-- the chosen candidates, by their names, cost so much, with their pairs and the layers that show that none cost less
pub record CostClaim : Type 0 where
  pub number : ℕ
  pub chosen : List (List ℕ)
  pub pairs : List Pair
  pub layers : List Layer

-- the rank of the branches that the listed items touch, and the number outside the list, show that no candidates are enough
pub record ShortfallClaim : Type 0 where
  pub rank : ℕ
  pub outside : ℕ
  pub inside : List Item

pub data Claim : Type 0 where
  tree : TreeClaim → Claim
  bound : BoundClaim → Claim
  cost : CostClaim → Claim
  shortfall : ShortfallClaim → Claim
