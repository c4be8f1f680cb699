-- What buses are seen as, and what their arrays hold.
use Rattle.std.specs.Prelude.{ℕ, List}

-- the bus of each node, how many buses there are, and for how many nodes there is room
pub record Buses : Type 0 where
  pub buses : List ℕ
  pub count : ℕ
  pub most_nodes : ℕ
