-- What a graph is: a number of vertices, and branches at positions, some of them absent.
use Rattle.std.specs.Prelude.{ℕ, Option, None, Some, List, [], ◌∷◌}
use Rattle.obs_graph.specs.declared.Ends.{Ends}

-- a graph: how many vertices it has, the ends of its branches by position, and the sizes that it
-- was made for
pub record Graph : Type 0 where
  pub vertices : ℕ
  pub ends : List (Option Ends)
  pub most_vertices : ℕ
  pub most_branches : ℕ

-- the position of a present branch, alone
abbrev pub itself_of : Option Ends → ℕ → List ℕ
itself_of None e = []
itself_of (Some x) e = e ∷ []
