-- Islands of vertices. `ends e` are the two ends of the branch e, `vs` the list of all vertices, and S a set of vertices, as a test.
use Rattle.std.specs.Prelude.{◌≡◌, ℕ, suc, Bool, true, List, length, filter}
use Rattle.obs_matroid.specs.Lists.{In}
use Rattle.obs_matroid.specs.Matroid.{Matroid}
use Rattle.obs_matroid.specs.Assignments.{Pair, items, IsAssignment}

-- the item m lies inside S: both ends of each branch that it touches are in S
abbrev pub LiesInside : (ℕ → ℕ × ℕ) → (ℕ → List ℕ) → (ℕ → Bool) → ℕ → Type 0
LiesInside ends touch S m = (e : ℕ) → In e (touch m) → (S (ends e).0 ≡ true) × (S (ends e).1 ≡ true)

-- S is spanned from inside: it isn't empty, and the items of M that lie inside it have an assignment of one pair fewer than S has vertices,
-- whose branches are then a spanning tree of S
pub record IsSpanned (ends : ℕ → ℕ × ℕ) (g : Matroid) (touch : ℕ → List ℕ) (vs M : List ℕ) (S : ℕ → Bool) : Type 0 where
  pub vertex : ℕ
  pub vertex_in : In vertex vs
  pub holds_vertex : S vertex ≡ true
  pub pairs : List Pair
  pub assigns : IsAssignment g touch M pairs
  pub lie_inside : (m : ℕ) → In m (items pairs) → LiesInside ends touch S m
  pub enough : suc (length pairs) ≡ length (filter S vs)

-- S is an island: spanned from inside, and in no larger set that is
pub record IsIsland (ends : ℕ → ℕ × ℕ) (g : Matroid) (touch : ℕ → List ℕ) (vs M : List ℕ) (S : ℕ → Bool) : Type 0 where
  pub spanned : IsSpanned ends g touch vs M S
  pub largest : (T : ℕ → Bool) → IsSpanned ends g touch vs M T → ((v : ℕ) → In v vs → S v ≡ true → T v ≡ true) → (v : ℕ) → In v vs → T v ≡ true → S v ≡ true
