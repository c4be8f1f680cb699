-- Lists of branches under new names of vertices, their ranges and parts, and a second test for what they join.
use Rattle.std.specs.Prelude.{◌≡◌, ◌≢◌, ℕ, ◌+◌, ◌-◌, ◌<◌, nat_lt, Bool, if◌then◌else◌, ◌==◌, ◌||◌, ◌&&◌, ◌↔◌, List, [], ◌∷◌, ◌++◌, map, All, Contains, IsTrue}
use Rattle.obs_graph.specs.declared.Ends.{Ends}
use Rattle.obs_graph.specs.Joined.{is_joined, count_below, some_below}

-- how many of a set's vertices below n are joined with a lower one of the set
abbrev pub rank_in : (ℕ → Bool) → ℕ → List Ends → ℕ
rank_in inside n es =
    count_below (λ u. inside u && some_below (λ v. inside v && is_joined es u v) u) n

-- each branch has its ends below n
abbrev pub InRange : ℕ → List Ends → Type 0
InRange n es = All (λ e. (e.a < n) × (e.b < n)) es

-- the branches are different: none stands twice
abbrev pub AreDifferent : List Ends → Type 0
AreDifferent es =
    (xs : List Ends) (e : Ends) (ys : List Ends) → es ≡ xs ++ e ∷ ys → Contains (xs ++ ys) e → ⊥

-- s in the place of t
abbrev pub glue : ℕ → ℕ → ℕ → ℕ
glue s t u = if u == t then s else u

-- the branches, where the vertex t became s
abbrev pub glued : ℕ → ℕ → List Ends → List Ends
glued s t es = map (λ e. record { a = glue s t e.a; b = glue s t e.b }) es

-- the test by recursion with three cases, to compare
abbrev pub joined_by : List Ends → ℕ → ℕ → Bool
joined_by [] u v = u == v
joined_by (e ∷ es) u v =
    joined_by es u v || (joined_by es u e.a && joined_by es e.b v) || (joined_by es u e.b && joined_by es e.a v)

-- a branch, and a list of them, where each vertex has another name
abbrev pub renamed_one : (ℕ → ℕ) → Ends → Ends
renamed_one h e = record { a = h e.a; b = h e.b }

abbrev pub renamed : (ℕ → ℕ) → List Ends → List Ends
renamed h es = map (λ e. record { a = h e.a; b = h e.b }) es

-- the branches, where the number of each vertex is n higher
abbrev pub shifted : ℕ → List Ends → List Ends
shifted n es = renamed (λ v. n + v) es

-- names side by side: those of the vertices below n, which are below m, and behind them those of the others
abbrev pub beside : ℕ → ℕ → (ℕ → ℕ) → (ℕ → ℕ) → ℕ → ℕ
beside n m h g v = if nat_lt v n then h v else m + g (v - n)

-- by the new names, which are below m, all vertices below n stay apart
pub record IsRenaming (n m : ℕ) (h : ℕ → ℕ) : Type 0 where
  pub apart : (u v : ℕ) → u < n → v < n → h u ≡ h v → u ≡ v
  pub into : (u : ℕ) → u < n → h u < m

-- by the new names, s and t and no other two vertices below n are one
abbrev pub Merges : ℕ → ℕ → ℕ → (ℕ → ℕ) → Type 0
Merges n s t h = (u v : ℕ) → u < n → v < n → (h u ≡ h v) ↔ (glue s t u ≡ glue s t v)

-- two different vertices become one by the new names, which are below m
pub record IsMerging (n m s t : ℕ) (h : ℕ → ℕ) : Type 0 where
  pub s_low : s < n
  pub t_low : t < n
  pub apart : s ≢ t
  pub into : (u : ℕ) → u < n → h u < m
  pub one : Merges n s t h

-- the vertices that the pairs of a list join, and no others, become one by the new names, which are below m
pub record AreMergedBy (n m : ℕ) (merges : List Ends) (h : ℕ → ℕ) : Type 0 where
  pub in_range : InRange n merges
  pub into : (u : ℕ) → u < n → h u < m
  pub one : (u v : ℕ) → u < n → v < n → (h u ≡ h v) ↔ IsTrue (is_joined merges u v)

-- each branch has both ends in the set
abbrev pub LiesIn : (ℕ → Bool) → List Ends → Type 0
LiesIn inside es = All (λ e. IsTrue (inside e.a) × IsTrue (inside e.b)) es

-- no branch leads out of the set
abbrev pub IsSeparate : (ℕ → Bool) → List Ends → Type 0
IsSeparate inside es = All (λ e. inside e.a ≡ inside e.b) es

-- the branches with an end in the set
abbrev pub kept_in : (ℕ → Bool) → List Ends → List Ends
kept_in inside [] = []
kept_in inside (e ∷ es) = if inside e.a then e ∷ kept_in inside es else kept_in inside es
