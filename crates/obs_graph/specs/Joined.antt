-- Which vertices a list of branches joins, forests, and the rank of a list.
use Rattle.std.specs.Prelude.{◌≡◌, ℕ, zero, suc, ◌+◌, min, max, Bool, false, if◌then◌else◌, ◌==◌, ◌||◌, ◌⊎◌, List, [], ◌∷◌, ◌++◌, Contains}
use Rattle.obs_graph.specs.declared.Ends.{Ends}

-- the branch has these two ends, in one order or the other
abbrev pub Leads : Ends → ℕ → ℕ → Type 0
Leads e u v = ((e.a ≡ u) × (e.b ≡ v)) ⊎ ((e.b ≡ u) × (e.a ≡ v))

-- a chain of the branches leads from the one vertex to the other
pub data Chain (branches : List Ends) : ℕ → ℕ → Type 0 where
  none : {u : ℕ} → Chain branches u u
  step : {e : Ends} {u v w : ℕ} → Contains branches e → Leads e u v → Chain branches v w → Chain branches u w

-- what becomes of the first vertex z, where a branch joins x's vertices and y's
abbrev pub merged : ℕ → ℕ → ℕ → ℕ
merged x y z = if z == max x y then min x y else z

-- the first of the vertices that the branches join with u
abbrev pub first_joined : List Ends → ℕ → ℕ
first_joined [] u = u
first_joined (e ∷ es) u = merged (first_joined es e.a) (first_joined es e.b) (first_joined es u)

-- whether the branches join u and v
abbrev pub is_joined : List Ends → ℕ → ℕ → Bool
is_joined es u v = first_joined es u == first_joined es v

-- how many of the numbers below n pass the test
abbrev pub count_below : (ℕ → Bool) → ℕ → ℕ
count_below test zero = 0
count_below test (suc n) = if test n then suc (count_below test n) else count_below test n

-- whether one of the numbers below n passes the test
abbrev pub some_below : (ℕ → Bool) → ℕ → Bool
some_below test zero = false
some_below test (suc n) = test n || some_below test n

-- how many of the vertices below n are joined with a lower one
abbrev pub rank : ℕ → List Ends → ℕ
rank n es = count_below (λ u. some_below (λ v. is_joined es u v) u) n

-- the ends of no branch are joined by the others, those before it and those behind it
abbrev pub IsForest : List Ends → Type 0
IsForest es =
    (xs : List Ends) (e : Ends) (ys : List Ends) → es ≡ xs ++ e ∷ ys → is_joined (xs ++ ys) e.a e.b ≡ false
