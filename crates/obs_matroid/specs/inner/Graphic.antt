-- The matroid of a graph, from a test for what branches join.
use Rattle.std.specs.Prelude.{◌≡◌, ℕ, Bool, true, List, [], ◌∷◌, ◌⊎◌, ◌↔◌}

-- `joined L u v` is whether the branches of L, with these ends, lead from the vertex u to v
pub record IsJoining (ends : ℕ → ℕ × ℕ) (joined : List ℕ → ℕ → ℕ → Bool) : Type 0 where
  -- without branches, a vertex is joined with itself alone
  pub bare : (u v : ℕ) → joined [] u v ≡ true → u ≡ v
  -- joined is an equivalence
  pub same : (L : List ℕ) (u : ℕ) → joined L u u ≡ true
  pub back : (L : List ℕ) (u v : ℕ) → joined L u v ≡ true → joined L v u ≡ true
  pub on : (L : List ℕ) (u v w : ℕ) → joined L u v ≡ true → joined L v w ≡ true → joined L u w ≡ true
  -- with one more branch is joined what was joined, and what hangs on its two ends, and no more
  pub added : (e : ℕ) (L : List ℕ) (u v : ℕ) → joined (e ∷ L) u v ≡ true
      ↔ (joined L u v ≡ true) ⊎ (((joined L u (ends e).0 ≡ true) × (joined L (ends e).1 v ≡ true)) ⊎ ((joined L u (ends e).1 ≡ true) × (joined L (ends e).0 v ≡ true)))
