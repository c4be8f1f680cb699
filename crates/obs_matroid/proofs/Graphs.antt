-- A graph's closure and rank are a matroid.
use Rattle.std.proofs.Common.{◌≡◌, ℕ, suc, List, [], ◌∷◌, inl, inr, Bool, true, false, refl}
use Rattle.obs_matroid.specs.Lists.{In}
use Rattle.obs_matroid.specs.inner.Matroid.{IsMatroid}
use Rattle.obs_matroid.specs.Graphic.{graphic}
use Rattle.obs_matroid.specs.inner.Graphic.{IsJoining}
use Rattle.obs_matroid.proofs.Lists.{clash}

module _ (ends : ℕ → ℕ × ℕ) (joined : List ℕ → ℕ → ℕ → Bool) (j : IsJoining ends joined) where
  -- a list joins the ends of its own branches
  pub joined_member : (L : List ℕ) (e : ℕ) → In e L → joined L (ends e).0 (ends e).1 ≡ true
  joined_member [] e i = absurd i
  joined_member (x ∷ L) e (inl s) = rw s ((j.added x L (ends x).0 (ends x).1).1 (inr (inl (j.same L (ends x).0, j.same L (ends x).1))))
  joined_member (x ∷ L) e (inr i) = (j.added x L (ends e).0 (ends e).1).1 (inl (joined_member L e i))

  -- where K joins the ends of each branch of L, it joins all that L joins
  pub joined_through : (L K : List ℕ) → ((x : ℕ) → In x L → joined K (ends x).0 (ends x).1 ≡ true) → (u v : ℕ) → joined L u v ≡ true → joined K u v ≡ true
  joined_through [] K h u v t = let e = j.bare u v t in rw e (j.same K v)
  joined_through (e ∷ L) K h u v t =
      let a = (ends e).0 in
      let b = (ends e).1 in
      let ih : (u v : ℕ) → joined L u v ≡ true → joined K u v ≡ true = λ u v. joined_through L K (λ x i. h x (inr i)) u v in
      let ab : joined K a b ≡ true = h e (inl refl) in
      elim ((j.added e L u v).0 t) [
        | inl s ↦ ih u v s
        | inr c ↦ elim c [
          | inl s ↦ j.on K u a v (ih u a s.0) (j.on K a b v ab (ih b v s.1))
          | inr s ↦ j.on K u b v (ih u b s.0) (j.on K b a v (j.back K a b ab) (ih a v s.1))
        ]
      ]

  -- more branches join more
  pub joined_more : (L K : List ℕ) (u v : ℕ) → ((x : ℕ) → In x L → In x K) → joined L u v ≡ true → joined K u v ≡ true
  joined_more L K u v h t = joined_through L K (λ x i. joined_member K x (h x i)) u v t

  joined_swaps : (L : List ℕ) (e f : ℕ) → joined (f ∷ L) (ends e).0 (ends e).1 ≡ true → joined L (ends e).0 (ends e).1 ≡ false → joined (e ∷ L) (ends f).0 (ends f).1 ≡ true
  joined_swaps L e f t n =
      let a = (ends e).0 in let b = (ends e).1 in let c = (ends f).0 in let d = (ends f).1 in
      elim ((j.added f L a b).0 t) [
        | inl s ↦ clash s n
        | inr k ↦ (j.added e L c d).1 (elim k [
          | inl s ↦ inr (inl (j.back L a c s.0, j.back L d b s.1))
          | inr s ↦ inr (inr (s.1, s.0))
        ])
      ]

  -- with a rank that grows by one for each branch whose ends are not joined, this is a matroid
  pub IsMatroid-graphic : (rank : List ℕ → ℕ) → rank [] ≡ 0
      → ((L : List ℕ) (e : ℕ) → joined L (ends e).0 (ends e).1 ≡ true → rank (e ∷ L) ≡ rank L)
      → ((L : List ℕ) (e : ℕ) → joined L (ends e).0 (ends e).1 ≡ false → rank (e ∷ L) ≡ suc (rank L))
      → IsMatroid (graphic ends joined rank)
  IsMatroid-graphic rank empty spanned new = record {
    member = joined_member;
    through = λ L K e h t. joined_through L K h (ends e).0 (ends e).1 t;
    swaps = joined_swaps;
    rank_empty = empty;
    rank_spanned = spanned;
    rank_new = new;
  }
