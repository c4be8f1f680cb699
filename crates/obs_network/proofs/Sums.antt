-- Sums over the numbers below a bound.
use Rattle.std.proofs.Common.{◌≡◌, ℕ, zero, suc, ◌<◌, ◌≤◌, Bool, true, false, List, [], ◌∷◌, length, filter, refl, sym, ap, ◌∙◌, arith, inl, inr}
use Rattle.std.specs.Prelude.{cond, ◌==◌}
use Rattle.std.proofs.lemmas.Bool.{cases_eq, eq-eqb, ne_eqb}
use Rattle.obs_graph.specs.Positions.{sum_below}
use Rattle.obs_graph.proofs.FlatParts.{sum_below-agree, sum_below-zero}
use Rattle.obs_matroid.specs.Lists.{In}

pub sum_below-le : (f g : ℕ → ℕ) (n : ℕ) → ((c : ℕ) → c < n → f c ≤ g c) → sum_below f n ≤ sum_below g n
sum_below-le f g zero h = omega arith
sum_below-le f g (suc n) h =
    let rest = sum_below-le f g n (λ c l. h c (omega arith)) in
    let here = h n (omega arith) in
    omega (arith, rest, here)

-- equal sums of terms of which none is greater have equal terms
pub sum_below-same : (f g : ℕ → ℕ) (n : ℕ) → ((c : ℕ) → c < n → f c ≤ g c) → sum_below f n ≡ sum_below g n → (c : ℕ) → c < n → f c ≡ g c
sum_below-same f g zero h e c l = absurd (omega arith)
sum_below-same f g (suc n) h e c l =
    let rest = sum_below-le f g n (λ k m. h k (omega arith)) in
    let here = h n (omega arith) in
    elim (cases_eq c n) [
      | inl same ↦ rw same (omega (arith, rest, here, e))
      | inr other ↦ sum_below-same f g n (λ k m. h k (omega arith)) (omega (arith, rest, here, e)) c (omega arith)
    ]

-- one term is greater by one
pub one_more : (h : ℕ → ℕ) (m n : ℕ) → m < n → sum_below (λ c. cond (m == c) (suc (h c)) (h c)) n ≡ suc (sum_below h n)
one_more h m zero l = absurd (omega arith)
one_more h m (suc n) l =
    elim (cases_eq m n) [
      | inl same ↦
          let rest = sum_below-agree (λ c. cond (m == c) (suc (h c)) (h c)) h n (λ c k. rw (ne_eqb m c (λ e. omega (arith, e, same))) refl) in
          rw (eq-eqb m n same) (omega (arith, rest))
      | inr other ↦
          let rest = one_more h m n (omega arith) in
          rw (ne_eqb m n other) (omega (arith, rest))
    ]

length_cond : {X : Type 0} (b : Bool) (x : X) (xs : List X) → length (cond b (x ∷ xs) xs) ≡ cond b (suc (length xs)) (length xs)
length_cond true x xs = refl
length_cond false x xs = refl

-- a list is as long as its parts by number are together
pub split_by : {X : Type 0} (f : X → ℕ) (n : ℕ) (xs : List X) → ((x : X) → In x xs → f x < n) → length xs ≡ sum_below (λ c. length (filter (λ x. f x == c) xs)) n
split_by {X} f n [] h = sym (sum_below-zero n)
split_by {X} f n (x ∷ xs) h =
    let part : ℕ → ℕ = λ c. length (filter (λ (y : X). f y == c) xs) in
    ap suc (split_by f n xs (λ y i. h y (inr i)))
    ∙ (sym (one_more part (f x) n (h x (inl refl))) ∙ sum_below-agree (λ c. cond (f x == c) (suc (part c)) (part c)) (λ c. length (filter (λ (y : X). f y == c) (x ∷ xs))) n
    (λ c l. sym (length_cond (f x == c) x (filter (λ (y : X). f y == c) xs))))

pub nothing_in : {X : Type 0} (xs : List X) → ((x : X) → In x xs → ⊥) → length xs ≡ 0
nothing_in [] h = refl
nothing_in (x ∷ xs) h = absurd (h x (inl refl))
