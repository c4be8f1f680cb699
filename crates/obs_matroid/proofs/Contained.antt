-- Membership in std's words.
use Rattle.std.proofs.Common.{ℕ, zero, suc, ◌<◌, List, [], ◌∷◌, length, get_or, refl, sym, inl, inr, ◌≢◌, arith}
use Rattle.std.specs.List.{Contains, All, AllPairs}
use Rattle.std.proofs.lemmas.List.Elements.{All-contains}
use Rattle.obs_matroid.specs.Lists.{In, IsDistinct}
use Rattle.obs_matroid.proofs.Lists.{In_same}

-- `In` is std's `Contains`
module _ {X : Type 0} where
  pub Contains-from_In : (x : X) (xs : List X) → In x xs → Contains xs x
  Contains-from_In x [] i = absurd i
  Contains-from_In x (y ∷ ys) (inl e) = (0, omega arith, sym e)
  Contains-from_In x (y ∷ ys) (inr i) = let c = Contains-from_In x ys i in let l = c.1 in (suc c.0, omega (arith, l), c.2)

  pub In-get_or : (xs : List X) (k : ℕ) (d : X) → k < length xs → In (get_or xs k d) xs
  In-get_or [] k d l = absurd (omega (arith, l))
  In-get_or (y ∷ ys) zero d l = inl refl
  In-get_or (y ∷ ys) (suc k) d l = inr (In-get_or ys k d (omega (arith, l)))

  pub In-from_Contains : (x : X) (xs : List X) → Contains xs x → In x xs
  In-from_Contains x xs c = In_same x (get_or xs c.0 x) xs (sym c.2) (In-get_or xs c.0 x c.1)

  -- a fact of each element, in both forms
  pub All-from_In : (P : X → Type 0) (xs : List X) → ((x : X) → In x xs → P x) → All P xs
  All-from_In P xs h k d l = h (get_or xs k d) (In-get_or xs k d l)

  pub In-from_All : (P : X → Type 0) (xs : List X) → All P xs → (x : X) → In x xs → P x
  In-from_All P xs a x i = All-contains P xs x a (Contains-from_In x xs i)

  -- `IsDistinct` is std's `AllPairs` of what is not equal
  pub IsDistinct-from_pairs : (xs : List X) → AllPairs (λ a b. a ≢ b) xs → IsDistinct xs
  IsDistinct-from_pairs [] h = tt
  IsDistinct-from_pairs (x ∷ xs) h = (
    (λ i. let c = Contains-from_In x xs i in let l = c.1 in h 0 (suc c.0) x (omega arith) (omega (arith, l)) (sym c.2)),
    IsDistinct-from_pairs xs (λ i j d l m. h (suc i) (suc j) d (omega (arith, l)) (omega (arith, m))),
  )

  pub pairs_from_IsDistinct : (xs : List X) → IsDistinct xs → AllPairs (λ a b. a ≢ b) xs
  pairs_from_IsDistinct [] d i j e l m = absurd (omega (arith, m))
  pairs_from_IsDistinct (x ∷ xs) d i zero e l m = absurd (omega (arith, l))
  pairs_from_IsDistinct (x ∷ xs) d zero (suc j) e l m = λ s. d.0 (In_same x (get_or xs j e) xs s (In-get_or xs j e (omega (arith, m))))
  pairs_from_IsDistinct (x ∷ xs) d (suc i) (suc j) e l m = pairs_from_IsDistinct xs d.1 i j e (omega (arith, l)) (omega (arith, m))
