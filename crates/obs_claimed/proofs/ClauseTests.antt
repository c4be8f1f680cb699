-- Tests of claims that are false where what they test is true of each, and lists and what passes a test.
use Rattle.std.proofs.Common.{◌≡◌, ℕ, ◌+◌, Bool, true, false, not, List, [], ◌∷◌, map, filter, refl, ap, inl, inr, arith}
use Rattle.std.specs.List.{list_any}
use Rattle.obs_matroid.specs.Lists.{In, IsDistinct}
use Rattle.obs_matroid.proofs.Lists.{In-filter, In-filter_from, In-map_from}
use Rattle.obs_cert.specs.Flaws.{not_inside, twice}
use Rattle.obs_meter.specs.Lost.{is_listed}
use Rattle.std.specs.Cmp.Derive.{one_truth}
use Rattle.obs_meter.proofs.Touched.{In-from_any, any-from_In}
use Rattle.obs_cert.proofs.ScopeLemmas.{has_not}

-- a test that is false for each is true for none
pub any_false : {X : Type 0} (test : X → Bool) (xs : List X) → ((x : X) → In x xs → test x ≡ false) → list_any test xs ≡ false
any_false test [] h = refl
any_false test (x ∷ xs) h = rw (h x (inl refl)) (any_false test xs (λ y i. h y (inr i)))

pub all_inside_scope : (scope : ℕ → Bool) (list : List ℕ) → ((m : ℕ) → In m list → scope m ≡ true) → not_inside scope list ≡ false
all_inside_scope scope list h = any_false (λ m. not (scope m)) list (λ m i. ap not (h m i))

-- no number of a list of different ones stands twice
pub once : (xs : List ℕ) → IsDistinct xs → twice xs ≡ false
once [] d = refl
once (x ∷ xs) d = rw (has_not xs x d.0) (once xs d.1)

-- what passes a test is in the list of what passes
pub has-filter : (p : ℕ → Bool) (M : List ℕ) (m : ℕ) → In m M → is_listed (filter p M) m ≡ p m
has-filter p M m i =
    one_truth (is_listed (filter p M) m) (p m) (λ t. (In-filter_from p m M (In-from_any (filter p M) m t)).1) (λ t. any-from_In (filter p M) m (In-filter p m M i t))

-- numbers moved up are as different as before
pub distinct-moved : (k : ℕ) (xs : List ℕ) → IsDistinct xs → IsDistinct (map (λ x. k + x) xs)
distinct-moved k [] d = tt
distinct-moved k (x ∷ xs) d = (
  (λ i. let f = In-map_from (λ y. k + y) (k + x) xs i in let e = f.2 in let same : x ≡ f.0 = omega (arith, e) in d.0 (subst_in x f.0 xs same f.1)),
  distinct-moved k xs d.1,
)
  where
    subst_in : (a b : ℕ) (ys : List ℕ) → a ≡ b → In b ys → In a ys
    subst_in a b ys e i = rw e i
