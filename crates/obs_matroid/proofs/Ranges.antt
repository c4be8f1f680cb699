-- Numbers in a row.
use Rattle.std.proofs.Common.{◌≡◌, ℕ, zero, suc, ◌+◌, ◌-◌, ◌<◌, ◌≤◌, Bool, true, false, List, [], ◌∷◌, ◌++◌, length, set, take, refl, ap, ◌∙◌, inl, inr, arith, append_assoc}
use Rattle.std.specs.Prelude.{filter}
use Rattle.std.specs.List.{range_with_len}
use Rattle.std.proofs.lemmas.Bool.{cases_Bool, cases_eq}
use Rattle.std.proofs.lemmas.List.{take_more_set}
use Rattle.obs_matroid.specs.Lists.{In, IsDistinct, IsRising}
use Rattle.obs_matroid.proofs.Lists.{In-filter_from}

pub range_in : (a n x : ℕ) → a ≤ x → x < a + n → In x (range_with_len a n)
range_in a zero x l h = absurd (omega arith)
range_in a (suc n) x l h = elim (cases_eq x a) [ inl y ↦ inl y | inr k ↦ inr (range_in (a + 1) n x (omega arith) (omega arith)) ]

pub range_from : (a n x : ℕ) → In x (range_with_len a n) → (a ≤ x) × (x < a + n)
range_from a zero x i = absurd i
range_from a (suc n) x (inl e) = (omega (arith, e), omega (arith, e))
range_from a (suc n) x (inr i) = let h = range_from (a + 1) n x i in let l = h.0 in let u = h.1 in (omega (arith, l), omega (arith, u))

pub below_in : (i x : ℕ) → x < i → In x (range_with_len 0 i)
below_in i x l = range_in 0 i x (omega arith) (omega arith)

pub below_from : (i x : ℕ) → In x (range_with_len 0 i) → x < i
below_from i x j = let h = (range_from 0 i x j).1 in omega (arith, h)

pub range_rising : (a n : ℕ) → IsRising (range_with_len a n)
range_rising a zero = tt
range_rising a (suc n) = ((λ y i. let l = (range_from (a + 1) n y i).0 in omega (arith, l)), range_rising (a + 1) n)

-- what is picked of a rising list rises
pub rising_filter : (p : ℕ → Bool) (xs : List ℕ) → IsRising xs → IsRising (filter p xs)
rising_filter p [] r = tt
rising_filter p (x ∷ xs) r = elim (cases_Bool (p x)) [
  | inl e ↦ rw e ((λ y i. r.0 y (In-filter_from p y xs i).0), rising_filter p xs r.1)
  | inr e ↦ rw e (rising_filter p xs r.1)
]

pub range_distinct : (a n : ℕ) → IsDistinct (range_with_len a n)
range_distinct a zero = tt
range_distinct a (suc n) = ((λ i. let l = (range_from (a + 1) n a i).0 in omega (arith, l)), range_distinct (a + 1) n)

range_last : (a n j : ℕ) → a + n ≡ j → range_with_len a (suc n) ≡ range_with_len a n ++ j ∷ []
range_last a zero j e = let same : a ≡ j = omega arith in ap (λ k. k ∷ []) same
range_last a (suc n) j e = ap (λ l. a ∷ l) (range_last (a + 1) n j (omega arith))

pub range_more : (i : ℕ) → range_with_len 0 (i + 1) ≡ range_with_len 0 i ++ i ∷ []
range_more i = let on : i + 1 ≡ suc i = omega arith in ap (range_with_len 0) on ∙ range_last 0 i i (omega arith)

pub range_append : (a n k : ℕ) → range_with_len a (n + k) ≡ range_with_len a n ++ range_with_len (a + n) k
range_append a zero k =
    let none : 0 + k ≡ k = omega arith in
    let same : a ≡ a + 0 = omega arith in
    ap (range_with_len a) none ∙ ap (λ b. range_with_len b k) same
range_append a (suc n) k =
    let more : suc n + k ≡ suc (n + k) = omega arith in
    let on : a + 1 + n ≡ a + suc n = omega arith in
    ap (range_with_len a) more ∙ ap (λ l. a ∷ l) (range_append (a + 1) n k ∙ ap (λ b. range_with_len (a + 1) n ++ range_with_len b k) on)

-- the numbers from i on, below n
abbrev pub later : ℕ → ℕ → List ℕ
later n i = range_with_len i (n - i)

pub later_next : (n i : ℕ) → i < n → later n i ≡ i ∷ later n (i + 1)
later_next n i l = let e : n - i ≡ suc (n - (i + 1)) = omega arith in ap (range_with_len i) e

-- of the numbers from i on, i itself fails the test or passes it
pub later_over : (passes : ℕ → Bool) (n i : ℕ) → i < n → passes i ≡ false → filter passes (later n i) ≡ filter passes (later n (i + 1))
later_over passes n i l f = rw (later_next n i l, f) refl

pub later_listed : (passes : ℕ → Bool) (n i : ℕ) → i < n → passes i ≡ true → filter passes (later n i) ≡ i ∷ filter passes (later n (i + 1))
later_listed passes n i l t = rw (later_next n i l, t) refl

-- the next number is put behind those that are listed
pub listed_more : (list : List ℕ) (count i : ℕ) (rest whole : List ℕ) → count < length list → take count list ++ i ∷ rest ≡ whole → take (count + 1) (set list count i) ++ rest ≡ whole
listed_more list count i rest whole l is = ap (λ xs. xs ++ rest) (take_more_set list count i l) ∙ (append_assoc (take count list) (i ∷ []) rest ∙ is)
