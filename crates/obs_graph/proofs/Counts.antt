-- How many of the numbers below n pass a test.
use Rattle.std.proofs.Common.{◌≡◌, ℕ, zero, suc, ◌<◌, ◌≤◌, Bool, true, false, ⊎_elim, inl, inr, refl, sym, ap, ◌∙◌, arith}
use Rattle.std.proofs.lemmas.Bool.{cases_eq, cases_Bool, cond-true, cond-false, or_right, or_from, or_cases}
use Rattle.obs_graph.specs.Joined.{count_below, some_below}

pub count_below-yes : (p : ℕ → Bool) (n : ℕ) → p n ≡ true → count_below p (suc n) ≡ suc (count_below p n)
count_below-yes p n e = cond-true (p n) _ _ e

pub count_below-no : (p : ℕ → Bool) (n : ℕ) → p n ≡ false → count_below p (suc n) ≡ count_below p n
count_below-no p n e = cond-false (p n) _ _ e

-- tests that agree below n have one count there
pub count_below-agree : (p q : ℕ → Bool) (n : ℕ) → ((k : ℕ) → k < n → p k ≡ q k) → count_below p n ≡ count_below q n
count_below-agree p q zero same = refl
count_below-agree p q (suc n) same =
    let rest = count_below-agree p q n (λ k l. same k (omega arith)) in
    let here : p n ≡ q n = same n (omega arith) in
    cc

pub count_below-le : (p q : ℕ → Bool) (n : ℕ) → ((k : ℕ) → k < n → p k ≡ true → q k ≡ true) → count_below p n ≤ count_below q n
count_below-le p q zero more = omega arith
count_below-le p q (suc n) more =
    let rest = count_below-le p q n (λ k l. more k (omega arith)) in
    let here : p n ≡ true → q n ≡ true = more n (omega arith) in
    ⊎_elim
    (λ holds. omega (arith, count_below-yes p n holds, count_below-yes q n (here holds)))
    (λ fails. ⊎_elim
    (λ holds. omega (arith, count_below-no p n fails, count_below-yes q n holds))
    (λ fails2. omega (arith, count_below-no p n fails, count_below-no q n fails2))
    (cases_Bool (q n)))
    (cases_Bool (p n))

pub count_below-le-n : (p : ℕ → Bool) (n : ℕ) → count_below p n ≤ n
count_below-le-n p zero = omega arith
count_below-le-n p (suc n) =
    ⊎_elim
    (λ holds. omega (arith, count_below-yes p n holds, count_below-le-n p n))
    (λ fails. omega (arith, count_below-no p n fails, count_below-le-n p n))
    (cases_Bool (p n))

-- a test that passes at one more number, m, counts one more
pub count_below-one_more : (p q : ℕ → Bool) (m n : ℕ) → m < n → p m ≡ false → q m ≡ true → ((k : ℕ) → k < n → (k ≡ m → ⊥) → p k ≡ q k) → count_below q n ≡ suc (count_below p n)
count_below-one_more p q m zero l fails holds others = absurd (omega arith)
count_below-one_more p q m (suc n) l fails holds others =
    ⊎_elim
    (λ (e : n ≡ m).
    let same = count_below-agree p q n (λ k below. others k (omega arith) (λ at. omega arith)) in
    let no_n : p n ≡ false = ap p e ∙ fails in
    let yes_n : q n ≡ true = ap q e ∙ holds in
    omega (arith, count_below-no p n no_n, count_below-yes q n yes_n))
    (λ (ne : n ≡ m → ⊥).
    let rest = count_below-one_more p q m n (omega arith) fails holds (λ k below. others k (omega arith)) in
    let here : p n ≡ q n = others n (omega arith) ne in
    ⊎_elim
    (λ y. omega (arith, count_below-yes p n (here ∙ y), count_below-yes q n y))
    (λ y. omega (arith, count_below-no p n (here ∙ y), count_below-no q n y))
    (cases_Bool (q n)))
    (cases_eq n m)

-- where one of the numbers below n passes, and where none does
pub some_below-true : (p : ℕ → Bool) (n k : ℕ) → k < n → p k ≡ true → some_below p n ≡ true
some_below-true p zero k l e = absurd (omega arith)
some_below-true p (suc n) k l e =
    ⊎_elim
    (λ (same : k ≡ n). let here : p n ≡ true = ap p (sym same) ∙ e in rw here refl)
    (λ (ne : k ≡ n → ⊥). let rest : some_below p n ≡ true = some_below-true p n k (omega arith) e in or_right (p n) (some_below p n) rest)
    (cases_eq k n)

pub some_below-false : (p : ℕ → Bool) (n : ℕ) → ((k : ℕ) → k < n → p k ≡ false) → some_below p n ≡ false
some_below-false p zero none = refl
some_below-false p (suc n) none =
    or_from (p n) (some_below p n) (none n (omega arith)) (some_below-false p n (λ k l. none k (omega arith)))

pub some_below-from_true : (p : ℕ → Bool) (n : ℕ) → some_below p n ≡ true → (k : ℕ) × (k < n) × (p k ≡ true)
some_below-from_true p zero e = absurd cc
some_below-from_true p (suc n) e =
    ⊎_elim
    (λ here. (n, omega arith, here))
    (λ there. let rest = some_below-from_true p n there in (rest.0, omega (arith, rest.1), rest.2))
    (or_cases (p n) (some_below p n) e)

pub count_below-none : (p : ℕ → Bool) (n : ℕ) → ((k : ℕ) → k < n → p k ≡ false) → count_below p n ≡ 0
count_below-none p zero none = refl
count_below-none p (suc n) none =
    count_below-no p n (none n (omega arith)) ∙ count_below-none p n (λ k l. none k (omega arith))

-- where the first number fails the test, one fewer at the most passes
pub count_below-but_first : (p : ℕ → Bool) (n : ℕ) → p 0 ≡ false → count_below p (suc n) ≤ n
count_below-but_first p zero fails = let e = count_below-no p 0 fails in omega (arith, e)
count_below-but_first p (suc n) fails =
    let before = count_below-but_first p n fails in
    elim (cases_Bool (p (suc n))) [
      | inl t ↦ let e = count_below-yes p (suc n) t in omega (arith, e, before)
      | inr f ↦ let e = count_below-no p (suc n) f in omega (arith, e, before)
    ]
