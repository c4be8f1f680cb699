-- How many branches a grid has.
use Rattle.std.proofs.Common.{◌≡◌, ℕ, zero, suc, ◌+◌, ◌-◌, ◌*◌, ◌/◌, ◌%◌, ◌<◌, ◌≤◌, min, List, [], ◌∷◌, ◌++◌, length, refl, sym, ap, ◌∙◌, inl, inr, arith, add-zero, zero-add}
use Rattle.std.proofs.lemmas.Bool.{cases_lt, le-ltb, lt-ltb}
use Rattle.std.proofs.lemmas.Grind.{flat_map-append}
use Rattle.std.proofs.lemmas.List.{append-nil, length-append, length-map}
use Rattle.std.proofs.lemmas.List.FromFn.{length-enumerate_from, length-map-range_with_len}
use Rattle.std.proofs.lemmas.Nat.{div-mul-add, mod-mul-add}
use Rattle.std.specs.List.{enumerate_from, flat_map, range_with_len}
use Rattle.obs_trial.specs.inner.Laws.{HasCounts}
use Rattle.obs_trial.specs.Trial.{ends_at, ends_of_first, meter_at, node_at, to_below, to_right, trial_of}
use Rattle.obs_trial.proofs.RowLemmas.{length-branches, range-more}

range-append : (a m n : ℕ) → range_with_len a (m + n) ≡ range_with_len a m ++ range_with_len (a + m) n
range-append a zero n = ap (range_with_len a) (zero-add n) ∙ ap (λ b. range_with_len b n) (sym (add-zero a))
range-append a (suc m) n =
    let more : suc m + n ≡ suc (m + n) = omega arith in
    ap (range_with_len a) more
    ∙ ap (λ ns. a ∷ ns) (range-append (a + 1) m n ∙ ap (λ b. range_with_len (a + 1) m ++ range_with_len b n) (omega arith))

right_some : (n i : ℕ) → i % n + 1 < n → length (to_right n i) ≡ 1
right_some n i is = rw (lt-ltb (i % n + 1) n is) refl

right_none : (n i : ℕ) → n ≤ i % n + 1 → length (to_right n i) ≡ 0
right_none n i is = rw (le-ltb (i % n + 1) n is) refl

below_some : (n i : ℕ) → i / n + 1 < n → length (to_below n i) ≡ 1
below_some n i is = rw (lt-ltb (i / n + 1) n is) refl

below_none : (n i : ℕ) → n ≤ i / n + 1 → length (to_below n i) ≡ 0
below_none n i is = rw (le-ltb (i / n + 1) n is) refl

-- how many branches some nodes have
abbrev pub count_at : ℕ → List ℕ → ℕ
count_at n nodes = length (flat_map (ends_at n) nodes)

count-append : (n : ℕ) (xs ys : List ℕ) → count_at n (xs ++ ys) ≡ count_at n xs + count_at n ys
count-append n xs ys = ap length (flat_map-append (ends_at n) xs ys) ∙ length-append (flat_map (ends_at n) xs) (flat_map (ends_at n) ys)

count-one : (n i : ℕ) → count_at n (i ∷ []) ≡ length (to_right n i) + length (to_below n i)
count-one n i = ap length (append-nil (ends_at n i)) ∙ length-append (to_right n i) (to_below n i)

count-more : (n a c : ℕ) → count_at n (range_with_len a (suc c)) ≡ count_at n (range_with_len a c) + (length (to_right n (a + c)) + length (to_below n (a + c)))
count-more n a c =
    ap (count_at n) (range-more a c) ∙ count-append n (range_with_len a c) ((a + c) ∷ [])
    ∙ ap (λ k. count_at n (range_with_len a c) + k) (count-one n (a + c))

-- n rows of n nodes, where n is m + 1
module _ (m : ℕ) where
  abbrev pub n : ℕ
  n = suc m

  -- the first c nodes of a row
  module _ (r c : ℕ) (within : c < n) where
    column : (r * n + c) % n ≡ c
    column = mod-mul-add r n c within

    row : (r * n + c) / n ≡ r
    row = div-mul-add r n c within

    right : length (to_right n (r * n + c)) ≡ min (suc c) m - min c m
    right = elim (cases_lt (c + 1) n) [
      | inl more ↦ right_some n (r * n + c) (omega (arith, column, more)) ∙ (omega arith)
      | inr last ↦ right_none n (r * n + c) (omega (arith, column, last)) ∙ (omega arith)
    ]

  full_row : (r c : ℕ) → r + 1 < n → c ≤ n → count_at n (range_with_len (r * n) c) ≡ min c m + c
  full_row r zero above within = omega arith
  full_row r (suc c) above within =
      let before = full_row r c above (omega arith) in
      let below = below_some n (r * n + c) (omega (arith, row r c (omega arith), above)) in
      count-more n (r * n) c ∙ (omega (arith, before, right r c (omega arith), below))

  last_row : (r c : ℕ) → r + 1 ≡ n → c ≤ n → count_at n (range_with_len (r * n) c) ≡ min c m
  last_row r zero last within = omega arith
  last_row r (suc c) last within =
      let before = last_row r c last (omega arith) in
      let below = below_none n (r * n + c) (omega (arith, row r c (omega arith), last)) in
      count-more n (r * n) c ∙ (omega (arith, before, right r c (omega arith), below))

  -- all but the last row
  rows : (r : ℕ) → r ≤ m → count_at n (range_with_len 0 (r * n)) ≡ r * (m + n)
  rows zero within = let none : zero * n ≡ 0 = omega arith in ap (λ k. count_at n (range_with_len 0 k)) none ∙ (omega arith)
  rows (suc r) within =
      let size : suc r * n ≡ r * n + n = omega arith in
      let before = rows r (omega arith) in
      let this = full_row r n (omega arith) (omega arith) in
      let next : count_at n (range_with_len (0 + r * n) n) ≡ min n m + n = ap (λ a. count_at n (range_with_len a n)) (zero-add (r * n)) ∙ this in
      ap (λ k. count_at n (range_with_len 0 k)) size ∙ ap (count_at n) (range-append 0 (r * n) n) ∙ count-append n (range_with_len 0 (r * n)) (range_with_len (0 + r * n) n)
      ∙ (omega (arith, before, next))

  pub branch_count : length (ends_of_first n (n * n)) ≡ 2 * n * m
  branch_count =
      let size : n * n ≡ m * n + n = omega arith in
      let before = rows m (omega arith) in
      let last = last_row m n (omega arith) (omega arith) in
      let next : count_at n (range_with_len (0 + m * n) n) ≡ min n m = ap (λ a. count_at n (range_with_len a n)) (zero-add (m * n)) ∙ last in
      ap (λ k. count_at n (range_with_len 0 k)) size ∙ ap (count_at n) (range-append 0 (m * n) n) ∙ count-append n (range_with_len 0 (m * n)) (range_with_len (0 + m * n) n)
      ∙ (omega (arith, before, next))

pub counts : (n seed : ℕ) → 1 ≤ n → HasCounts n seed
unfolding trial_of
counts zero seed some = absurd (omega arith)
counts (suc m) seed some =
    let ends = ends_of_first (suc m) (suc m * suc m) in
    let others : m ≡ suc m - 1 = omega arith in
    let size : 2 * suc m * m ≡ 2 * suc m * (suc m - 1) = ap (λ k. 2 * suc m * k) others in
    record {
      nodes = length-map-range_with_len node_at 0 (suc m * suc m);
      branches = length-branches (suc m) seed ends ∙ branch_count m ∙ size;
      meters = length-map (enumerate_from 0 ends) (meter_at seed) ∙ length-enumerate_from 0 ends ∙ branch_count m ∙ size;
    }
