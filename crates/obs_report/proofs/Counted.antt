-- What is counted one by one.
use Rattle.std.proofs.Common.{◌≡◌, ◌∙◌, ℕ, ◌+◌, ◌<◌, ◌≤◌, Bool, true, false, List, ◌++◌, length, get_or, take, append-nil, sym, ap, arith}
use Rattle.std.specs.Prelude.{count_by}
use Rattle.std.specs.List.{range_with_len}
use Rattle.std.proofs.Math.ListN.{drop_of_length-le}
use Rattle.std.proofs.lemmas.List.{take-append-drop}
use Rattle.std.proofs.lemmas.List.FromFn.{get_or-range_with_len, length-range_with_len}
use Rattle.std.proofs.lemmas.List.Sums.{count_by_more_no, count_by_more_yes}

-- all are counted
pub counted_all : {X : Type 0} (p : X → Bool) (xs : List X) (i : ℕ) → length xs ≤ i → count_by p (take i xs) ≡ count_by p xs
counted_all p xs i l =
    let whole = sym (append-nil (take i xs)) ∙ (ap (λ t. take i xs ++ t) (sym (drop_of_length-le xs l)) ∙ take-append-drop i xs) in
    ap (count_by p) whole

range_at : (n m : ℕ) → m < n → get_or (range_with_len 0 n) m 0 ≡ m
range_at n m l = get_or-range_with_len 0 n m 0 l ∙ omega arith

-- one number more of a row passes, or doesn't
pub range_more_yes : (p : ℕ → Bool) (n m : ℕ) → m < n → p m ≡ true → count_by p (take (m + 1) (range_with_len 0 n)) ≡ count_by p (take m (range_with_len 0 n)) + 1
range_more_yes p n m l passes = count_by_more_yes p (range_with_len 0 n) m 0 (omega (arith, length-range_with_len 0 n)) (ap p (range_at n m l) ∙ passes)

pub range_more_no : (p : ℕ → Bool) (n m : ℕ) → m < n → p m ≡ false → count_by p (take (m + 1) (range_with_len 0 n)) ≡ count_by p (take m (range_with_len 0 n))
range_more_no p n m l fails = count_by_more_no p (range_with_len 0 n) m 0 (omega (arith, length-range_with_len 0 n)) (ap p (range_at n m l) ∙ fails)
