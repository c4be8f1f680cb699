-- Names of a letter and a number.
use Rattle.std.proofs.Common.{◌≡◌, ℕ, zero, suc, ◌+◌, ◌-◌, ◌^◌, ◌<◌, ◌≤◌, true, ◌&&◌, eqb, leb, ltb, List, ◌∷◌, length, map, decimal, ap, ◌∙◌, inl, inr, arith}
use Rattle.std.proofs.lemmas.Bool.{and_from, cases_Bool, eqb-false, eqb-true, le-leb, lt-ltb}
use Rattle.std.proofs.lemmas.Bool.Decides.{nat_tests}
use Rattle.std.proofs.lemmas.Fmt.{digits_decimal}
use Rattle.std.specs.List.{list_all, range_with_len}
use Rattle.std.specs.Str.{bytes_eq}
use Rattle.obs_text.specs.Names.{is_name, is_name_byte}
use Rattle.obs_text.proofs.DecimalLemmas.{digits-name, length-decimal, numerals, same_name}
use Rattle.obs_case.specs.Tables.{place_of}

-- a letter and a number are a name
pub is_name-numbered : (letter n : ℕ) → is_name_byte letter ≡ true → n < 2 ^ 64 → is_name (letter ∷ decimal n) ≡ true
is_name-numbered letter n good small =
    let few = length-decimal n small in
    and_from (ltb 0 (length (letter ∷ decimal n)) && leb (length (letter ∷ decimal n)) 64) (list_all is_name_byte (letter ∷ decimal n))
    (and_from (ltb 0 (length (letter ∷ decimal n))) (leb (length (letter ∷ decimal n)) 64)
    (lt-ltb 0 (length (letter ∷ decimal n)) (omega arith)) (le-leb (length (letter ∷ decimal n)) 64 (omega (arith, few))))
    (and_from (is_name_byte letter) (list_all is_name_byte (decimal n)) good (digits-name (decimal n) (digits_decimal numerals n small)))

itself : (n : ℕ) → eqb n n ≡ true
itself n = grind (arith, nat_tests)

pub same_numbered : (letter m n : ℕ) → m < 2 ^ 64 → n < 2 ^ 64 → bytes_eq (letter ∷ decimal n) (letter ∷ decimal m) ≡ eqb m n
same_numbered letter m n small below =
    ap (λ b. b && bytes_eq (decimal n) (decimal m)) (itself letter) ∙ same_name m n small below

-- the names of so many numbers, from a on
abbrev pub names_from : ℕ → ℕ → ℕ → List (List ℕ)
names_from letter a count = map (λ i. letter ∷ decimal i) (range_with_len a count)

-- a number's name stands at its place
place_of-numbered : (letter a count n : ℕ) → a ≤ n → n < a + count → n < 2 ^ 64 → place_of (names_from letter a count) (letter ∷ decimal n) ≡ n - a
place_of-numbered letter a zero n from to small = absurd (omega arith)
place_of-numbered letter a (suc count) n from to small =
    let test : bytes_eq (letter ∷ decimal n) (letter ∷ decimal a) ≡ eqb a n = same_numbered letter a n (omega arith) small in
    elim (cases_Bool (eqb a n)) [
      | inl e ↦ (let same : a ≡ n = eqb-true a n e in rw (test, e) (omega (arith, same)))
      | inr e ↦ (let other = eqb-false a n e in
          let later = place_of-numbered letter (a + 1) count n (omega (arith, other)) (omega arith) small in rw (test, e, later) (omega arith))
    ]

pub place_of-own : (letter count n : ℕ) → n < count → n < 2 ^ 64 → place_of (names_from letter 0 count) (letter ∷ decimal n) ≡ n
place_of-own letter count n inside small = place_of-numbered letter 0 count n (omega arith) (omega (arith, inside)) small ∙ (omega arith)
