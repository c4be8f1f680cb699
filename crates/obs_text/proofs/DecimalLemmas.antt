-- Whole numbers and their decimal texts.
use Rattle.std.proofs.Common.{◌≡◌, ℕ, suc, ◌^◌, ◌<◌, ◌≤◌, Bool, true, false, ◌&&◌, cond, ltb, leb, eqb, List, [], ◌∷◌, ◌++◌, length, replicate, decimal, Option, None, Some, refl, sym, ap, ◌∙◌, inl, inr, arith, rules}
use Rattle.std.proofs.lemmas.Bool.{and_from, and_parts, cases_Bool, eqb-true, le-leb, leb-true, lt-ltb, ltb-true, eqb-false}
use Rattle.std.proofs.lemmas.Bool.Decides.{Decides-eqb, Decides-like, nat_tests, same_from_decides}
use Rattle.std.proofs.lemmas.Fmt.{decimal-digits_value, decimal_injective, decimal_nonempty, digits_decimal, digits_value-decimal, length-decimal-le}
use Rattle.std.proofs.lemmas.Str.Parse.{IsNumeralModel, digits_value_short, numerals_by_fold, tells_all_ascii_digits}
use Rattle.std.specs.Char.{is_ascii_digit}
use Rattle.std.specs.Cmp.Lexicographic.{bytes_decides}
use Rattle.std.specs.List.{list_all}
use Rattle.std.specs.Str.{all_ascii_digits, bytes_eq}
use Rattle.obs_text.specs.Names.{is_name_byte}
use Rattle.obs_text.specs.Numbers.{is_whole, value_after, whole_of}

-- the number that digits write is that of a numeral
pub numerals : IsNumeralModel (λ ds. all_ascii_digits ds ≡ true) (value_after 0)
numerals = numerals_by_fold _ tells_all_ascii_digits value_after (search rules)

pub whole_of-decimal : (n : ℕ) → n < 10 ^ 19 → whole_of (decimal n) ≡ Some n
whole_of-decimal n small =
    let few = length-decimal-le 19 n (omega arith) small (omega arith) in
    let whole : is_whole (decimal n) ≡ true =
    and_from (ltb 0 (length (decimal n)) && leb (length (decimal n)) 19) (all_ascii_digits (decimal n))
    (and_from (ltb 0 (length (decimal n))) (leb (length (decimal n)) 19) (lt-ltb 0 (length (decimal n)) (decimal_nonempty n (omega arith)))
    (le-leb (length (decimal n)) 19 few))
    (digits_decimal numerals n (omega arith)) in
    rw whole (ap Some (digits_value-decimal numerals n (omega arith)))

-- digits are the decimal text of the number that they write, behind zeros
digits_text : (ds : List ℕ) → all_ascii_digits ds ≡ true → 0 < length ds → length ds ≤ 19 → (zeros : ℕ) × (ds ≡ replicate zeros 0x30 ++ decimal (value_after 0 ds))
digits_text [] all some few = absurd (omega arith)
digits_text (d ∷ []) all some few = (0, sym (decimal-digits_value numerals (d ∷ []) all (omega arith) (λ e. refl) (omega (arith, digits_value_short numerals (d ∷ []) 19 all few))))
digits_text (d ∷ e ∷ ds) all some few =
    elim (cases_Bool (eqb d 0x30)) [
      | inl zero_first ↦ (
          let is : d ≡ 0x30 = eqb-true d 0x30 zero_first in
          let rest = digits_text (e ∷ ds) (and_parts (is_ascii_digit d) (all_ascii_digits (e ∷ ds)) all).1 (omega arith) (omega arith) in
          rw is (suc rest.0, ap (λ t. 0x30 ∷ t) rest.1))
      | inr other ↦
          (0, sym (decimal-digits_value numerals (d ∷ e ∷ ds) all (omega arith) (λ first. absurd (eqb-false d 0x30 other first)) (omega (arith, digits_value_short numerals (d ∷ e ∷ ds) 19 all few))))
    ]

-- what a gate lets through
pub gate : {A : Type 0} (pass : Bool) (value : Option A) (x : A) → cond pass value None ≡ Some x → (pass ≡ true) × (value ≡ Some x)
gate true value x is = (refl, is)
gate false value x is = cc

pub whole_of-text : (bytes : List ℕ) (n : ℕ) → whole_of bytes ≡ Some n → (zeros : ℕ) × (bytes ≡ replicate zeros 0x30 ++ decimal n)
whole_of-text bytes n is =
    let whole = gate (is_whole bytes) (Some (value_after 0 bytes)) n is in
    let parts = and_parts (ltb 0 (length bytes) && leb (length bytes) 19) (all_ascii_digits bytes) whole.0 in
    let sizes = and_parts (ltb 0 (length bytes)) (leb (length bytes) 19) parts.0 in
    let text = digits_text bytes parts.1 (ltb-true 0 (length bytes) sizes.0) (leb-true (length bytes) 19 sizes.1) in
    let some : Some (value_after 0 bytes) ≡ Some n = whole.1 in
    let value : value_after 0 bytes ≡ n = cc in
    (text.0, text.1 ∙ ap (λ m. replicate text.0 0x30 ++ decimal m) value)

pub length-decimal : (n : ℕ) → n < 2 ^ 64 → length (decimal n) ≤ 20
length-decimal n small = length-decimal-le 20 n (omega arith) (omega arith) small

-- a digit may stand in a name
pub digit-name : (d : ℕ) → is_ascii_digit d ≡ true → is_name_byte d ≡ true
digit-name d is = grind (arith, nat_tests)

pub digits-name : (ds : List ℕ) → all_ascii_digits ds ≡ true → list_all is_name_byte ds ≡ true
digits-name [] all = refl
digits-name (d ∷ ds) all =
    let parts = and_parts (is_ascii_digit d) (all_ascii_digits ds) all in
    and_from (is_name_byte d) (list_all is_name_byte ds) (digit-name d parts.0) (digits-name ds parts.1)

-- two numbers have one text exactly where they are one
pub same_name : (m n : ℕ) → m < 2 ^ 64 → n < 2 ^ 64 → bytes_eq (decimal n) (decimal m) ≡ eqb m n
same_name m n small below =
    same_from_decides {P = m ≡ n} (bytes_eq (decimal n) (decimal m)) (eqb m n)
    (Decides-like {P = decimal n ≡ decimal m} {Q = m ≡ n} (bytes_eq (decimal n) (decimal m)) (λ e. sym (decimal_injective n m below small e)) (λ e. ap decimal (sym e)) (bytes_decides (decimal n) (decimal m)))
    (Decides-eqb m n)
