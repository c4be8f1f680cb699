-- Whole values.
use Rattle.std.proofs.Common.{◌≡◌, ℕ, ◌-◌, ◌^◌, ◌<◌, true, ◌&&◌, leb, ltb, List, length, Option, Some, None, arith}
use Rattle.std.proofs.lemmas.Bool.{and_parts, leb-true}
use Rattle.std.proofs.lemmas.Str.Parse.{digits_value_short}
use Rattle.std.specs.List.{after_first, before_first, list_all, slice_get}
use Rattle.std.specs.Option.{option_and_then}
use Rattle.std.specs.Str.{all_ascii_digits}
use Rattle.obs_text.specs.Numbers.{is_whole, value_after, whole_of}
use Rattle.obs_text.proofs.DecimalLemmas.{numerals, gate}
use Rattle.obs_matpower.specs.Fields.{is_point, is_zero, number_in, number_of}
use Rattle.obs_matpower.specs.Rows.{values_of}

-- a whole value has at most nine digits
pub number_of-lt : (value : List ℕ) (n : ℕ) → number_of value ≡ Some n → n < 1000000000
number_of-lt value n is =
    let digits = before_first is_point value in
    let form = gate (leb (length digits) 9 && list_all is_zero (after_first is_point value)) (whole_of digits) n is in
    let short = (and_parts (leb (length digits) 9) (list_all is_zero (after_first is_point value)) form.0).0 in
    let whole = gate (is_whole digits) (Some (value_after 0 digits)) n form.1 in
    let all : all_ascii_digits digits ≡ true = (and_parts (ltb 0 (length digits) && leb (length digits) 19) (all_ascii_digits digits) whole.0).1 in
    let small : value_after 0 digits < 10 ^ 9 = digits_value_short numerals digits 9 all (leb-true (length digits) 9 short) in
    let same : Some (value_after 0 digits) ≡ Some n = whole.1 in
    let is_n : value_after 0 digits ≡ n = cc in
    omega (arith, small, is_n)

pub number_in-lt : (column : ℕ) (row : List ℕ) (n : ℕ) → number_in column row ≡ Some n → n < 1000000000
number_in-lt column row n is = by (slice_get (values_of row) (column - 1)) is
  where
    by : (o : Option (List ℕ)) → option_and_then number_of o ≡ Some n → n < 1000000000
    by None e = cc
    by (Some value) e = number_of-lt value n e
