-- Numbers of buses have four digits.
use Rattle.std.proofs.Common.{◌≡◌, ℕ, ◌^◌, ◌<◌, ◌≤◌, true, ◌&&◌, ◌||◌, eqb, leb, ltb, List, [], ◌∷◌, length, map, Some, inl, inr, arith}
use Rattle.std.proofs.lemmas.Bool.{and_parts, cases_Bool, eqb-true, false≢true, leb-true}
use Rattle.std.proofs.lemmas.List.{length-map}
use Rattle.std.proofs.lemmas.Map.Steps.{length-le_from_distinct_below}
use Rattle.std.proofs.lemmas.Str.Parse.{digits_value_short}
use Rattle.std.specs.List.{AllByRecursion, list_any}
use Rattle.std.specs.Str.{all_ascii_digits}
use Rattle.obs_text.specs.Numbers.{is_whole, value_after, whole_of}
use Rattle.obs_text.proofs.DecimalLemmas.{numerals, gate}
use Rattle.obs_bus_branch.specs.Buses.{Bus}
use Rattle.obs_ieee_cdf.specs.inner.Reading.{AreBuses}
use Rattle.obs_ieee_cdf.specs.Fields.{number_of}

-- a bus number is below ten thousand
pub number_of-lt : (field : List ℕ) (n : ℕ) → number_of field ≡ Some n → n < 10000
number_of-lt field n is =
    let short = gate (leb (length field) 4) (whole_of field) n is in
    let whole = gate (is_whole field) (Some (value_after 0 field)) n short.1 in
    let digits : all_ascii_digits field ≡ true = (and_parts (ltb 0 (length field) && leb (length field) 19) (all_ascii_digits field) whole.0).1 in
    let small : value_after 0 field < 10 ^ 4 = digits_value_short numerals field 4 digits (leb-true (length field) 4 short.0) in
    let same : Some (value_after 0 field) ≡ Some n = whole.1 in
    let value : value_after 0 field ≡ n = cc in
    omega (arith, small, value)

-- ten thousand numbers are fewer than the rows of a table
numbers_below : (buses : List Bus) → AllByRecursion (λ (bus : Bus). bus.number < 10000) buses → (q : ℕ) → list_any (eqb q) (map (λ (bus : Bus). bus.number) buses) ≡ true → q < 10000
numbers_below [] small q there = absurd (false≢true there)
numbers_below (bus ∷ buses) (here, others) q there =
    elim (cases_Bool (eqb q bus.number)) [
      | inl e ↦ (let same : q ≡ bus.number = eqb-true q bus.number e in omega (arith, here, same))
      | inr e ↦ numbers_below buses others q (let t : (eqb q bus.number || list_any (eqb q) (map (λ (b : Bus). b.number) buses)) ≡ true = there in rw e at t)
    ]

pub length-buses : (buses : List Bus) → AreBuses buses → length buses ≤ 10000
length-buses buses are =
    let few = length-le_from_distinct_below (map (λ (bus : Bus). bus.number) buses) 10000 are.different (numbers_below buses are.small) in
    omega (arith, few, length-map buses (λ (bus : Bus). bus.number))
