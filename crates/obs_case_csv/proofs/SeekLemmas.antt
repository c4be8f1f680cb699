-- A column is sought from the end of a header to its start.
use Rattle.std.proofs.Common.{inl, inr, ℕ, ◌≡◌, ◌∙◌, ◌+◌, ◌<◌, ap, refl, sym, List, [], ◌∷◌, length, drop, Bool, true, false, arith, suc, zero, get_or, option_map, unwrap_or, drop-cons, cond, count_by, nat_lt, ◌||◌}
use Rattle.std.proofs.lemmas.Bool.{cases_Bool, lt-ltb}
use Rattle.std.proofs.lemmas.List.{drop_all}
use Rattle.std.proofs.lemmas.List.Sums.{sum_by-cons}
use Rattle.std.specs.Bool.{then_some}
use Rattle.std.specs.Str.{bytes_eq}
use Rattle.csv.specs.Records.{field_at}
use Rattle.obs_case.specs.Tables.{has_name, place_of, position_of}
use Rattle.obs_case.proofs.NameLemmas.{position-absent, position-there}
use Rattle.obs_case_csv.specs.Fields.{Record, comes_twice}

-- the place of a column that is there, and else none
pub position-found : (fields : Record) (column : List ℕ) → then_some (has_name fields column) (place_of fields column) ≡ position_of fields column
position-found fields column =
    elim (cases_Bool (has_name fields column)) [
      | inl e ↦ rw e (sym (position-there (bytes_eq column) fields e))
      | inr e ↦ rw e (sym (position-absent (bytes_eq column) fields e))
    ]

module _ (column : List ℕ) where
  -- how often a column stands in a header, by its first field
  counted : (field : List ℕ) (fields : Record) (b : Bool) → bytes_eq column field ≡ b
      → count_by (bytes_eq column) (field ∷ fields) ≡ cond b 1 0 + count_by (bytes_eq column) fields
  counted field fields b e = sum_by-cons (λ f. cond (bytes_eq column f) 1 0) field fields ∙ ap (λ b. cond b 1 0 + count_by (bytes_eq column) fields) e

  -- a column that was met once comes twice where it is in the rest of the header
  again : (fields : Record) → has_name fields column ≡ nat_lt 1 (1 + count_by (bytes_eq column) fields)
  again [] = refl
  again (field ∷ fields) =
      elim (cases_Bool (bytes_eq column field)) [
        | inl e ↦ ap (λ b. b || has_name fields column) e ∙ sym (lt-ltb 1 (1 + count_by (bytes_eq column) (field ∷ fields)) (omega (arith, counted field fields true e)))
        | inr e ↦ ap (λ b. b || has_name fields column) e ∙ again fields ∙ ap (nat_lt 1) (omega (arith, counted field fields false e))
      ]

  -- a column that is the first field comes twice where it is there again, and else where it comes twice later
  twice-here : (field : List ℕ) (fields : Record) → bytes_eq column field ≡ true → has_name fields column ≡ comes_twice (field ∷ fields) column
  twice-here field fields e = again fields ∙ ap (nat_lt 1) (sym (counted field fields true e))

  twice-later : (field : List ℕ) (fields : Record) → bytes_eq column field ≡ false → comes_twice fields column ≡ comes_twice (field ∷ fields) column
  twice-later field fields e = ap (nat_lt 1) (omega (arith, counted field fields false e))

-- what is known of a column once the fields from a place on were seen
pub record IsSought (fields : Record) (column : List ℕ) (i : ℕ) (found twice : Bool) (place : ℕ) : Type 0 where
  pub found_is : found ≡ has_name (drop i fields) column
  pub twice_is : twice ≡ comes_twice (drop i fields) column
  pub place_is : place ≡ i + place_of (drop i fields) column

-- whether the field at a place has these bytes
abbrev pub field_is : Record → ℕ → List ℕ → Bool
field_is fields i bytes = unwrap_or (option_map (bytes_eq bytes) (field_at fields i)) false

pub field_is-there : (fields : Record) (i : ℕ) (bytes : List ℕ) → i < length fields → field_is fields i bytes ≡ bytes_eq bytes (get_or fields i [])
unfolding field_at
field_is-there [] i bytes lt = absurd (omega arith)
field_is-there (field ∷ fields) zero bytes lt = refl
field_is-there (field ∷ fields) (suc i) bytes lt = field_is-there fields i bytes (omega arith)

-- at the end no field was seen
pub sought-none : (fields : Record) (column : List ℕ) (i : ℕ) → i ≡ length fields → IsSought fields column i false false i
sought-none fields column i e =
    let none : drop i fields ≡ [] = drop_all i fields (omega arith) in
    record {
      found_is = ap (λ fs. has_name fs column) (sym none);
      twice_is = ap (λ fs. comes_twice fs column) (sym none);
      place_is = rw none (omega arith);
    }

module _ (fields : Record) (column : List ℕ) (i : ℕ) (found twice : Bool) (place : ℕ) (lt : i < length fields) (h : IsSought fields column (suc i) found twice place) where
  -- the field before is the column
  pub sought-here : field_is fields i column ≡ true → IsSought fields column i true found i
  sought-here e =
      let here : drop i fields ≡ get_or fields i [] ∷ drop (suc i) fields = drop-cons fields i [] lt in
      let same : bytes_eq column (get_or fields i []) ≡ true = sym (field_is-there fields i column lt) ∙ e in
      record {
        found_is = rw (here, same) refl;
        twice_is = rw here (h.found_is ∙ twice-here column (get_or fields i []) (drop (suc i) fields) same);
        place_is = rw (here, same) (omega arith);
      }

  -- or it isn't
  pub sought-later : field_is fields i column ≡ false → IsSought fields column i found twice place
  sought-later e =
      let here : drop i fields ≡ get_or fields i [] ∷ drop (suc i) fields = drop-cons fields i [] lt in
      let other : bytes_eq column (get_or fields i []) ≡ false = sym (field_is-there fields i column lt) ∙ e in
      record {
        found_is = rw (here, other) h.found_is;
        twice_is = rw here (h.twice_is ∙ twice-later column (get_or fields i []) (drop (suc i) fields) other);
        place_is = rw (here, other) (omega (arith, h.place_is));
      }
