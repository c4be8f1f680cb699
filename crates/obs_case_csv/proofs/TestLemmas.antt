-- Why a header or a row is refused: the lowest of the codes whose tests hold.
use Rattle.std.proofs.Common.{ℕ, ◌≡◌, ◌∙◌, ◌+◌, ◌≤◌, ◌⊎◌, inl, inr, ap, refl, sym, subst, List, [], ◌∷◌, length, Bool, not, true, false, arith, Option, Some, None, if◌then◌else◌, nat_eq}
use Rattle.std.proofs.lemmas.Bool.{eq-eqb, cases_Bool, eqb-false, eqb-true, false≢true, ne_eqb}
use Rattle.std.specs.List.{list_any}
use Rattle.obs_text.specs.Names.{is_name}
use Rattle.obs_case.specs.Tables.{IsValid, Tables, has_name}
use Rattle.obs_case_csv.specs.declared.faults.RowFault.{RowFault}
use Rattle.obs_case_csv.specs.declared.faults.RowFault.TheVariants.{NoHeader, ColumnMissing, ColumnTwice, ShortRow, BadName, BadFlag, BadKind, BadPrice, NameTwice, UnknownNode, UnknownPlace, TooMany}
use Rattle.obs_case_csv.specs.declared.faults.Table.{Table}
use Rattle.obs_case_csv.specs.declared.faults.Table.TheVariants.{Nodes, Switches, Branches, Meters, Candidates}
use Rattle.obs_case_csv.specs.inner.Columns.{own_column}
use Rattle.obs_case_csv.specs.Faults.{fault_code}
use Rattle.obs_case_csv.specs.Fields.{Record, comes_twice, field_of, header_fault, is_short, needed_columns, read_columns}
use Rattle.obs_case_csv.specs.inner.IsFault.{HeaderHas, RowHas, has_bad_flag, has_bad_kind, has_bad_price, has_unknown_node, has_unknown_place}
use Rattle.obs_case_csv.specs.Rows.{lowest, names_in, row_fault}

-- ---- tests in the order of their codes

-- the test of a code is among the tests, and holds
abbrev pub IsMet : RowFault → List (RowFault × Bool) → Type 0
IsMet code [] = ⊥
IsMet code (test ∷ tests) = ((test.0 ≡ code) × (test.1 ≡ true)) ⊎ IsMet code tests

-- the codes rise
abbrev pub Rise : ℕ → List (RowFault × Bool) → Type 0
Rise low [] = Unit {0}
Rise low (test ∷ tests) = (low ≤ fault_code test.0) × Rise (fault_code test.0) tests

-- each test tells a fact of its code
abbrev pub Tell : (RowFault → Type 0) → List (RowFault × Bool) → Type 0
Tell P [] = Unit {0}
Tell P (test ∷ tests) = (test.1 ≡ true → P test.0) × Tell P tests

-- the code that is answered, if one is, is at most this one
abbrev pub AtMost : Option RowFault → RowFault → Type 0
AtMost None code = ⊥
AtMost (Some least) code = fault_code least ≤ fault_code code

lowest_met : (tests : List (RowFault × Bool)) (code : RowFault) → lowest tests ≡ Some code → IsMet code tests
lowest_met [] code e = cc
lowest_met (test ∷ tests) code e = by test.1 refl e (lowest_met tests code)
  where
    by : (b : Bool) → test.1 ≡ b → (if b then Some test.0 else lowest tests) ≡ Some code → (lowest tests ≡ Some code → IsMet code tests) → IsMet code (test ∷ tests)
    by true is e rest = let same : test.0 ≡ code = cc in inl (same, is)
    by false is e rest = inr (rest e)

above : (low : ℕ) (tests : List (RowFault × Bool)) (code : RowFault) → Rise low tests → IsMet code tests → low ≤ fault_code code
above low [] code rise met = absurd met
above low (test ∷ tests) code rise met =
    elim met [
      | inl here ↦ subst (λ c. low ≤ fault_code c) here.0 rise.0
      | inr later ↦ omega (arith, rise.0, above (fault_code test.0) tests code rise.1 later)
    ]

lowest_least : (low : ℕ) (tests : List (RowFault × Bool)) (code : RowFault) → Rise low tests → IsMet code tests → AtMost (lowest tests) code
lowest_least low [] code rise met = absurd met
lowest_least low (test ∷ tests) code rise met = by test.1 refl (lowest_least (fault_code test.0) tests code rise.1)
  where
    by : (b : Bool) → test.1 ≡ b → (IsMet code tests → AtMost (lowest tests) code) → AtMost (if b then Some test.0 else lowest tests) code
    by true is rest = above (fault_code test.0) (test ∷ tests) code (omega arith, rise.1) met
    by false is rest = elim met [
      | inl here ↦ absurd (false≢true (sym is ∙ here.1))
      | inr later ↦ rest later
    ]

told : (P : RowFault → Type 0) (tests : List (RowFault × Bool)) (code : RowFault) → Tell P tests → IsMet code tests → P code
told P [] code tell met = absurd met
told P (test ∷ tests) code tell met =
    elim met [
      | inl here ↦ subst P here.0 (tell.0 here.1)
      | inr later ↦ told P tests code tell.1 later
    ]

-- ---- the header

module _ (table : Table) (header : Record) (rows : List Record) where
  abbrev header_tests : List (RowFault × Bool)
  header_tests =
      (ColumnMissing, list_any (λ column. not (has_name header column)) (needed_columns table)) ∷ (ColumnTwice, list_any (comes_twice header) (read_columns table)) ∷ []

  pub header-has : (code : RowFault) → header_fault table header ≡ Some code → HeaderHas code table (header ∷ rows)
  header-has code e = told (λ c. HeaderHas c table (header ∷ rows)) header_tests code ((λ h. h), ((λ h. h), tt)) (lowest_met header_tests code e)

  header-met : (code : RowFault) → HeaderHas code table (header ∷ rows) → IsMet code header_tests
  header-met NoHeader h = absurd h
  header-met ColumnMissing h = inl (refl, h)
  header-met ColumnTwice h = inr (inl (refl, h))
  header-met ShortRow h = absurd h
  header-met BadName h = absurd h
  header-met BadFlag h = absurd h
  header-met BadKind h = absurd h
  header-met BadPrice h = absurd h
  header-met NameTwice h = absurd h
  header-met UnknownNode h = absurd h
  header-met UnknownPlace h = absurd h
  header-met TooMany h = absurd h

  pub header-least : (code : RowFault) → HeaderHas code table (header ∷ rows) → AtMost (header_fault table header) code
  header-least code h = lowest_least 2 header_tests code (omega arith, (omega arith, tt)) (header-met code h)

-- ---- one row

module _ (table : Table) (t : Tables) (header row : Record) where
  abbrev row_tests : List (RowFault × Bool)
  row_tests =
      (ShortRow, is_short (read_columns table) header row)
      ∷ (BadName, not (is_name (field_of header row (own_column table))))
      ∷ (BadFlag, has_bad_flag table (field_of header row))
      ∷ (BadKind, has_bad_kind table (field_of header row))
      ∷ (BadPrice, has_bad_price table (field_of header row))
      ∷ (NameTwice, has_name (names_in table t) (field_of header row (own_column table)))
      ∷ (UnknownNode, has_unknown_node table t (field_of header row))
      ∷ (UnknownPlace, has_unknown_place table t (field_of header row))
      ∷ []

  row-met : (code : RowFault) → RowHas code table t header row → IsMet code row_tests
  row-met NoHeader h = absurd h
  row-met ColumnMissing h = absurd h
  row-met ColumnTwice h = absurd h
  row-met ShortRow h = inl (refl, h)
  row-met BadName h = inr (inl (refl, h))
  row-met BadFlag h = inr (inr (inl (refl, h)))
  row-met BadKind h = inr (inr (inr (inl (refl, h))))
  row-met BadPrice h = inr (inr (inr (inr (inl (refl, h)))))
  row-met NameTwice h = inr (inr (inr (inr (inr (inl (refl, h))))))
  row-met UnknownNode h = inr (inr (inr (inr (inr (inr (inl (refl, h)))))))
  row-met UnknownPlace h = inr (inr (inr (inr (inr (inr (inr (inl (refl, h))))))))
  row-met TooMany h = absurd h

  met-row : (code : RowFault) → IsMet code row_tests → RowHas code table t header row
  met-row code met =
      told (λ c. RowHas c table t header row) row_tests code
      ((λ h. h), ((λ h. h), ((λ h. h), ((λ h. h), ((λ h. h), ((λ h. h), ((λ h. h), ((λ h. h), tt)))))))) met

  rise : Rise 4 row_tests
  rise = (omega arith, (omega arith, (omega arith, (omega arith, (omega arith, (omega arith, (omega arith, (omega arith, tt))))))))

-- a row that isn't the row behind the limit is refused for the lowest test that holds
row_fault-tests : (table : Table) (t : Tables) (header row : Record) → nat_eq (length (names_in table t)) t.most ≡ false → row_fault table header t row ≡ lowest (row_tests table t header row)
row_fault-tests Nodes t header row room = rw room refl
row_fault-tests Switches t header row room = rw room refl
row_fault-tests Branches t header row room = rw room refl
row_fault-tests Meters t header row room = rw room refl
row_fault-tests Candidates t header row room = rw room refl

row_fault-full : (table : Table) (t : Tables) (header row : Record) → nat_eq (length (names_in table t)) t.most ≡ true → row_fault table header t row ≡ Some TooMany
row_fault-full table t header row full = rw full refl

few_names : (table : Table) (t : Tables) → IsValid t → length (names_in table t) ≤ t.most
few_names Nodes t v = v.nodes.few
few_names Switches t v = v.switches.few
few_names Branches t v = v.branches.few
few_names Meters t v = v.meters.few
few_names Candidates t v = v.candidates.few

-- the fault of the row of this number
abbrev pub Has : RowFault → ℕ → Table → Tables → Record → Record → Type 0
Has code number table t header row = ((number ≡ t.most + 1) × (code ≡ TooMany)) ⊎ ((number ≤ t.most) × RowHas code table t header row)

module _ (table : Table) (t : Tables) (header row : Record) (number : ℕ) (is : number ≡ length (names_in table t) + 1) (code : RowFault) where
  pub refused-has : IsValid t → row_fault table header t row ≡ Some code → Has code number table t header row
  refused-has v e =
      elim (cases_Bool (nat_eq (length (names_in table t)) t.most)) [
        | inl full ↦
            let many = row_fault-full table t header row full in
            let same : code ≡ TooMany = cc in
            inl (omega (arith, is, eqb-true (length (names_in table t)) t.most full), same)
        | inr room ↦
            let other : length (names_in table t) ≡ t.most → ⊥ = eqb-false (length (names_in table t)) t.most room in
            inr (
              omega (arith, is, few_names table t v, other),
              met-row table t header row code (lowest_met (row_tests table t header row) code (sym (row_fault-tests table t header row room) ∙ e)),
            )
      ]

  pub has-refused : Has code number table t header row → AtMost (row_fault table header t row) code
  has-refused has =
      elim has [
        | inl last ↦
            let full : length (names_in table t) ≡ t.most = omega (arith, is, last.0) in
            subst (λ o. AtMost o code) (sym (row_fault-full table t header row (full_test (length (names_in table t)) full))) (subst (λ c. AtMost (Some TooMany) c) (sym last.1) (omega arith))
        | inr early ↦
            let room = ne_eqb (length (names_in table t)) t.most (λ e. omega (arith, is, early.0, e)) in
            subst (λ o. AtMost o code) (sym (row_fault-tests table t header row room)) (lowest_least 4 (row_tests table t header row) code (rise table t header row) (row-met table t header row code early.1))
      ]
    where
      full_test : (n : ℕ) → n ≡ t.most → nat_eq n t.most ≡ true
      full_test n e = ap (λ m. nat_eq m t.most) e ∙ eq-eqb t.most t.most refl
