-- The fault that is met in a table's bytes is one, and no other comes before it.
use Rattle.std.proofs.Common.{ℕ, ◌≡◌, ◌∙◌, ◌+◌, ◌<◌, ◌≤◌, ◌⊎◌, inl, inr, ap, refl, sym, subst, List, [], ◌∷◌, ◌++◌, length, arith, Option, Some, None, MatchOption}
use Rattle.obs_case.specs.Tables.{IsValid, Tables}
use Rattle.obs_case_csv.specs.declared.faults.RowFault.{RowFault}
use Rattle.obs_case_csv.specs.declared.faults.RowFault.TheVariants.{NoHeader, ColumnMissing, ColumnTwice, ShortRow, BadName, BadFlag, BadKind, BadPrice, NameTwice, UnknownNode, UnknownPlace, TooMany}
use Rattle.obs_case_csv.specs.declared.faults.Table.{Table}
use Rattle.obs_case_csv.specs.declared.faults.TableFault.{TableFault}
use Rattle.obs_case_csv.specs.Faults.{fault_code}
use Rattle.obs_case_csv.specs.Fields.{Record, header_fault}
use Rattle.obs_case_csv.specs.inner.IsFault.{HasRowFault, HeaderHas, NotAfter}
use Rattle.obs_case_csv.specs.inner.Laws.{FirstFault}
use Rattle.obs_case_csv.specs.inner.OneTable.{HasRows}
use Rattle.obs_case_csv.specs.Read.{fault_of_records, first_fault, rows_before, table_records}
use Rattle.obs_case_csv.specs.Rows.{names_in, next_row, row_fault, with_record}
use Rattle.obs_case_csv.proofs.ReadLemmas.{faulty_header, first_fault-append, first_fault-end, first_fault-here, first_fault-next, next_row-with_record, row_fault-none, rows_before-end, rows_before-next, with_header}
use Rattle.obs_case_csv.proofs.TableLemmas.{read-rows, rows-read}
use Rattle.obs_case_csv.proofs.ValidLemmas.{valid-rows_before}
use Rattle.obs_case_csv.proofs.TestLemmas.{AtMost, Has, has-refused, header-has, header-least, refused-has}

-- ---- rows one after another

module _ (table : Table) (header : Record) where
  -- each row that is read is one name more
  count : (rows : List Record) (t : Tables) → first_fault table header t rows ≡ None → length (names_in table (rows_before table header t rows)) ≡ length (names_in table t) + length rows
  count [] t e = ap (λ u. length (names_in table u)) (rows_before-end table header t) ∙ omega arith
  count (row ∷ rows) t e =
      let fine = row_fault-none table header t row rows e in
      let later = count rows (with_record table header t row) (sym (first_fault-next table header t row rows fine) ∙ e) in
      let same = ap (λ u. length (names_in table u)) (rows_before-next table header t row rows fine) in
      omega (arith, later, same, next_row-with_record table header t row)

  -- a row with a fault, after rows without one
  pub record IsFirst (t : Tables) (rows : List Record) (fault : TableFault) : Type 0 where
    pub before : List Record
    pub row : Record
    pub after : List Record
    pub rows_are : rows ≡ before ++ row ∷ after
    pub fine : first_fault table header t before ≡ None
    pub here : row_fault table header (rows_before table header t before) row ≡ Some fault.code
    pub number_is : fault.row ≡ next_row table (rows_before table header t before)
    pub table_is : fault.table ≡ table

  pub first-is : (rows : List Record) (t : Tables) (fault : TableFault) → first_fault table header t rows ≡ Some fault → IsFirst t rows fault
  first-is [] t fault e = let end = first_fault-end table header t in cc
  first-is (row ∷ rows) t fault e =
      by (row_fault table header t row) refl (λ fine. first-is rows (with_record table header t row) fault (sym (first_fault-next table header t row rows fine) ∙ e))
    where
      by : (o : Option RowFault) → row_fault table header t row ≡ o → (row_fault table header t row ≡ None → IsFirst (with_record table header t row) rows fault) → IsFirst t (row ∷ rows) fault
      by None fine rest =
          let r = rest fine in
          let same = sym (rows_before-next table header t row r.before fine) in
          record {
            before = row ∷ r.before;
            row = r.row;
            after = r.after;
            rows_are = ap (λ l. row ∷ l) r.rows_are;
            fine = first_fault-next table header t row r.before fine ∙ r.fine;
            here = subst (λ u. row_fault table header u r.row ≡ Some fault.code) same r.here;
            number_is = r.number_is ∙ ap (next_row table) same;
            table_is = r.table_is;
          }
      by (Some code) is rest =
          let found : TableFault = record { table = table; row = next_row table t; code = code } in
          let at : first_fault table header t (row ∷ rows) ≡ Some found = first_fault-here table header t row rows code is in
          let same : found ≡ fault = cc in
          let none = sym (rows_before-end table header t) in
          record {
            before = [];
            row = row;
            after = rows;
            rows_are = refl;
            fine = first_fault-end table header t;
            here = subst (λ u. row_fault table header u row ≡ Some fault.code) none (is ∙ ap (λ f. Some f.code) same);
            number_is = sym (ap (λ f. f.row) same) ∙ ap (next_row table) none;
            table_is = sym (ap (λ f. f.table) same);
          }

  -- a row behind rows without a fault
  row-fine : (t : Tables) (before : List Record) (row : Record) (after : List Record) → first_fault table header t before ≡ None → first_fault table header t (before ++ row ∷ after) ≡ None
      → row_fault table header (rows_before table header t before) row ≡ None
  row-fine t before row after fine e = row_fault-none table header (rows_before table header t before) row after (sym (first_fault-append table header before (row ∷ after) t fine) ∙ e)

-- two places in one list: the first is before the second, at it, or behind it
compare : {A : Type 0} (xs ys : List A) (x y : A) (xs_after ys_after : List A) → xs ++ x ∷ xs_after ≡ ys ++ y ∷ ys_after
    → (length xs < length ys) ⊎ (((xs ≡ ys) × (x ≡ y)) ⊎ ((more : List A) × (xs ≡ ys ++ y ∷ more)))
compare [] [] x y xs_after ys_after e = let same : x ≡ y = cc in inr (inl (refl, same))
compare [] (b ∷ ys) x y xs_after ys_after e = inl (omega arith)
compare (a ∷ xs) [] x y xs_after ys_after e = let same : a ≡ y = cc in inr (inr (xs, ap (λ z. z ∷ xs) same))
compare (a ∷ xs) (b ∷ ys) x y xs_after ys_after e =
    let head : a ≡ b = cc in
    let tail : xs ++ x ∷ xs_after ≡ ys ++ y ∷ ys_after = cc in
    elim (compare xs ys x y xs_after ys_after tail) [
      | inl lt ↦ inl (omega (arith, lt))
      | inr rest ↦
          elim rest [
            | inl same ↦ inr (inl ((let both : a ∷ xs ≡ b ∷ ys = ap (λ z. z ∷ xs) head ∙ ap (λ l. b ∷ l) same.0 in both), same.1))
            | inr more ↦ inr (inr (more.0, ap (λ z. z ∷ xs) head ∙ ap (λ l. b ∷ l) more.1))
          ]
    ]

-- ---- the first fault

module _ (table : Table) (t : Tables) (empty : names_in table t ≡ []) where
  pub next_is : (header : Record) (before : List Record) → first_fault table header t before ≡ None → length (names_in table (rows_before table header t before)) + 1 ≡ length before + 1
  next_is header before fine = omega (arith, count table header before t fine, ap length empty)

module _ (table : Table) (t : Tables) (valid : IsValid t) (empty : names_in table t ≡ []) where
  -- a row's fault, under the header that the records have
  record HasUnder (header : Record) (rows : List Record) (number : ℕ) (code : RowFault) : Type 0 where
    pub before : List Record
    pub row : Record
    pub after : List Record
    pub rows_are : rows ≡ before ++ row ∷ after
    pub number_is : number ≡ length before + 1
    pub fine : first_fault table header t before ≡ None
    pub least : AtMost (row_fault table header (rows_before table header t before) row) code

  under : (header : Record) (rows : List Record) (number : ℕ) (code : RowFault) → HasRowFault table t (header ∷ rows) number code → HasUnder header rows number code
  under header rows number code h =
      let heads : h.header ≡ header = cc in
      let tails : rows ≡ h.before ++ h.row ∷ h.after = cc in
      let read = read-rows header h.before t table h.tables h.valid empty (subst (λ x. HasRows table x h.before t h.tables) heads h.rows) in
      let tables = rows_before table header t h.before in
      let has : Has code number table tables header h.row = subst (λ u. Has code number table u header h.row) (sym read.1) (subst (λ x. Has code number table h.tables x h.row) heads h.has) in
      record {
        before = h.before;
        row = h.row;
        after = h.after;
        rows_are = tails;
        number_is = h.number_is;
        fine = read.0;
        least = has-refused table tables header h.row number (h.number_is ∙ sym (next_is table t empty header h.before read.0)) code has;
      }

  -- where no fault is met, no row has one
  none-has : (header : Record) (rows : List Record) → first_fault table header t rows ≡ None → (number : ℕ) (code : RowFault) → HasUnder header rows number code → ⊥
  none-has header rows e number code h =
      let fine = row-fine table header t h.before h.row h.after h.fine (ap (first_fault table header t) (sym h.rows_are) ∙ e) in
      subst (λ o. AtMost o code) fine h.least

  module _ (header : Record) (rows : List Record) (fault : TableFault) (s : IsFirst table header t rows fault) where
    number_of : fault.row ≡ length s.before + 1
    number_of = s.number_is ∙ next_is table t empty header s.before s.fine

    first-has : header_fault table header ≡ None → HasRowFault table t (header ∷ rows) fault.row fault.code
    first-has columns =
        let tables = rows_before table header t s.before in
        let stay = valid-rows_before table header s.before t valid in
        record {
          header = header;
          before = s.before;
          row = s.row;
          after = s.after;
          records_are = ap (λ l. header ∷ l) s.rows_are;
          number_is = number_of;
          columns = columns;
          tables = tables;
          valid = stay;
          rows = rows-read header s.before t table empty s.fine;
          has = refused-has table tables header s.row fault.row s.number_is fault.code stay s.here;
        }

    first-least : (number : ℕ) (code : RowFault) → HasUnder header rows number code → NotAfter fault.row fault.code number code
    first-least number code h =
        elim (compare s.before h.before s.row h.row s.after h.after (sym s.rows_are ∙ h.rows_are)) [
          | inl lt ↦ inl (omega (arith, lt, number_of, h.number_is))
          | inr rest ↦
              elim rest [
                | inl same ↦
                    let row : row_fault table header (rows_before table header t h.before) h.row ≡ Some fault.code =
                    ap (λ l. row_fault table header (rows_before table header t l) h.row) (sym same.0) ∙ ap (row_fault table header (rows_before table header t s.before)) (sym same.1) ∙ s.here in
                    inr (number_of ∙ ap (λ l. length l + 1) same.0 ∙ sym h.number_is, subst (λ o. AtMost o code) row h.least)
                | inr more ↦
                    let fine = row-fine table header t h.before h.row more.0 h.fine (ap (first_fault table header t) (sym more.1) ∙ s.fine) in
                    absurd (subst (λ o. AtMost o code) fine h.least)
              ]
        ]

  -- the faults of these records
  abbrev FaultOf : List Record → ℕ → RowFault → Type 0
  FaultOf records row code = ((row ≡ 0) × HeaderHas code table records) ⊎ HasRowFault table t records row code

  abbrev IsFirstOf : List Record → TableFault → Type 0
  IsFirstOf records fault =
      (fault.table ≡ table) × FaultOf records fault.row fault.code × ((row : ℕ) (code : RowFault) → FaultOf records row code → NotAfter fault.row fault.code row code)

  abbrev HasNone : List Record → Type 0
  HasNone records = (row : ℕ) (code : RowFault) → FaultOf records row code → ⊥

  behind_header : (records : List Record) (number : ℕ) (code : RowFault) → HasRowFault table t records number code → 0 < number
  behind_header records number code h = omega (arith, h.number_is)

  one_at_least : (code : RowFault) → 1 ≤ fault_code code
  one_at_least NoHeader = omega arith
  one_at_least ColumnMissing = omega arith
  one_at_least ColumnTwice = omega arith
  one_at_least ShortRow = omega arith
  one_at_least BadName = omega arith
  one_at_least BadFlag = omega arith
  one_at_least BadKind = omega arith
  one_at_least BadPrice = omega arith
  one_at_least NameTwice = omega arith
  one_at_least UnknownNode = omega arith
  one_at_least UnknownPlace = omega arith
  one_at_least TooMany = omega arith

  of-header : (header : Record) (rows : List Record) (code : RowFault) → header_fault table header ≡ Some code → IsFirstOf (header ∷ rows) (record { table = table; row = 0; code = code })
  of-header header rows code e = (
    refl,
    inl (refl, header-has table header rows code e),
    λ row other h. elim h [
      | inl head ↦ inr (sym head.0, subst (λ o. AtMost o other) e (header-least table header rows other head.1))
      | inr later ↦ inl (behind_header (header ∷ rows) row other later)
    ],
  )

  no_header_fault : (header : Record) (rows : List Record) → header_fault table header ≡ None → (code : RowFault) → HeaderHas code table (header ∷ rows) → ⊥
  no_header_fault header rows e code h = subst (λ o. AtMost o code) e (header-least table header rows code h)

  of-rows : (header : Record) (rows : List Record) → header_fault table header ≡ None → (o : Option TableFault) → first_fault table header t rows ≡ o
      → MatchOption o (HasNone (header ∷ rows)) (IsFirstOf (header ∷ rows))
  of-rows header rows columns None e = λ row code h. elim h [
    | inl head ↦ no_header_fault header rows columns code head.1
    | inr later ↦ none-has header rows e row code (under header rows row code later)
  ]
  of-rows header rows columns (Some fault) e =
      let s = first-is table header rows t fault e in (
        s.table_is,
        inr (first-has header rows fault s columns),
        λ row code h. elim h [
          | inl head ↦ absurd (no_header_fault header rows columns code head.1)
          | inr later ↦ first-least header rows fault s row code (under header rows row code later)
        ],
      )

  of-records : (records : List Record) → MatchOption (fault_of_records table t records) (HasNone records) (IsFirstOf records)
  of-records [] = (
    refl,
    inl (refl, tt),
    λ row code h. elim h [
      | inl head ↦ inr (sym head.0, one_at_least code)
      | inr later ↦ inl (behind_header [] row code later)
    ],
  )
  of-records (header ∷ rows) = by (header_fault table header) refl
    where
      by : (o : Option RowFault) → header_fault table header ≡ o → MatchOption (fault_of_records table t (header ∷ rows)) (HasNone (header ∷ rows)) (IsFirstOf (header ∷ rows))
      by (Some code) e = subst (λ o. MatchOption o (HasNone (header ∷ rows)) (IsFirstOf (header ∷ rows))) (sym (faulty_header table t header rows code e).0) (of-header header rows code e)
      by None e =
          subst (λ o. MatchOption o (HasNone (header ∷ rows)) (IsFirstOf (header ∷ rows))) (sym (with_header table t header rows e).0)
          (of-rows header rows e (first_fault table header t rows) refl)

pub FirstFault-holds : FirstFault
FirstFault-holds table t bytes valid empty = of-records table t valid empty (table_records t.most bytes)
