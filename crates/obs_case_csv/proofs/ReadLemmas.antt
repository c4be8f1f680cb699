-- Rows one after another: what is known of a table of which some rows were read.
use Rattle.std.proofs.Common.{ℕ, ◌≡◌, ◌∙◌, ◌+◌, ap, refl, sym, subst, List, [], ◌∷◌, ◌++◌, length, take, true, false, suc, Option, Some, None, Err, if◌then◌else◌, is_none}
use Rattle.std.proofs.lemmas.List.{length-append, map-append}
use Rattle.obs_case.specs.Tables.{Tables}
use Rattle.obs_case_csv.specs.declared.columns.Places.{Places}
use Rattle.obs_case_csv.specs.declared.faults.RowFault.{RowFault}
use Rattle.obs_case_csv.specs.declared.faults.Table.{Table}
use Rattle.obs_case_csv.specs.declared.faults.Table.TheVariants.{Nodes, Switches, Branches, Meters, Candidates}
use Rattle.obs_case_csv.specs.declared.faults.TableEnd.{TableEnd}
use Rattle.obs_case_csv.specs.declared.faults.TableEnd.TheVariants.{Fault, NoMemory}
use Rattle.obs_case_csv.specs.inner.Columns.{ArePlaces}
use Rattle.obs_case_csv.specs.Fields.{Record, header_fault}
use Rattle.obs_case_csv.specs.inner.Laws.{OtherTablesStay}
use Rattle.obs_case_csv.specs.inner.OneTable.{SameBut}
use Rattle.obs_case_csv.specs.Read.{earlier, fault_at, fault_in, fault_of_records, first_fault, rows_before, rows_in, rows_of_records, table_records}
use Rattle.obs_case_csv.specs.inner.Read.{Ends, HoldsFirstRows, HoldsFirstRowsIfGiven, UnlessNoMemory}
use Rattle.obs_case_csv.specs.Rows.{names_in, next_row, row_fault, with_record}

-- a row more has the next number
pub next_row-with_record : (table : Table) (header : Record) (t : Tables) (row : Record) → next_row table (with_record table header t row) ≡ next_row table t + 1
next_row-with_record Nodes header t row = simp (map-append, length-append) refl
next_row-with_record Switches header t row = simp (map-append, length-append) refl
next_row-with_record Branches header t row = simp (map-append, length-append) refl
next_row-with_record Meters header t row = simp (map-append, length-append) refl
next_row-with_record Candidates header t row = simp (map-append, length-append) refl

module _ (table : Table) (header : Record) (t : Tables) (row : Record) (rows : List Record) where
  -- a row without a fault
  pub first_fault-next : row_fault table header t row ≡ None → first_fault table header t (row ∷ rows) ≡ first_fault table header (with_record table header t row) rows
  unfolding first_fault
  first_fault-next e = rw e refl

  pub rows_before-next : row_fault table header t row ≡ None → rows_before table header t (row ∷ rows) ≡ rows_before table header (with_record table header t row) rows
  unfolding rows_before
  rows_before-next e = rw e refl

  -- a row with one
  pub first_fault-here : (code : RowFault) → row_fault table header t row ≡ Some code → first_fault table header t (row ∷ rows) ≡ Some (record { table = table; row = next_row table t; code = code })
  unfolding first_fault
  first_fault-here code e = rw e refl

  pub rows_before-here : (code : RowFault) → row_fault table header t row ≡ Some code → rows_before table header t (row ∷ rows) ≡ t
  unfolding rows_before
  rows_before-here code e = rw e refl

  pub row_fault-none : first_fault table header t (row ∷ rows) ≡ None → row_fault table header t row ≡ None
  row_fault-none h = by (row_fault table header t row) refl
    where
      by : (o : Option RowFault) → row_fault table header t row ≡ o → row_fault table header t row ≡ None
      by None e = e
      by (Some code) e = let here = first_fault-here code e in cc

module _ (table : Table) (header : Record) where
  pub first_fault-end : (t : Tables) → first_fault table header t [] ≡ None
  unfolding first_fault
  first_fault-end t = refl

  pub rows_before-end : (t : Tables) → rows_before table header t [] ≡ t
  unfolding rows_before
  rows_before-end t = refl

  -- rows without a fault, and then others
  pub first_fault-append : (done rest : List Record) (t : Tables) → first_fault table header t done ≡ None
      → first_fault table header t (done ++ rest) ≡ first_fault table header (rows_before table header t done) rest
  first_fault-append [] rest t h = ap (λ u. first_fault table header u rest) (sym (rows_before-end t))
  first_fault-append (row ∷ done) rest t h =
      let fine = row_fault-none table header t row done h in
      let later = sym (first_fault-next table header t row done fine) ∙ h in
      first_fault-next table header t row (done ++ rest) fine ∙ first_fault-append done rest (with_record table header t row) later ∙ ap (λ u. first_fault table header u rest) (sym (rows_before-next table header t row done fine))

  pub rows_before-append : (done rest : List Record) (t : Tables) → first_fault table header t done ≡ None
      → rows_before table header t (done ++ rest) ≡ rows_before table header (rows_before table header t done) rest
  rows_before-append [] rest t h = ap (λ u. rows_before table header u rest) (sym (rows_before-end t))
  rows_before-append (row ∷ done) rest t h =
      let fine = row_fault-none table header t row done h in
      let later = sym (first_fault-next table header t row done fine) ∙ h in
      rows_before-next table header t row (done ++ rest) fine ∙ rows_before-append done rest (with_record table header t row) later ∙ ap (λ u. rows_before table header u rest) (sym (rows_before-next table header t row done fine))

-- a header with a fault
pub faulty_header : (table : Table) (old : Tables) (header : Record) (rows : List Record) (code : RowFault) → header_fault table header ≡ Some code
    → (fault_of_records table old (header ∷ rows) ≡ Some (record { table = table; row = 0; code = code })) × (rows_of_records table old (header ∷ rows) ≡ old)
faulty_header table old header rows code e = (rw e refl, rw e refl)

-- what one row keeps of the tables, all rows keep
module _ (table : Table) (Keeps : Tables → Tables → Type 0) (none : (t : Tables) → Keeps t t)
    (one : (header : Record) (t u : Tables) (row : Record) → Keeps (with_record table header t row) u → Keeps t u) where
  keeps-rows_before : (header : Record) (t : Tables) (rows : List Record) → Keeps t (rows_before table header t rows)
  keeps-rows_before header t [] = subst (Keeps t) (sym (rows_before-end table header t)) (none t)
  keeps-rows_before header t (row ∷ rows) = by (row_fault table header t row) refl (keeps-rows_before header (with_record table header t row) rows)
    where
      by : (o : Option RowFault) → row_fault table header t row ≡ o → Keeps (with_record table header t row) (rows_before table header (with_record table header t row) rows)
          → Keeps t (rows_before table header t (row ∷ rows))
      by None e later = subst (Keeps t) (sym (rows_before-next table header t row rows e)) (one header t (rows_before table header (with_record table header t row) rows) row later)
      by (Some code) e later = subst (Keeps t) (sym (rows_before-here table header t row rows code e)) (none t)

  keeps-rows_of_records : (t : Tables) (records : List Record) → Keeps t (rows_of_records table t records)
  keeps-rows_of_records t [] = none t
  keeps-rows_of_records t (header ∷ rows) =
      elim (is_none (header_fault table header)) as (λ b. Keeps t (if b then rows_before table header t rows else t)) [
        | true ↦ keeps-rows_before header t rows
        | false ↦ none t
      ]

-- and so the limit stays
row-keeps_most : (table : Table) (header : Record) (t u : Tables) (row : Record) → u.most ≡ (with_record table header t row).most → u.most ≡ t.most
row-keeps_most Nodes header t u row later = later
row-keeps_most Switches header t u row later = later
row-keeps_most Branches header t u row later = later
row-keeps_most Meters header t u row later = later
row-keeps_most Candidates header t u row later = later

pub rows_before-most : (table : Table) (header : Record) (t : Tables) (rows : List Record) → (rows_before table header t rows).most ≡ t.most
rows_before-most table = keeps-rows_before table (λ t u. u.most ≡ t.most) (λ t. refl) (row-keeps_most table)

pub rows_in-most : (table : Table) (t : Tables) (bytes : List ℕ) → (rows_in table t bytes).most ≡ t.most
rows_in-most table t bytes = keeps-rows_of_records table (λ t u. u.most ≡ t.most) (λ t. refl) (row-keeps_most table) t (table_records t.most bytes)

-- rows of one table leave the names of another
module _ (table other : Table) (stays : (header : Record) (t : Tables) (row : Record) → names_in other (with_record table header t row) ≡ names_in other t) where
  pub other_names : (bytes : List ℕ) (old new : Tables) → HoldsFirstRows table bytes old new → names_in other new ≡ names_in other old
  other_names bytes old new first =
      ap (names_in other) first.1
      ∙ keeps-rows_of_records table (λ t u. names_in other u ≡ names_in other t) (λ t. refl) (λ header t u row later. later ∙ stays header t row) old (take first.0 (table_records old.most bytes))

-- and all rows of the other tables
no_row-stays : (table : Table) (t : Tables) → SameBut table t t
no_row-stays Nodes t = refl
no_row-stays Switches t = refl
no_row-stays Branches t = refl
no_row-stays Meters t = refl
no_row-stays Candidates t = refl

row-stays : (table : Table) (header : Record) (t u : Tables) (row : Record) → SameBut table (with_record table header t row) u → SameBut table t u
row-stays Nodes header t u row later = later
row-stays Switches header t u row later = later
row-stays Branches header t u row later = later
row-stays Meters header t u row later = later
row-stays Candidates header t u row later = later

pub OtherTablesStay-holds : OtherTablesStay
OtherTablesStay-holds table = keeps-rows_of_records table (SameBut table) (no_row-stays table) (row-stays table)

-- some rows of a table were read, and these records are unread
pub record IsReading (table : Table) (bytes : List ℕ) (old now : Tables) (places : Places) (number : ℕ) (unread : List Record) : Type 0 where
  pub header : Record
  pub done : List Record
  pub records_are : table_records old.most bytes ≡ header ∷ (done ++ unread)
  pub places_are : ArePlaces table header places
  pub header_fine : header_fault table header ≡ None
  pub done_fine : first_fault table header old done ≡ None
  pub now_is : now ≡ rows_before table header old done
  pub number_is : number ≡ next_row table now

-- the records of a header that is fine
pub with_header : (table : Table) (old : Tables) (header : Record) (rows : List Record) → header_fault table header ≡ None
    → (fault_of_records table old (header ∷ rows) ≡ first_fault table header old rows) × (rows_of_records table old (header ∷ rows) ≡ rows_before table header old rows)
with_header table old header rows e = (rw e refl, rw e refl)

-- records without a fault have a header that is fine
pub header-none : (table : Table) (old : Tables) (header : Record) (rows : List Record) → fault_of_records table old (header ∷ rows) ≡ None
    → (header_fault table header ≡ None) × (first_fault table header old rows ≡ None)
header-none table old header rows e = by (header_fault table header) refl e
  where
    by : (o : Option RowFault) → header_fault table header ≡ o
        → earlier (fault_at table 0 o) (first_fault table header old rows) ≡ None → (header_fault table header ≡ None) × (first_fault table header old rows ≡ None)
    by None is e = (is, e)
    by (Some code) is e = cc

module _ (table : Table) (bytes : List ℕ) (old now : Tables) (places : Places) (number : ℕ) where
  pub reading-starts : (header : Record) (unread : List Record) → table_records old.most bytes ≡ header ∷ unread → ArePlaces table header places → header_fault table header ≡ None
      → now ≡ old → number ≡ next_row table old → IsReading table bytes old now places number unread
  reading-starts header unread records at fine same first =
      record {
        header = header;
        done = [];
        records_are = records;
        places_are = at;
        header_fine = fine;
        done_fine = first_fault-end table header old;
        now_is = same ∙ sym (rows_before-end table header old);
        number_is = first ∙ ap (next_row table) (sym same);
      }

  module _ (unread : List Record) (h : IsReading table bytes old now places number unread) where
    -- the case holds the first rows
    pub reading-first_rows : HoldsFirstRows table bytes old now
    reading-first_rows =
        let front : take (suc (length h.done)) (h.header ∷ (h.done ++ unread)) ≡ h.header ∷ h.done = ap (λ rows. h.header ∷ rows) (first_of h.done unread) in (
          suc (length h.done),
          h.now_is ∙ sym ((with_header table old h.header h.done h.header_fine).1) ∙ ap (rows_of_records table old) (sym front ∙ ap (take (suc (length h.done))) (sym h.records_are)),
        )
      where
        first_of : (xs ys : List Record) → take (length xs) (xs ++ ys) ≡ xs
        first_of [] ys = refl
        first_of (x ∷ xs) ys = ap (λ l. x ∷ l) (first_of xs ys)

    pub reading-most : now.most ≡ old.most
    reading-most = ap (λ (t : Tables). t.most) h.now_is ∙ rows_before-most table h.header old h.done

    -- what the whole table gives is what the unread records give
    pub reading-fault : fault_in table old bytes ≡ first_fault table h.header now unread
    reading-fault =
        ap (fault_of_records table old) h.records_are ∙ (with_header table old h.header (h.done ++ unread) h.header_fine).0
        ∙ first_fault-append table h.header h.done unread old h.done_fine ∙ ap (λ u. first_fault table h.header u unread) (sym h.now_is)

    pub reading-rows : rows_in table old bytes ≡ rows_before table h.header now unread
    reading-rows =
        ap (rows_of_records table old) h.records_are ∙ (with_header table old h.header (h.done ++ unread) h.header_fine).1
        ∙ rows_before-append table h.header h.done unread old h.done_fine ∙ ap (λ u. rows_before table h.header u unread) (sym h.now_is)

    -- where the next record isn't added, the table ends there
    module _ (row : Record) (rest : List Record) (next : unread ≡ row ∷ rest) where
      pub reading-ends : (end : TableEnd) → Ends (fault_at table number (row_fault table h.header now row)) end → Ends (fault_in table old bytes) end
      unfolding first_fault
      reading-ends (Fault fault) e =
          reading-fault ∙ ap (first_fault table h.header now) next
          ∙ ap (λ first. earlier first (first_fault table h.header (with_record table h.header now row) rest)) (ap (λ n. fault_at table n (row_fault table h.header now row)) (sym h.number_is) ∙ e)
      reading-ends NoMemory e = tt

      pub reading-stays : (end : TableEnd) → Ends (fault_at table number (row_fault table h.header now row)) end → (after : Tables) → after ≡ now
          → UnlessNoMemory {T = Unit {0}} (Err end) (after ≡ rows_in table old bytes)
      reading-stays (Fault fault) e after same = same ∙ sym (reading-rows ∙ ap (rows_before table h.header now) next ∙ stays (row_fault table h.header now row) refl e)
        where
          stays : (o : Option RowFault) → row_fault table h.header now row ≡ o → fault_at table number o ≡ Some fault → rows_before table h.header now (row ∷ rest) ≡ now
          stays None is e = cc
          stays (Some code) is e = rows_before-here table h.header now row rest code is
      reading-stays NoMemory e after same = tt

    -- where no record is left, the whole table was read
    pub reading-all : unread ≡ [] → (fault_in table old bytes ≡ None) × (now ≡ rows_in table old bytes)
    reading-all none = (
      reading-fault ∙ ap (first_fault table h.header now) none ∙ first_fault-end table h.header now,
      sym (reading-rows ∙ ap (rows_before table h.header now) none ∙ rows_before-end table h.header now),
    )

  -- a further row was read
  pub reading-next : (row : Record) (unread : List Record) (after : Tables) (h : IsReading table bytes old now places number (row ∷ unread)) → row_fault table h.header now row ≡ None
      → after ≡ with_record table h.header now row → IsReading table bytes old after places (number + 1) unread
  reading-next row unread after h fine added =
      let before = subst (λ u. row_fault table h.header u row ≡ None) h.now_is fine in
      record {
        header = h.header;
        done = h.done ++ row ∷ [];
        records_are = h.records_are ∙ ap (λ rows. h.header ∷ rows) (regroup h.done row unread);
        places_are = h.places_are;
        header_fine = h.header_fine;
        done_fine =
            first_fault-append table h.header h.done (row ∷ []) old h.done_fine ∙ first_fault-next table h.header (rows_before table h.header old h.done) row [] before
            ∙ first_fault-end table h.header (with_record table h.header (rows_before table h.header old h.done) row);
        now_is =
            added ∙ ap (λ u. with_record table h.header u row) h.now_is ∙ sym (rows_before-end table h.header (with_record table h.header (rows_before table h.header old h.done) row))
            ∙ sym (rows_before-next table h.header (rows_before table h.header old h.done) row [] before) ∙ sym (rows_before-append table h.header h.done (row ∷ []) old h.done_fine);
        number_is = ap (λ n. n + 1) h.number_is ∙ sym (next_row-with_record table h.header now row) ∙ ap (next_row table) (sym added);
      }
    where
      regroup : (xs : List Record) (y : Record) (ys : List Record) → xs ++ y ∷ ys ≡ (xs ++ y ∷ []) ++ ys
      regroup [] y ys = refl
      regroup (x ∷ xs) y ys = ap (λ l. x ∷ l) (regroup xs y ys)

-- none of the rows of a table that may be given
pub no_rows_more : (table : Table) (given : Option (List ℕ)) (t : Tables) → HoldsFirstRowsIfGiven table given t t
no_rows_more table None t = refl
no_rows_more table (Some bytes) t = (0, refl)
