-- What a table has once its reading has ended: the rows before a fault, or those of some of the first records.
use Rattle.std.proofs.Common.{ℕ, ◌≡◌, ◌∙◌, ◌+◌, inl, inr, ap, refl, sym, subst, List, [], ◌∷◌, ◌++◌, append_assoc, drop, length, take, Option, None, Some}
use Rattle.std.proofs.lemmas.List.{append-nil, take-append-drop}
use Rattle.obs_case.specs.Tables.{Tables}
use Rattle.obs_case_csv.specs.declared.faults.RowFault.{RowFault}
use Rattle.obs_case_csv.specs.declared.faults.Table.{Table}
use Rattle.obs_case_csv.specs.declared.faults.TableFault.{TableFault}
use Rattle.obs_case_csv.specs.Fields.{Record, header_fault}
use Rattle.obs_case_csv.specs.inner.Laws.{RowsBeforeFault, RowsBeforeSome}
use Rattle.obs_case_csv.specs.inner.OneTable.{HasRows, HasRowsBefore}
use Rattle.obs_case_csv.specs.Read.{fault_of_records, first_fault, rows_before, rows_of_records, table_records}
use Rattle.obs_case_csv.specs.Rows.{names_in}
use Rattle.obs_case_csv.proofs.FirstLemmas.{first-is, next_is}
use Rattle.obs_case_csv.proofs.ReadLemmas.{faulty_header, rows_before-append, rows_before-here, with_header}
use Rattle.obs_case_csv.proofs.TableLemmas.{rows-read}

-- the same of more records
longer : (table : Table) (number : ℕ) (records more : List Record) (t u : Tables) → HasRowsBefore table number records t u → HasRowsBefore table number (records ++ more) t u
longer table number records more t u (inl none) = inl none
longer table number records more t u (inr (header, before, rest, are, is, rows)) =
    inr (header, before, rest ++ more, ap (λ l. l ++ more) are ∙ ap (λ l. header ∷ l) (append_assoc before rest more), is, rows)

module _ (table : Table) (t : Tables) (empty : names_in table t ≡ []) where
  -- a row with a fault
  at-row : (header : Record) (rows : List Record) (fault : TableFault) → header_fault table header ≡ None → first_fault table header t rows ≡ Some fault
      → HasRowsBefore table fault.row (header ∷ rows) t (rows_of_records table t (header ∷ rows))
  at-row header rows fault columns e =
      let s = first-is table header rows t fault e in
      let done = rows_before table header t s.before in
      let same : rows_of_records table t (header ∷ rows) ≡ done =
      (with_header table t header rows columns).1 ∙ ap (rows_before table header t) s.rows_are ∙ rows_before-append table header s.before (s.row ∷ s.after) t s.fine
      ∙ rows_before-here table header done s.row s.after fault.code s.here in
      inr (
        header,
        s.before,
        s.row ∷ s.after,
        ap (λ l. header ∷ l) s.rows_are,
        s.number_is ∙ next_is table t empty header s.before s.fine,
        subst (HasRows table header s.before t) (sym same) (rows-read header s.before t table empty s.fine),
      )

  at-fault : (records : List Record) (fault : TableFault) → fault_of_records table t records ≡ Some fault
      → HasRowsBefore table fault.row records t (rows_of_records table t records)
  at-fault [] fault e = inl ((let row : fault.row ≡ 0 = cc in row), refl)
  at-fault (header ∷ rows) fault e = by (header_fault table header) refl
    where
      by : (o : Option RowFault) → header_fault table header ≡ o → HasRowsBefore table fault.row (header ∷ rows) t (rows_of_records table t (header ∷ rows))
      by (Some code) is =
          let found : Some (record { table = table; row = 0; code = code }) ≡ Some fault = sym (faulty_header table t header rows code is).0 ∙ e in
          let first : fault.row ≡ 0 = cc in
          inl (first, (faulty_header table t header rows code is).1)
      by None is = at-row header rows fault is (sym (with_header table t header rows is).0 ∙ e)

  -- records without a fault are all rows
  at-end : (header : Record) (rows : List Record) → header_fault table header ≡ None → first_fault table header t rows ≡ None
      → HasRowsBefore table (length rows + 1) (header ∷ rows) t (rows_of_records table t (header ∷ rows))
  at-end header rows columns e =
      inr (
        header,
        rows,
        [],
        ap (λ l. header ∷ l) (sym (append-nil rows)),
        refl,
        subst (HasRows table header rows t) (sym (with_header table t header rows columns).1) (rows-read header rows t table empty e),
      )

  anywhere : (records : List Record) → (number : ℕ) × HasRowsBefore table number records t (rows_of_records table t records)
  anywhere [] = (0, inl (refl, refl))
  anywhere (header ∷ rows) = by (header_fault table header) refl (first_fault table header t rows) refl
    where
      by : (o : Option RowFault) → header_fault table header ≡ o → (later : Option TableFault) → first_fault table header t rows ≡ later
          → (number : ℕ) × HasRowsBefore table number (header ∷ rows) t (rows_of_records table t (header ∷ rows))
      by (Some code) columns later e = (0, inl (refl, (faulty_header table t header rows code columns).1))
      by None columns (Some fault) e = (fault.row, at-row header rows fault columns e)
      by None columns None e = (length rows + 1, at-end header rows columns e)

pub RowsBeforeFault-holds : RowsBeforeFault
RowsBeforeFault-holds table t bytes fault empty e = at-fault table t empty (table_records t.most bytes) fault e

pub RowsBeforeSome-holds : RowsBeforeSome
RowsBeforeSome-holds table t u bytes empty first =
    let all = table_records t.most bytes in
    let some = anywhere table t empty (take first.0 all) in
    let more = longer table some.0 (take first.0 all) (drop first.0 all) t (rows_of_records table t (take first.0 all)) some.1 in
    (some.0, subst (HasRowsBefore table some.0 all t) (sym first.1) (subst (λ l. HasRowsBefore table some.0 l t (rows_of_records table t (take first.0 all))) (take-append-drop first.0 all) more))
