-- Reading a table keeps the tables valid.
use Rattle.std.proofs.Common.{ℕ, ◌≡◌, ◌∙◌, sym, refl, subst, List, [], ◌∷◌, ◌++◌, length, map, Option, None, Some, Ok, codes, is_none, true, false, nat_eq, if◌then◌else◌}
use Rattle.std.proofs.lemmas.Bool.{eqb-false}
use Rattle.std.proofs.lemmas.List.{length-map}
use Rattle.obs_case.specs.declared.rows.Branch.{Branch}
use Rattle.obs_case.specs.declared.rows.Candidate.{Candidate}
use Rattle.obs_case.specs.declared.rows.Meter.{Meter}
use Rattle.obs_case.specs.declared.rows.Node.{Node}
use Rattle.obs_case.specs.declared.rows.Switch.{Switch}
use Rattle.obs_case.specs.Tables.{IsValid, Tables}
use Rattle.obs_case.proofs.ValidLemmas.{valid-branches, valid-candidates, valid-meters, valid-nodes, valid-switches}
use Rattle.obs_case_csv.specs.declared.faults.RowFault.{RowFault}
use Rattle.obs_case_csv.specs.declared.faults.Table.{Table}
use Rattle.obs_case_csv.specs.declared.faults.Table.TheVariants.{Nodes, Switches, Branches, Meters, Candidates}
use Rattle.obs_case_csv.specs.declared.faults.TableFault.{TableFault}
use Rattle.obs_case_csv.specs.Fields.{Record, field_under, header_fault}
use Rattle.obs_case_csv.specs.inner.Laws.{KeepsValid}
use Rattle.obs_case_csv.specs.Read.{fault_in, rows_before, rows_in, rows_of_records, table_records, tables_or, then_read}
use Rattle.obs_case_csv.specs.Rows.{row_fault, with_record}
use Rattle.obs_case_csv.proofs.ExactLemmas.{cheap, within_places, within_rows}
use Rattle.obs_case_csv.proofs.ReadLemmas.{rows_before-end, rows_before-here, rows_before-next}
use Rattle.obs_case_csv.proofs.ReadingLemmas.{branch-reads, branch_made, candidate-reads, candidate_made, meter-reads, meter_made, node-reads, node_made, row_fault-parts, switch-reads, switch_made}

not_full : {R : Type 0} (most : ℕ) (own : R → List ℕ) (rows : List R) → nat_eq (length (map own rows)) most ≡ false → length rows ≡ most → ⊥
not_full most own rows open_still full = eqb-false (length (map own rows)) most open_still (length-map rows own ∙ full)

-- a row that isn't refused
valid-with_record : (table : Table) (header : Record) (t : Tables) (row : Record) → IsValid t → row_fault table header t row ≡ None → IsValid (with_record table header t row)
valid-with_record Nodes header t row h fine =
    let reads = node-reads header t row fine in
    let made = node_made header t row in
    valid-nodes t h (Ok 0) made (t.nodes ++ made ∷ []) reads.1 (not_full t.most (λ (r : Node). r.name) t.nodes (row_fault-parts Nodes header t row fine).0) reads.2 refl tt
valid-with_record Switches header t row h fine =
    let reads = switch-reads header t row fine in
    let made = switch_made header t row in
    let from = within_rows (λ (r : Node). r.name) t.nodes (field_under header row (codes "from")) made.from reads.0.from in
    let to = within_rows (λ (r : Node). r.name) t.nodes (field_under header row (codes "to")) made.to reads.0.to in
    valid-switches t h (Ok 0) made (t.switches ++ made ∷ []) reads.1 (not_full t.most (λ (r : Switch). r.name) t.switches (row_fault-parts Switches header t row fine).0) (from, to) reads.2 refl tt
valid-with_record Branches header t row h fine =
    let reads = branch-reads header t row fine in
    let made = branch_made header t row in
    let from = within_rows (λ (r : Node). r.name) t.nodes (field_under header row (codes "from")) made.from reads.0.from in
    let to = within_rows (λ (r : Node). r.name) t.nodes (field_under header row (codes "to")) made.to reads.0.to in
    valid-branches t h (Ok 0) made (t.branches ++ made ∷ []) reads.1 (not_full t.most (λ (r : Branch). r.name) t.branches (row_fault-parts Branches header t row fine).0) (from, to) reads.2 refl tt
valid-with_record Meters header t row h fine =
    let reads = meter-reads header t row fine in
    let made = meter_made header t row in
    let at = within_places t made.kind (field_under header row (codes "at")) made.at reads.0.at in
    valid-meters t h (Ok 0) made (t.meters ++ made ∷ []) reads.1 (not_full t.most (λ (r : Meter). r.name) t.meters (row_fault-parts Meters header t row fine).0) at reads.2 refl tt
valid-with_record Candidates header t row h fine =
    let reads = candidate-reads header t row fine in
    let made = candidate_made header t row in
    let at = within_places t made.kind (field_under header row (codes "at")) made.at reads.0.at in
    let price = cheap (field_under header row (codes "price")) made.price reads.0.price in
    valid-candidates t h (Ok 0) made (t.candidates ++ made ∷ []) reads.1 (not_full t.most (λ (r : Candidate). r.name) t.candidates (row_fault-parts Candidates header t row fine).0) at price reads.2 refl tt

-- the rows before the first fault
pub valid-rows_before : (table : Table) (header : Record) (rows : List Record) (t : Tables) → IsValid t → IsValid (rows_before table header t rows)
valid-rows_before table header [] t h = subst IsValid (sym (rows_before-end table header t)) h
valid-rows_before table header (row ∷ rows) t h =
    by (row_fault table header t row) refl (λ fine. valid-rows_before table header rows (with_record table header t row) (valid-with_record table header t row h fine))
  where
    by : (o : Option RowFault) → row_fault table header t row ≡ o → (row_fault table header t row ≡ None → IsValid (rows_before table header (with_record table header t row) rows))
        → IsValid (rows_before table header t (row ∷ rows))
    by None e rest = subst IsValid (sym (rows_before-next table header t row rows e)) (rest e)
    by (Some code) e rest = subst IsValid (sym (rows_before-here table header t row rows code e)) h

valid-rows_of_records : (table : Table) (t : Tables) (records : List Record) → IsValid t → IsValid (rows_of_records table t records)
valid-rows_of_records table t [] h = h
valid-rows_of_records table t (header ∷ rows) h =
    elim (is_none (header_fault table header)) as (λ b. IsValid (if b then rows_before table header t rows else t)) [
      | true ↦ valid-rows_before table header rows t h
      | false ↦ h
    ]

pub KeepsValid-holds : KeepsValid
KeepsValid-holds table t bytes h = valid-rows_of_records table t (table_records t.most bytes) h

-- one table after the others
pub valid-then_read : (table : Table) (bytes : List ℕ) (t u : Tables) → IsValid t → then_read table bytes (Ok t) ≡ Ok u → IsValid u
valid-then_read table bytes t u h e = by (fault_in table t bytes) e
  where
    by : (o : Option TableFault) → tables_or o (rows_in table t bytes) ≡ Ok u → IsValid u
    by None e = let same : rows_in table t bytes ≡ u = cc in subst IsValid same (KeepsValid-holds table t bytes h)
    by (Some fault) e = cc
