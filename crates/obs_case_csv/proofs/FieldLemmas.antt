-- The fields that the code hands on are those under the columns of the header.
use Rattle.std.proofs.Common.{ℕ, ◌≡◌, ◌∙◌, ap, refl, sym, List, [], Some, unwrap_or}
use Rattle.csv.specs.Records.{field_at}
use Rattle.obs_case.specs.Tables.{Tables, place_of}
use Rattle.obs_case_csv.specs.declared.faults.Table.{Table}
use Rattle.obs_case_csv.specs.declared.faults.Table.TheVariants.{Nodes, Switches, Branches, Meters, Candidates}
use Rattle.obs_case_csv.specs.inner.Columns.{fourth_column, further_place, own_column, second_column, third_column, with_ordered}
use Rattle.obs_case_csv.specs.Fields.{Record, field_of, field_or_0}
use Rattle.obs_case_csv.specs.Rows.{with_fields}

-- the field at a column's place
abbrev pub field_there : Record → Record → List ℕ → List ℕ
field_there header row column = unwrap_or (field_at row (place_of header column)) []

pub field-at : (header row : Record) (column : List ℕ) (place : ℕ) (field : List ℕ) → place ≡ place_of header column → field_at row place ≡ Some field → field_there header row column ≡ field
field-at header row column place field at is = ap (λ o. unwrap_or o []) (ap (field_at row) (sym at) ∙ is)

module _ (header row : Record) (own second third fourth further : List ℕ) (t : Tables) where
  pub with_fields-ordered : (table : Table) → field_there header row (own_column table) ≡ own → field_there header row (second_column table) ≡ second → field_there header row (third_column table) ≡ third
      → field_there header row (fourth_column table) ≡ fourth → unwrap_or (field_or_0 row (further_place table header)) [] ≡ further → with_fields table t (field_of header row) ≡ with_ordered table t own second third fourth further
  with_fields-ordered Nodes a b c d e = rw (sym a, sym b, sym e) refl
  with_fields-ordered Switches a b c d e = rw (sym a, sym b, sym c, sym d) refl
  with_fields-ordered Branches a b c d e = rw (sym a, sym b, sym c, sym d) refl
  with_fields-ordered Meters a b c d e = rw (sym a, sym b, sym c, sym d) refl
  with_fields-ordered Candidates a b c d e = rw (sym a, sym b, sym c, sym d) refl
