use Rattle.std.proofs.Common.{map, ap, ◌∙◌, refl, sym, subst}
use Rattle.std.specs.Prelude.{option_map}
use Rattle.obs_case.specs.declared.rows.Candidate.{Candidate}
use Rattle.obs_case_csv.specs.declared.faults.Table.TheVariants.{Meters, Candidates}
use Rattle.obs_case_csv.specs.inner.Read.{HoldsFirstRowsIfGiven}
use Rattle.obs_case_csv.proofs.ReadLemmas.{other_names, no_rows_more}
use Rattle.obs_case_csv.proofs.read.add_tables.Goals as goal

pub read_table-requires-in-Some : goal.read_table-requires-in-Some
read_table-requires-in-Some c =
    record {
      empty =
          other_names Meters Candidates (λ header t row. refl) c.args.meters.now c.args.case.now c.read_table.new.case c.read_table.ensures.first_rows
          ∙ ap (map (λ (row : Candidate). row.name)) c.requires.candidates;
    }

pub returns-in_err-read_table-clause-first_rows : goal.returns-in_err-read_table-clause-first_rows
returns-in_err-read_table-clause-first_rows c =
    (c.read_table.new.case, c.read_table.ensures.first_rows, no_rows_more Candidates (option_map (λ bytes. bytes.now) c.args.candidates) c.read_table.new.case)

pub returns-in-Some-clause-first_rows : goal.returns-in-Some-clause-first_rows
returns-in-Some-clause-first_rows c = (
  c.read_table.new.case,
  c.read_table.ensures.first_rows,
  subst (λ o. HoldsFirstRowsIfGiven Candidates (option_map (λ bytes. bytes.now) o) c.read_table.new.case c.read_table-in-Some.new.case) (sym c.in-Some.is) c.read_table-in-Some.ensures.first_rows,
)

pub returns-in-None-clause-first_rows : goal.returns-in-None-clause-first_rows
returns-in-None-clause-first_rows c =
    (c.read_table.new.case, c.read_table.ensures.first_rows, no_rows_more Candidates (option_map (λ bytes. bytes.now) c.args.candidates) c.read_table.new.case)
