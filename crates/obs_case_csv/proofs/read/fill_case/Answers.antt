use Rattle.std.proofs.Common.{ℕ, ◌≡◌, List, [], ◌∷◌, map, ◌∙◌, ap, refl}
use Rattle.obs_case.specs.declared.rows.Candidate.{Candidate}
use Rattle.obs_case.specs.declared.rows.Meter.{Meter}
use Rattle.obs_case_csv.specs.declared.faults.Table.TheVariants.{Nodes, Switches, Branches, Meters, Candidates}
use Rattle.obs_case_csv.specs.Rows.{names_in}
use Rattle.obs_case_csv.proofs.ReadLemmas.{other_names}
use Rattle.obs_case_csv.proofs.read.fill_case.Goals as goal

-- a table without names has no rows
unnamed : {R : Type 0} (name : R → List ℕ) (rows : List R) → map name rows ≡ [] → rows ≡ []
unnamed name [] is = refl
unnamed name (row ∷ rows) is = cc

pub read_table-requires-2 : goal.read_table-requires-2
read_table-requires-2 c =
    record {
      empty =
          other_names Nodes Switches (λ header t row. refl) c.args.nodes.now c.args.case.now c.read_table.new.case c.read_table.ensures.first_rows
          ∙ ap (names_in Switches) c.requires.empty;
    }

pub read_table-requires-3 : goal.read_table-requires-3
read_table-requires-3 c =
    record {
      empty =
          other_names Switches Branches (λ header t row. refl) c.args.switches.now c.read_table.new.case c.read_table-2.new.case c.read_table-2.ensures.first_rows
          ∙ other_names Nodes Branches (λ header t row. refl) c.args.nodes.now c.args.case.now c.read_table.new.case c.read_table.ensures.first_rows
          ∙ ap (names_in Branches) c.requires.empty;
    }

pub add_tables-requires-clause-meters : goal.add_tables-requires-clause-meters
add_tables-requires-clause-meters c =
    unnamed (λ (row : Meter). row.name) c.read_table-3.new.case.meters
    (other_names Branches Meters (λ header t row. refl) c.args.branches.now c.read_table-2.new.case c.read_table-3.new.case c.read_table-3.ensures.first_rows
    ∙ other_names Switches Meters (λ header t row. refl) c.args.switches.now c.read_table.new.case c.read_table-2.new.case c.read_table-2.ensures.first_rows
    ∙ other_names Nodes Meters (λ header t row. refl) c.args.nodes.now c.args.case.now c.read_table.new.case c.read_table.ensures.first_rows
    ∙ ap (names_in Meters) c.requires.empty)

pub add_tables-requires-clause-candidates : goal.add_tables-requires-clause-candidates
add_tables-requires-clause-candidates c =
    unnamed (λ (row : Candidate). row.name) c.read_table-3.new.case.candidates
    (other_names Branches Candidates (λ header t row. refl) c.args.branches.now c.read_table-2.new.case c.read_table-3.new.case c.read_table-3.ensures.first_rows
    ∙ other_names Switches Candidates (λ header t row. refl) c.args.switches.now c.read_table.new.case c.read_table-2.new.case c.read_table-2.ensures.first_rows
    ∙ other_names Nodes Candidates (λ header t row. refl) c.args.nodes.now c.args.case.now c.read_table.new.case c.read_table.ensures.first_rows
    ∙ ap (names_in Candidates) c.requires.empty)
