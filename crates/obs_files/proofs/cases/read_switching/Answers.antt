use Rattle.std.proofs.Common.{◌∙◌, ap, refl}
use Rattle.obs_case_csv.specs.declared.faults.Table.TheVariants.{Nodes, Switches}
use Rattle.obs_case_csv.specs.Rows.{names_in}
use Rattle.obs_case_csv.proofs.ReadLemmas.{other_names}
use Rattle.obs_files.proofs.cases.read_switching.Goals as goal

pub read_table-requires-2 : goal.read_table-requires-2
read_table-requires-2 c =
    record {
      empty =
          other_names Nodes Switches (λ header t row. refl) c.args.nodes.now c.within-case.result c.read_table.new.case c.read_table.ensures.first_rows
          ∙ ap (names_in Switches) c.within-case.ensures.empty;
    }
