use Rattle.std.proofs.Common.{◌≡◌, Ok, Err, length, sym, ap, ◌∙◌, subst, arith}
use Rattle.std.proofs.lemmas.Result.{err_from_is_err_and}
use Rattle.obs_matpower.specs.declared.part.MatTable.TheVariants as table
use Rattle.obs_matpower.specs.Read.{read_branch, read_bus, read_table}
use Rattle.obs_matpower.specs.inner.Reading.{Answers, held_branches, held_buses}
use Rattle.obs_matpower.proofs.FileLemmas.{after_branches, buses_are, line_low, stop_in_buses, text_few, text_is_table}
use Rattle.obs_matpower.proofs.read.add_file.Goals as goal

pub add_buses-requires-clause-few : goal.add_buses-requires-clause-few
add_buses-requires-clause-few c = omega (arith, ap length c.table-buses.ensures.text, text_few table.Bus c.args.matpower.now c.requires.few)

pub add_buses-requires-clause-low : goal.add_buses-requires-clause-low
add_buses-requires-clause-low c = omega (arith, c.table-buses.ensures.line, line_low table.Bus c.args.matpower.now c.requires.few)

pub add_branches-requires-clause-few : goal.add_branches-requires-clause-few
add_branches-requires-clause-few c = omega (arith, ap length c.table-branches.ensures.text, text_few table.Branch c.args.matpower.now c.requires.few)

pub add_branches-requires-clause-low : goal.add_branches-requires-clause-low
add_branches-requires-clause-low c = omega (arith, c.table-branches.ensures.line, line_low table.Branch c.args.matpower.now c.requires.few)

pub returns-in_err-add_buses : goal.returns-in_err-add_buses
returns-in_err-add_buses c =
    let bytes = c.args.matpower.now in
    let most = c.args.case.now.most in
    let part = c.table-buses.result in
    let same = text_is_table (read_bus most) table.Bus bytes part.text.now part.line part.end c.table-buses.ensures.text c.table-buses.ensures.line c.table-buses.ensures.end in
    let p = err_from_is_err_and c.from_residual.result c.from_residual.ensures.1 in
    record {
      read = rw (p.1, p.2)
          (stop_in_buses most bytes (held_buses most) (c.add_buses.new.case, c.add_buses.new.isolated.items) c.add_buses.new.case c.in_err-add_buses.field-0.0
          (subst (λ stated. Answers stated (held_buses most) (c.add_buses.new.case, c.add_buses.new.isolated.items) (Err c.in_err-add_buses.field-0.0)) same c.in_err-add_buses.ensures.read));
    }

pub returns : goal.returns
returns c =
    let bytes = c.args.matpower.now in
    let most = c.args.case.now.most in
    let part = c.table-buses.result in
    let same = text_is_table (read_bus most) table.Bus bytes part.text.now part.line part.end c.table-buses.ensures.text c.table-buses.ensures.line c.table-buses.ensures.end in
    let buses = c.in_ok-add_buses.ensures.read in
    let read : read_table (read_bus most) table.Bus bytes ≡ Ok buses.0 = sym same ∙ buses.1 in
    let branch_part = c.table-branches.result in
    let branch_same = text_is_table (read_branch most buses.0) table.Branch bytes branch_part.text.now branch_part.line branch_part.end c.table-branches.ensures.text c.table-branches.ensures.line c.table-branches.ensures.end in
    record {
      read =
          after_branches most bytes buses.0 read c.add_branches.new.case c.add_branches.result
          (subst (λ stated. Answers stated (held_branches most buses.0) c.add_branches.new.case c.add_branches.result) branch_same
          (c.add_branches.ensures.read most buses.0 (buses_are most bytes buses.0 read) (ap (λ held. held.0) buses.2) (c.deref.ensures.value ∙ ap (λ held. held.1) buses.2)));
    }
