use Rattle.std.proofs.Common.{length, ap, arith}
use Rattle.std.proofs.lemmas.Result.{err_from_is_err_and}
use Rattle.obs_text.specs.Lines.{ended_lines}
use Rattle.obs_ieee_cdf.proofs.SectionLemmas.{AreSections}
use Rattle.obs_ieee_cdf.proofs.FileLemmas.{branch_room, bus_room, buses_read, file_read, stop_at_end, stop_in_branches, stop_in_buses}
use Rattle.obs_ieee_cdf.proofs.read.add_file.Goals as goal

pub add_buses-requires-clause-room : goal.add_buses-requires-clause-room
add_buses-requires-clause-room c =
    omega (arith, bus_room c.args.cdf.now c.requires.few, c.sections-parts.ensures.buses_from, ap length c.sections-parts.ensures.buses)

pub add_branches-requires : goal.add_branches-requires
add_branches-requires c = record {
  room =
      omega (arith, branch_room c.args.cdf.now c.requires.few, c.sections-parts.ensures.branches_from, ap length c.sections-parts.ensures.branches);
}

pub returns-in_err-add_buses : goal.returns-in_err-add_buses
returns-in_err-add_buses c =
    let are : AreSections (ended_lines c.args.cdf.now) c.sections-parts.result.buses.now c.sections-parts.result.buses_from c.sections-parts.result.branches.now c.sections-parts.result.branches_from c.sections-parts.result.end =
    record { buses = c.sections-parts.ensures.buses; buses_from = c.sections-parts.ensures.buses_from; branches = c.sections-parts.ensures.branches; branches_from = c.sections-parts.ensures.branches_from; end = c.sections-parts.ensures.end } in
    let p = err_from_is_err_and c.from_residual.result c.from_residual.ensures.1 in
    record {
      read = rw (p.1, p.2)
          (stop_in_buses c.args.case.now.most c.args.cdf.now c.sections-parts.result.buses.now c.sections-parts.result.branches.now c.sections-parts.result.buses_from c.sections-parts.result.branches_from c.sections-parts.result.end are c.add_buses.new.case c.add_buses.new.case c.in_err-add_buses.field-0.0 c.in_err-add_buses.ensures.read);
    }

pub returns-in_err-add_branches : goal.returns-in_err-add_branches
returns-in_err-add_branches c =
    let are : AreSections (ended_lines c.args.cdf.now) c.sections-parts.result.buses.now c.sections-parts.result.buses_from c.sections-parts.result.branches.now c.sections-parts.result.branches_from c.sections-parts.result.end =
    record { buses = c.sections-parts.ensures.buses; buses_from = c.sections-parts.ensures.buses_from; branches = c.sections-parts.ensures.branches; branches_from = c.sections-parts.ensures.branches_from; end = c.sections-parts.ensures.end } in
    let read = c.in_ok-add_buses.ensures.read in
    let p = err_from_is_err_and c.from_residual-in_err-add_branches.result c.from_residual-in_err-add_branches.ensures.1 in
    record {
      read = rw (p.1, p.2)
          (stop_in_branches c.args.case.now.most c.args.cdf.now c.sections-parts.result.buses.now c.sections-parts.result.branches.now c.sections-parts.result.buses_from c.sections-parts.result.branches_from c.sections-parts.result.end are c.add_buses.new.case read c.add_branches.new.case c.add_branches.new.case c.in_err-add_branches.field-0.0
          (c.in_err-add_branches.ensures.read c.args.case.now.most read.0 (buses_read c.args.case.now.most c.args.cdf.now c.sections-parts.result.buses.now c.sections-parts.result.branches.now c.sections-parts.result.buses_from c.sections-parts.result.branches_from c.sections-parts.result.end are c.add_buses.new.case read) read.2));
    }

pub returns-in-Some : goal.returns-in-Some
returns-in-Some c =
    let are : AreSections (ended_lines c.args.cdf.now) c.sections-parts.result.buses.now c.sections-parts.result.buses_from c.sections-parts.result.branches.now c.sections-parts.result.branches_from c.sections-parts.result.end =
    record { buses = c.sections-parts.ensures.buses; buses_from = c.sections-parts.ensures.buses_from; branches = c.sections-parts.ensures.branches; branches_from = c.sections-parts.ensures.branches_from; end = c.sections-parts.ensures.end } in
    let read = c.in_ok-add_buses.ensures.read in
    record {
      read = stop_at_end c.args.case.now.most c.args.cdf.now c.sections-parts.result.buses.now c.sections-parts.result.branches.now c.sections-parts.result.buses_from c.sections-parts.result.branches_from c.sections-parts.result.end are c.add_buses.new.case read c.add_branches.new.case
          (c.in_ok-add_branches.ensures.read c.args.case.now.most read.0 (buses_read c.args.case.now.most c.args.cdf.now c.sections-parts.result.buses.now c.sections-parts.result.branches.now c.sections-parts.result.buses_from c.sections-parts.result.branches_from c.sections-parts.result.end are c.add_buses.new.case read) read.2) c.in-Some.fault c.in-Some.is;
    }

pub returns-in-None : goal.returns-in-None
returns-in-None c =
    let are : AreSections (ended_lines c.args.cdf.now) c.sections-parts.result.buses.now c.sections-parts.result.buses_from c.sections-parts.result.branches.now c.sections-parts.result.branches_from c.sections-parts.result.end =
    record { buses = c.sections-parts.ensures.buses; buses_from = c.sections-parts.ensures.buses_from; branches = c.sections-parts.ensures.branches; branches_from = c.sections-parts.ensures.branches_from; end = c.sections-parts.ensures.end } in
    let read = c.in_ok-add_buses.ensures.read in
    record {
      read = file_read c.args.case.now.most c.args.cdf.now c.sections-parts.result.buses.now c.sections-parts.result.branches.now c.sections-parts.result.buses_from c.sections-parts.result.branches_from c.sections-parts.result.end are c.add_buses.new.case read c.add_branches.new.case
          (c.in_ok-add_branches.ensures.read c.args.case.now.most read.0 (buses_read c.args.case.now.most c.args.cdf.now c.sections-parts.result.buses.now c.sections-parts.result.branches.now c.sections-parts.result.buses_from c.sections-parts.result.branches_from c.sections-parts.result.end are c.add_buses.new.case read) read.2) c.in-None.is;
    }
