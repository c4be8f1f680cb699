use Rattle.std.proofs.Common.{◌∙◌, arith}
use Rattle.obs_text.specs.Lines.{ended_lines}
use Rattle.obs_text.proofs.LineLaws.{length-ended_lines}
use Rattle.obs_ieee_cdf.proofs.SectionLemmas.{no_bus_section, bus_section_open_at, no_branch_section_at, branch_section_open_at, all_sections_at, room_at}
use Rattle.obs_ieee_cdf.proofs.section.sections.Goals as goal

pub returns-in_default : goal.returns-in_default
returns-in_default c =
    let is = no_bus_section (ended_lines c.args.bytes.now) c.in_default.ensures.none in
    record {
      buses = c.without_branches.ensures.buses ∙ is.buses;
      buses_from = c.without_branches.ensures.buses_from ∙ is.buses_from;
      branches = c.without_branches.ensures.branches ∙ is.branches;
      branches_from = c.without_branches.ensures.branches_from ∙ is.branches_from;
      end = c.without_branches.ensures.end ∙ is.end;
    }

pub overflow_add-from : goal.overflow_add-from
overflow_add-from c = omega (arith, c.in-Some.ensures.found.number, length-ended_lines c.args.bytes.now)

pub returns-in_default-find_line : goal.returns-in_default-find_line
returns-in_default-find_line c =
    let is = bus_section_open_at c.args.bytes.now c.in-Some.heading.before.now c.in-Some.heading.after.now c.in-Some.heading.number c.in-Some.ensures.found c.in_default-find_line.ensures.none in
    record {
      buses = c.without_branches-in_default-find_line.ensures.buses ∙ is.buses;
      buses_from = c.without_branches-in_default-find_line.ensures.buses_from ∙ is.buses_from;
      branches = c.without_branches-in_default-find_line.ensures.branches ∙ is.branches;
      branches_from = c.without_branches-in_default-find_line.ensures.branches_from ∙ is.branches_from;
      end = c.without_branches-in_default-find_line.ensures.end ∙ is.end;
    }

pub returns-in_default-find_line-2 : goal.returns-in_default-find_line-2
returns-in_default-find_line-2 c =
    let is = no_branch_section_at c.args.bytes.now c.in-Some.heading.before.now c.in-Some.heading.after.now c.in-Some.heading.number c.in-Some.ensures.found
    c.in-Some-find_line.end.before.now c.in-Some-find_line.end.after.now c.in-Some-find_line.end.number c.in-Some-find_line.ensures.found c.in_default-find_line-2.ensures.none in
    record {
      buses = c.without_branches-in_default-find_line-2.ensures.buses ∙ is.buses;
      buses_from = c.without_branches-in_default-find_line-2.ensures.buses_from ∙ is.buses_from;
      branches = c.without_branches-in_default-find_line-2.ensures.branches ∙ is.branches;
      branches_from = c.without_branches-in_default-find_line-2.ensures.branches_from ∙ is.branches_from;
      end = c.without_branches-in_default-find_line-2.ensures.end ∙ is.end;
    }

pub overflow_add-branches_from : goal.overflow_add-branches_from
overflow_add-branches_from c =
    let room = room_at c.args.bytes.now c.in-Some.heading.before.now c.in-Some.heading.after.now c.in-Some.heading.number c.in-Some.ensures.found
    c.in-Some-find_line.end.before.now c.in-Some-find_line.end.after.now c.in-Some-find_line.end.number c.in-Some-find_line.ensures.found
    c.in-Some-find_line-2.next.before.now c.in-Some-find_line-2.next.after.now c.in-Some-find_line-2.next.number c.in-Some-find_line-2.ensures.found c.requires.few in
    omega (arith, room)

pub overflow_add-branches_from-2 : goal.overflow_add-branches_from-2
overflow_add-branches_from-2 c =
    let room = room_at c.args.bytes.now c.in-Some.heading.before.now c.in-Some.heading.after.now c.in-Some.heading.number c.in-Some.ensures.found
    c.in-Some-find_line.end.before.now c.in-Some-find_line.end.after.now c.in-Some-find_line.end.number c.in-Some-find_line.ensures.found
    c.in-Some-find_line-2.next.before.now c.in-Some-find_line-2.next.after.now c.in-Some-find_line-2.next.number c.in-Some-find_line-2.ensures.found c.requires.few in
    omega (arith, room)

pub returns-in_default-find_line-3 : goal.returns-in_default-find_line-3
returns-in_default-find_line-3 c =
    let is = branch_section_open_at c.args.bytes.now c.in-Some.heading.before.now c.in-Some.heading.after.now c.in-Some.heading.number c.in-Some.ensures.found
    c.in-Some-find_line.end.before.now c.in-Some-find_line.end.after.now c.in-Some-find_line.end.number c.in-Some-find_line.ensures.found
    c.in-Some-find_line-2.next.before.now c.in-Some-find_line-2.next.after.now c.in-Some-find_line-2.next.number c.in-Some-find_line-2.ensures.found c.in_default-find_line-3.ensures.none in
    record {
      buses = is.buses;
      buses_from = is.buses_from;
      branches = is.branches;
      branches_from = is.branches_from;
      end = is.end;
    }

pub returns : goal.returns
returns c =
    let is = all_sections_at c.args.bytes.now c.in-Some.heading.before.now c.in-Some.heading.after.now c.in-Some.heading.number c.in-Some.ensures.found
    c.in-Some-find_line.end.before.now c.in-Some-find_line.end.after.now c.in-Some-find_line.end.number c.in-Some-find_line.ensures.found
    c.in-Some-find_line-2.next.before.now c.in-Some-find_line-2.next.after.now c.in-Some-find_line-2.next.number c.in-Some-find_line-2.ensures.found
    c.in-Some-find_line-3.last.before.now c.in-Some-find_line-3.last.after.now c.in-Some-find_line-3.last.number c.in-Some-find_line-3.ensures.found in
    record {
      buses = is.buses;
      buses_from = is.buses_from;
      branches = is.branches;
      branches_from = is.branches_from;
      end = is.end;
    }
