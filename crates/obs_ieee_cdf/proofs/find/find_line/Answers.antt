use Rattle.std.proofs.Common.{◌≤◌, sym, ◌∙◌, arith}
use Rattle.obs_text.specs.Limits.{most_file_bytes}
use Rattle.obs_bus_branch.proofs.SearchLemmas.{passed_room}
use Rattle.obs_ieee_cdf.specs.Sections.{begins}
use Rattle.obs_ieee_cdf.proofs.SearchLemmas.{line_found, searched_on}
use Rattle.obs_ieee_cdf.proofs.find.find_line.Goals as goal

pub overflow_add-passed : goal.overflow_add-passed
overflow_add-passed c =
    let room : c.loop-line.passed ≤ most_file_bytes = passed_room (begins c.args.text.now) c.args.bytes.now c.loop-line.rest c.loop-line.passed c.loop-line.invariant c.requires.few in
    omega arith

pub returns-then-starts_with-clause-found : goal.returns-then-starts_with-clause-found
returns-then-starts_with-clause-found c =
    rw (c.rest-left.ensures.rest, c.rest.ensures.rest)
    (line_found c.args.text.now c.args.bytes.now c.loop-line.rest c.in-Some.line.now c.next.new.self c.loop-line.passed
    c.loop-line.invariant c.in-Some.ensures.steps.first c.in-Some.ensures.steps.left (sym c.starts_with.ensures.value ∙ c.if-starts_with.true))

pub loop-line-preserved : goal.loop-line-preserved
loop-line-preserved c =
    searched_on c.args.text.now c.args.bytes.now c.loop-line.rest c.in-Some.line.now c.next.new.self c.loop-line.passed
    c.loop-line.invariant c.in-Some.ensures.steps.first c.in-Some.ensures.steps.left (sym c.starts_with.ensures.value ∙ c.if-starts_with.false)
