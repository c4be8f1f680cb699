use Rattle.std.proofs.Common.{◌≡◌, ◌≤◌, ℕ, List, true, false, Bool, sym, ap, ◌∙◌, refl, arith}
use Rattle.obs_text.specs.Limits.{most_file_bytes}
use Rattle.obs_text.specs.Lines.{content}
use Rattle.obs_matpower.specs.Lines.{without_comment}
use Rattle.obs_matpower.specs.declared.find.Sought.{Sought}
use Rattle.obs_matpower.specs.declared.find.Sought.TheVariants.{Opening, Closing}
use Rattle.obs_matpower.specs.Lines.{has_opening, is_closing}
use Rattle.std.specs.List.{list_any}
use Rattle.obs_matpower.specs.declared.part.MatTable.{MatTable}
use Rattle.obs_matpower.specs.inner.Table.{is_sought}
use Rattle.obs_bus_branch.proofs.SearchLemmas.{passed_room}
use Rattle.obs_matpower.proofs.FoundLemmas.{line_found, searched_on}
use Rattle.obs_matpower.proofs.find.find_line.Goals as goal

-- what is said of a line's content is said of the line
of_line : (sought : Sought) (ended line : List ℕ) (b answer : Bool) → ((table : MatTable) → sought ≡ Opening table → b ≡ has_opening table (without_comment line)) → (sought ≡ Closing → b ≡ list_any is_closing (without_comment line)) → b ≡ answer → content ended ≡ line → is_sought sought ended ≡ answer
of_line (Opening table) ended line b answer opening closing is same = ap (λ l. has_opening table (without_comment l)) same ∙ sym (opening table refl) ∙ is
of_line Closing ended line b answer opening closing is same = ap (λ l. list_any is_closing (without_comment l)) same ∙ sym (closing refl) ∙ is

pub overflow_add-passed : goal.overflow_add-passed
overflow_add-passed c =
    let room : c.loop-line.passed ≤ most_file_bytes = passed_room (is_sought c.args.sought) c.args.bytes.now c.loop-line.rest c.loop-line.passed c.loop-line.invariant c.requires.few in
    omega arith

pub returns-then-is_sought-clause-found : goal.returns-then-is_sought-clause-found
returns-then-is_sought-clause-found c =
    rw c.rest-from.ensures.rest
    (line_found (is_sought c.args.sought) c.args.bytes.now c.loop-line.rest c.in-Some.line.now c.next.new.self c.loop-line.passed
    c.loop-line.invariant c.in-Some.ensures.steps.first c.in-Some.ensures.steps.left
    (of_line c.args.sought _ c.in-Some.line.now c.is_sought.result true c.is_sought.ensures.opening c.is_sought.ensures.closing c.if-is_sought.true))

pub loop-line-preserved : goal.loop-line-preserved
loop-line-preserved c =
    searched_on (is_sought c.args.sought) c.args.bytes.now c.loop-line.rest c.in-Some.line.now c.next.new.self c.loop-line.passed
    c.loop-line.invariant c.in-Some.ensures.steps.first c.in-Some.ensures.steps.left
    (of_line c.args.sought _ c.in-Some.line.now c.is_sought.result false c.is_sought.ensures.opening c.is_sought.ensures.closing c.if-is_sought.false)
