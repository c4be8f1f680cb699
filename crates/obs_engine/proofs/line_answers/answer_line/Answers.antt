use Rattle.std.proofs.Common.{◌≡◌, ◌∙◌, ap, List, sym, Result, false, ℕ}
use Rattle.obs_script.specs.Gathered.{content_of, is_comment}
use Rattle.obs_repair.specs.declared.edit.Meant.{Meant}
use Rattle.obs_repair.specs.declared.edit.Refusal.{Refusal}
use Rattle.obs_repair.specs.Lines.{meant_of}
use Rattle.obs_engine.specs.Lines.{answer_to, case_after}
use Rattle.obs_engine.proofs.Asked.{appends_as, appends_nothing}
use Rattle.obs_engine.proofs.Lined.{line_none, line_some, passed_case, passed_text, said_case, said_text}
use Rattle.obs_engine.proofs.line_answers.answer_line.Goals as goal

pub returns-then-passed-clause-tables : goal.returns-then-passed-clause-tables
returns-then-passed-clause-tables g c = λ line holds.
    sym (passed_case c.args.session.now.offered c.args.session.now.tables (content_of line) (sym (c.passed.ensures.passed line holds) ∙ c.if-passed.true))

pub returns-then-passed-clause-appends : goal.returns-then-passed-clause-appends
returns-then-passed-clause-appends g c = λ line holds.
    appends_as (sym (passed_text c.args.session.now.offered c.args.session.now.tables (content_of line) (sym (c.passed.ensures.passed line holds) ∙ c.if-passed.true)))
    (appends_nothing _ _ _ _)

pub returns-in_default-clause-tables : goal.returns-in_default-clause-tables
returns-in_default-clause-tables g c = λ line holds.
    let o = c.args.session.now.offered in
    let t = c.args.session.now.tables in
    let said : is_comment (content_of line) ≡ false = sym (c.passed.ensures.passed line holds) ∙ c.if-passed.false in
    sym (said_case o t (content_of line) said ∙ ap (λ (m : Result Meant Refusal). case_after t m) (line_none o t line (c.in_default.ensures.content line holds)))

pub returns-in_default-clause-appends : goal.returns-in_default-clause-appends
returns-in_default-clause-appends g c = λ line holds.
    let o = c.args.session.now.offered in
    let t = c.args.session.now.tables in
    let said : is_comment (content_of line) ≡ false = sym (c.passed.ensures.passed line holds) ∙ c.if-passed.false in
    appends_as (sym (said_text o t (content_of line) said ∙ ap (λ (m : Result Meant Refusal). answer_to t m) (line_none o t line (c.in_default.ensures.content line holds))))
    (c.print_refusal.ensures.appends t)

pub returns-clause-tables : goal.returns-clause-tables
returns-clause-tables g c = λ line holds.
    let o = c.args.session.now.offered in
    let t = c.args.session.now.tables in
    let said : is_comment (content_of line) ≡ false = sym (c.passed.ensures.passed line holds) ∙ c.if-passed.false in
    let is = line_some line c.in-Some.line.now (c.in-Some.ensures.content line holds) in
    c.answer_content.ensures.tables ∙ (ap (λ (x : List ℕ). case_after t (meant_of t o x)) is ∙ sym (said_case o t (content_of line) said))

pub returns-clause-appends : goal.returns-clause-appends
returns-clause-appends g c = λ line holds.
    let o = c.args.session.now.offered in
    let t = c.args.session.now.tables in
    let said : is_comment (content_of line) ≡ false = sym (c.passed.ensures.passed line holds) ∙ c.if-passed.false in
    let is = line_some line c.in-Some.line.now (c.in-Some.ensures.content line holds) in
    appends_as (ap (λ (x : List ℕ). answer_to t (meant_of t o x)) is ∙ sym (said_text o t (content_of line) said)) c.answer_content.ensures.appends
