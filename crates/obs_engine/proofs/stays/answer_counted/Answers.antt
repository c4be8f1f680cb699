use Rattle.std.proofs.Common.{◌≡◌, ◌∙◌, refl, sym, false}
use Rattle.obs_script.specs.Gathered.{is_comment}
use Rattle.obs_engine.proofs.Asked.{appends_as, appends_nothing}
use Rattle.obs_engine.proofs.Lined.{passed_case, passed_text, said_case, said_text}
use Rattle.obs_engine.proofs.stays.answer_counted.Goals as goal

pub returns-then-is_passed : goal.returns-then-is_passed
returns-then-is_passed g c =
    let o = c.args.session.now.offered in
    let t = c.args.session.now.tables in
    let line = c.args.line.now in
    let passed = sym c.is_passed.ensures.passed ∙ c.if-is_passed.true in
    record { offered = refl; tables = sym (passed_case o t line passed); appends = appends_as (sym (passed_text o t line passed)) (appends_nothing _ _ _ _) }

pub returns : goal.returns
returns g c =
    let o = c.args.session.now.offered in
    let t = c.args.session.now.tables in
    let line = c.args.line.now in
    let said : is_comment line ≡ false = sym c.is_passed.ensures.passed ∙ c.if-is_passed.false in
    record {
      offered = c.answer_content.ensures.offered;
      tables = c.answer_content.ensures.tables ∙ sym (said_case o t line said);
      appends = appends_as (sym (said_text o t line said)) c.answer_content.ensures.appends;
    }
