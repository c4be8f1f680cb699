use Rattle.std.proofs.Common.{◌∙◌, ap, refl, subst, sym, Some}
use Rattle.obs_script.specs.declared.command.Ask.TheVariants.{Report as ReportAsk, Place as PlaceAsk}
use Rattle.obs_files.specs.declared.words.CaseCommand.{CaseCommand}
use Rattle.obs_files.specs.declared.words.Form.{Form}
use Rattle.obs_files.specs.declared.words.Form.TheVariants.{Case}
use Rattle.obs_engine.specs.Asks.{ask_reply}
use Rattle.obs_engine.specs.Commands.{IsCaseReply}
use Rattle.obs_engine.specs.Forms.{TakesInput}
use Rattle.obs_engine.specs.Studies.{study_reply}
use Rattle.obs_engine.specs.Summaries.{form_summary}
use Rattle.obs_engine.specs.Topology.{topology_reply}
use Rattle.obs_engine.specs.Verify.{verify_reply}
use Rattle.obs_engine.proofs.Commanded.{IsSessionForm, replied_answered, session_answered, session_form}
use Rattle.obs_engine.proofs.command.answer_case.Goals as goal

pub returns-in-Topology : goal.returns-in-Topology
returns-in-Topology g c =
    let t = c.args.case in
    let beside = c.args.certificate.now in
    let is = c.in-Topology.is in
    record {
      answered =
          replied_answered c.args.form t beside (topology_reply t) (λ bytes input. subst (λ (f : Form). IsCaseReply bytes f input beside t (topology_reply t)) (sym is) refl)
          (λ takes. subst (λ (f : Form). TakesInput (Some f)) is takes) refl refl c.answer_topology.ensures.replied;
      input = λ none. refl;
      summary = λ whole. ap (λ (f : Form). form_summary f t) (sym is);
    }

pub returns-in-Report : goal.returns-in-Report
returns-in-Report g c =
    let t = c.args.case in
    let beside = c.args.certificate.now in
    let is = c.in-Case.is ∙ ap (λ (command : CaseCommand). Case command c.in-Case.field-1) c.in-Report.is in
    let done = c.begin_task.ensures.done in
    let reply = ask_reply ReportAsk t in
    record {
      answered =
          replied_answered c.args.form t beside reply (λ bytes input. subst (λ (f : Form). IsCaseReply bytes f input beside t reply) (sym is) refl)
          (λ takes. subst (λ (f : Form). TakesInput (Some f)) is takes) (ap (λ s. g.S.Source.left s) done.0) (ap (λ s. g.S.Source.faults s) done.0) done.1;
      input = λ none. done.0;
      summary = λ whole. c.begin_task.ensures.summary whole ∙ ap (λ (f : Form). form_summary f t) (sym is);
    }

pub returns-in-Place : goal.returns-in-Place
returns-in-Place g c =
    let t = c.args.case in
    let beside = c.args.certificate.now in
    let is = c.in-Case.is ∙ ap (λ (command : CaseCommand). Case command c.in-Case.field-1) c.in-Place.is in
    let done = c.begin_task-in-Place.ensures.done in
    let reply = ask_reply PlaceAsk t in
    record {
      answered =
          replied_answered c.args.form t beside reply (λ bytes input. subst (λ (f : Form). IsCaseReply bytes f input beside t reply) (sym is) refl)
          (λ takes. subst (λ (f : Form). TakesInput (Some f)) is takes) (ap (λ s. g.S.Source.left s) done.0) (ap (λ s. g.S.Source.faults s) done.0) done.1;
      input = λ none. done.0;
      summary = λ whole. c.begin_task-in-Place.ensures.summary whole ∙ ap (λ (f : Form). form_summary f t) (sym is);
    }

pub returns-in-Session : goal.returns-in-Session
returns-in-Session g c =
    let form = c.in-Case.is ∙ ap (λ (command : CaseCommand). Case command c.in-Case.field-1) c.in-Session.is in
    let is = subst (λ (f : Form). IsSessionForm f c.in-Session.offered) (sym form) (session_form c.in-Session.offered c.in-Case.field-1) in
    record {
      answered = session_answered c.args.form c.in-Session.offered c.args.case c.args.certificate.now is c.begin_task-in-Session.ensures.done;
      input = λ none. absurd (none is.takes);
      summary = λ whole. c.begin_task-in-Session.ensures.summary whole ∙ ap (λ (f : Form). form_summary f c.args.case) (sym form);
    }

pub returns-in-Verify : goal.returns-in-Verify
returns-in-Verify g c =
    let t = c.args.case in
    let beside = c.args.certificate.now in
    let is = c.in-Case.is ∙ ap (λ (command : CaseCommand). Case command c.in-Case.field-1) c.in-Verify.is in
    let reply = verify_reply t beside in
    record {
      answered =
          replied_answered c.args.form t beside reply (λ bytes input. subst (λ (f : Form). IsCaseReply bytes f input beside t reply) (sym is) refl)
          (λ takes. subst (λ (f : Form). TakesInput (Some f)) is takes) refl refl c.answer_verify.ensures.replied;
      input = λ none. refl;
      summary = λ whole. ap (λ (f : Form). form_summary f t) (sym is);
    }

pub returns-in-Study : goal.returns-in-Study
returns-in-Study g c =
    let t = c.args.case in
    let beside = c.args.certificate.now in
    let is = c.in-Case.is ∙ ap (λ (command : CaseCommand). Case command c.in-Case.field-1) c.in-Study.is in
    let reply = study_reply c.in-Study.study t in
    record {
      answered =
          replied_answered c.args.form t beside reply (λ bytes input. subst (λ (f : Form). IsCaseReply bytes f input beside t reply) (sym is) refl)
          (λ takes. subst (λ (f : Form). TakesInput (Some f)) is takes) refl refl c.answer_study.ensures.replied;
      input = λ none. refl;
      summary = λ whole. c.answer_study.ensures.summary whole ∙ ap (λ (f : Form). form_summary f t) (sym is);
    }

pub begin_task-requires-in-Trial-clause-inservice : goal.begin_task-requires-in-Trial-clause-inservice
begin_task-requires-in-Trial-clause-inservice g c = λ rows seed e. c.requires.inservice c.in-Trial.rows c.in-Trial.seed c.in-Trial.is

pub returns-in-Trial : goal.returns-in-Trial
returns-in-Trial g c =
    let t = c.args.case in
    let beside = c.args.certificate.now in
    let is = c.in-Trial.is in
    let done = c.begin_task-in-Trial.ensures.done in
    let reply = done.1.0 in
    record {
      answered =
          replied_answered c.args.form t beside reply (λ bytes input. subst (λ (f : Form). IsCaseReply bytes f input beside t reply) (sym is) done.1.1)
          (λ takes. subst (λ (f : Form). TakesInput (Some f)) is takes) (ap (λ s. g.S.Source.left s) done.0) (ap (λ s. g.S.Source.faults s) done.0) done.1.2;
      input = λ none. done.0;
      summary = λ whole. c.begin_task-in-Trial.ensures.summary whole ∙ ap (λ (f : Form). form_summary f t) (sym is);
    }
