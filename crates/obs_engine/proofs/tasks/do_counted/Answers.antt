use Rattle.std.proofs.Common.{subst, sym}
use Rattle.obs_case.specs.Tables.{Tables}
use Rattle.obs_engine.specs.inner.Trials.{AreInService}
use Rattle.obs_engine.proofs.Begun.{task_begun, task_without_memory}
use Rattle.obs_engine.proofs.Summed.{not_for_memory}
use Rattle.obs_engine.proofs.tasks.do_counted.Goals as goal

pub do_task-status-requires-clause-inservice : goal.do_task-status-requires-clause-inservice
do_task-status-requires-clause-inservice g c = λ rows seed e. subst (λ (t : Tables). AreInService t) (sym c.in-Ok.ensures.case) (c.requires.inservice rows seed e)

pub returns-in_default : goal.returns-in_default
returns-in_default g c = record {
  done = task_without_memory g.S.Source.left g.S.Source.faults g.S.Source.steady g.W.Sink.written g.W.Sink.faults g.W.Sink.has_room c.args.task c.args.offered c.args.case c.args.input.now c.args.output.now;
  summary = λ whole. not_for_memory whole;
}

pub returns-in_default-sum_up_for : goal.returns-in_default-sum_up_for
returns-in_default-sum_up_for g c = record {
  done = task_without_memory g.S.Source.left g.S.Source.faults g.S.Source.steady g.W.Sink.written g.W.Sink.faults g.W.Sink.has_room c.args.task c.args.offered c.args.case c.args.input.now c.args.output.now;
  summary = λ whole. not_for_memory whole;
}

pub returns-clause-done : goal.returns-clause-done
returns-clause-done g c =
    task_begun g.S.Source.left g.S.Source.faults g.S.Source.steady g.W.Sink.written g.W.Sink.faults g.W.Sink.has_room c.args.task _ _ _ _
    c.args.input.now c.do_task-status.new.input c.args.output.now c.do_task-status.new.output c.do_task-status.result c.in-Ok.ensures.offered c.in-Ok.ensures.case c.do_task-status.ensures.done
