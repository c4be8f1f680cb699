-- The summary of the case of a session.
use Rattle.std.specs.Prelude.{Option, None, Some}
use Rattle.obs_case.specs.Tables.{Tables}
use Rattle.obs_notice.specs.declared.summary.Summary.{Summary}
use Rattle.obs_engine.specs.declared.tasks.Task.{Task}
use Rattle.obs_engine.specs.declared.tasks.Task.TheVariants.{Answer}
use Rattle.obs_engine.specs.Summaries.{summary_of}

-- the summary that goes with what a session is begun for
abbrev pub task_summary : Task → Tables → Option Summary
task_summary (Answer ask) t = Some (summary_of t)
task_summary task t = None
