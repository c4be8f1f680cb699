use Rattle.obs_engine.proofs.Staying.{AnswersAsRun-holds, RefusesAsRun-holds}
use Rattle.obs_engine.proofs.laws.sessions_answer_as_run.Goals as goal

pub returns : goal.returns
returns c = record { answers = AnswersAsRun-holds; refuses = RefusesAsRun-holds }
