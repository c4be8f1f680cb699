use Rattle.obs_engine.proofs.Answering.{IsAnswerTo-holds, ReportsAsTheCommand-holds}
use Rattle.obs_engine.proofs.laws.answers_are_of_the_present_case.Goals as goal

pub returns : goal.returns
returns c = record { answers = IsAnswerTo-holds; report = ReportsAsTheCommand-holds }
