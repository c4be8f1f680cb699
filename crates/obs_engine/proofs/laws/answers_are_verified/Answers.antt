use Rattle.obs_engine.proofs.Kept.{answers_are_verified, answers_fit}
use Rattle.obs_engine.proofs.laws.answers_are_verified.Goals as goal

pub returns : goal.returns
returns c = record { fit = answers_fit; verified = answers_are_verified }
