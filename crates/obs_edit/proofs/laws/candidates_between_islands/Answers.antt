use Rattle.obs_edit.proofs.NamedIslands.{candidates_between_islands}
use Rattle.obs_edit.proofs.laws.candidates_between_islands.Goals as goal

pub returns : goal.returns
returns c = record { raised = candidates_between_islands }
