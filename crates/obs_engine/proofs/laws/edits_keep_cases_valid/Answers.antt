use Rattle.obs_repair.proofs.Flagged.{valid_edited}
use Rattle.obs_engine.proofs.StillValid.{valid_lines}
use Rattle.obs_engine.proofs.laws.edits_keep_cases_valid.Goals as goal

pub returns : goal.returns
returns c = record { edit = valid_edited; lines = valid_lines }
