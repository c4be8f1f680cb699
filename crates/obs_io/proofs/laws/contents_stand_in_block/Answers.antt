use Rattle.obs_io.proofs.LawLemmas.{ContentsStandInBlock-holds}
use Rattle.obs_io.proofs.laws.contents_stand_in_block.Goals as goal

pub returns : goal.returns
returns c = record { contents = ContentsStandInBlock-holds }
