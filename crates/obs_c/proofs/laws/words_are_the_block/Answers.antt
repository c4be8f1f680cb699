use Rattle.obs_c.proofs.Worded.{WordsAreTheBlock-holds}
use Rattle.obs_c.proofs.laws.words_are_the_block.Goals as goal

pub returns : goal.returns
returns c = record { words = WordsAreTheBlock-holds }
