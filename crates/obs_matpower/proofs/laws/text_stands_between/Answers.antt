use Rattle.obs_matpower.proofs.TextLaws.{TextStandsBetween-holds}
use Rattle.obs_matpower.proofs.laws.text_stands_between.Goals as goal

pub returns : goal.returns
returns c = record { text = TextStandsBetween-holds }
