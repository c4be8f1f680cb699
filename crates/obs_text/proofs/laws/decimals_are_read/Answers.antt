use Rattle.obs_text.proofs.DecimalLemmas.{whole_of-decimal, whole_of-text}
use Rattle.obs_text.proofs.laws.decimals_are_read.Goals as goal

pub returns : goal.returns
returns c = record { decimals = record { back = whole_of-decimal; text = whole_of-text } }
