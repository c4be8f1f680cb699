use Rattle.obs_files.proofs.Worded.{form_exactly, in_usage, takes_each}
use Rattle.obs_files.proofs.laws.forms_of_words.Goals as goal

pub returns : goal.returns
returns c = record { exactly = form_exactly; files = takes_each; usage = in_usage }
