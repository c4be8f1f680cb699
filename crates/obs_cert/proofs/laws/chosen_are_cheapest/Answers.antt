use Rattle.obs_cert.proofs.CompletingLemmas.{chosen_are_cheapest}
use Rattle.obs_cert.proofs.laws.chosen_are_cheapest.Goals as goal

pub returns : goal.returns
returns c = record { cheapest = chosen_are_cheapest }
