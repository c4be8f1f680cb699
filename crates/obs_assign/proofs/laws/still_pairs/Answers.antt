use Rattle.obs_assign.proofs.Standing.{still_from, still_at}
use Rattle.obs_assign.proofs.laws.still_pairs.Goals as goal

pub returns : goal.returns
returns c = record { exactly = λ ends touches A p. (still_from ends touches A p, λ both. still_at ends touches A p both.0 both.1) }
