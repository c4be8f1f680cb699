use Rattle.obs_assign.proofs.SpannedItems.{spanned_bound_at}
use Rattle.obs_assign.proofs.Standing.{weak_bound_at}
use Rattle.obs_assign.proofs.laws.weak_bound.Goals as goal

pub returns : goal.returns
returns c = record { weak = weak_bound_at; spanned = spanned_bound_at }
