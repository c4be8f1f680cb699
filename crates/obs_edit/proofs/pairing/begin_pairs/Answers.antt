use Rattle.std.proofs.Common.{ap, length, ◌∙◌}
use Rattle.obs_assign.specs.Assignment.{Assignment}
use Rattle.obs_assign.specs.inner.Assignment.{is_frozen}
use Rattle.obs_assign.proofs.Keeping.{flags_clear}
use Rattle.obs_edit.proofs.pairing.begin_pairs.Goals as goal

pub returns-clause-thawed : goal.returns-clause-thawed
returns-clause-thawed g c = λ m. ap (λ (a : Assignment). is_frozen a m) c.unpin_all.ensures.thawed ∙ flags_clear (length c.pin_all.new.pairs.frozen) m
