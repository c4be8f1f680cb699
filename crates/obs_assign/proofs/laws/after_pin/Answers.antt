use Rattle.obs_assign.proofs.Afterwards.{pin_gone, pin_kept, pin_taken}
use Rattle.obs_assign.proofs.laws.after_pin.Goals as goal

pub returns-clause-taken : goal.returns-clause-taken
returns-clause-taken c = λ a ends m e x after h low. pin_taken a ends m e x after h low

pub returns-clause-given_up : goal.returns-clause-given_up
returns-clause-given_up c = λ a ends m e x after h other. pin_gone a ends m e x after h other

pub returns-clause-kept : goal.returns-clause-kept
returns-clause-kept c = λ a ends m e x k after h low other spare. pin_kept a ends m e x after h low k other spare
