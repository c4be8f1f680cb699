use Rattle.std.proofs.Common.{◌<◌, length, None, get_or, refl, subst}
use Rattle.std.specs.Prelude.{IfSome}
use Rattle.obs_assign.specs.Assignment.{Assignment}
use Rattle.obs_assign.proofs.Keeping.{owner_low}
use Rattle.obs_assign.proofs.assignment.Assignment.meter_of.Goals as goal

pub returns-clause-low : goal.returns-clause-low
returns-clause-low c =
    let o = get_or c.owners.result.now c.args.e None in
    subst (λ (a : Assignment). IfSome o (λ m. m < length a.slots)) c.self.view_is (owner_low c.self.inside.kept.slots c.owners.result.now o c.args.e c.owners.ensures.inverse refl)
