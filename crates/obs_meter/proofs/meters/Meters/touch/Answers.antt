use Rattle.std.proofs.Common.{◌<◌, length, subst, sym, ℕ, List}
use Rattle.std.specs.Prelude.{All, take}
use Rattle.obs_meter.specs.declared.Touch.TheVariants.{Front, Star}
use Rattle.obs_meter.proofs.Touched.{touched-below}
use Rattle.obs_meter.proofs.meters.Meters.touch.Goals as goal

pub returns-in-Star-clause-positions : goal.returns-in-Star-clause-positions
returns-in-Star-clause-positions c =
    subst (λ (t : List ℕ). All (λ e. e < length c.args.g.now.ends) t) (sym c.branches_at.ensures.branches) (touched-below c.args.g.now.ends (Star _))

pub returns-in-Front-clause-positions : goal.returns-in-Front-clause-positions
returns-in-Front-clause-positions c =
    subst (λ (t : List ℕ). All (λ e. e < length c.args.g.now.ends) (take c.in-Front.count t)) (sym c.branches_at-in-Front.ensures.branches) (touched-below c.args.g.now.ends (Front _ c.in-Front.count))
