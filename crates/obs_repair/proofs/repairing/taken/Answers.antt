use Rattle.std.proofs.Common.{sym, ap, ◌∙◌, subst}
use Rattle.obs_repair.specs.declared.edit.Edit.{Edit}
use Rattle.obs_repair.specs.declared.edit.Edit.TheVariants.{Branch}
use Rattle.obs_repair.specs.inner.Repairing.{IsMeterTaken}
use Rattle.obs_repair.proofs.GivenUp.{owner-taken}
use Rattle.obs_repair.proofs.repairing.taken.Goals as goal

pub returns-else-inservice-2 : goal.returns-else-inservice-2
returns-else-inservice-2 c =
    let e = c.meter_of.ensures in
    record {
      taken = subst (λ (x : Edit). IsMeterTaken x c.args.a.now c.meter_of.result) (sym (c.in-Branch.is ∙ ap (Branch c.in-Branch.at) c.if-inservice-2.false))
          (owner-taken c.args.a.now c.requires.whole c.in-Branch.at c.meter_of.result e.meter e.none e.low);
    }
