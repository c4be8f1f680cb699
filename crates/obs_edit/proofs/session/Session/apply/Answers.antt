use Rattle.std.proofs.Common.{sym, ap, ◌∙◌}
use Rattle.std.specs.Prelude.{Ok}
use Rattle.obs_repair.specs.Lines.{meant_of}
use Rattle.obs_repair.proofs.Rows.{row-meant}
use Rattle.obs_edit.proofs.session.Session.apply.Goals as goal

pub set-requires : goal.set-requires
set-requires g c = record {
  row = row-meant c.args.self.now.tables c.args.self.now.offered c.args.line.now c.in-Ok-Edits.edit
      (sym (c.meant.ensures.meant ∙ (ap (λ t. meant_of t c.offered.result c.args.line.now) c.present.ensures.case ∙ ap (λ o. meant_of c.args.self.now.tables o c.args.line.now) c.offered.ensures.offered))
      ∙ (c.in-Ok-Edits.is ∙ ap Ok c.in-Ok-Edits.field-0-is));
}
