use Rattle.std.proofs.Common.{ap, refl}
use Rattle.obs_report.specs.Totals.{valid_line}
use Rattle.obs_files.specs.declared.status.Status.TheVariants.{Done}
use Rattle.obs_engine.specs.Verify.{valid_reply}
use Rattle.obs_engine.proofs.Asked.{appends_as}
use Rattle.obs_engine.proofs.Endings.{replied_so}
use Rattle.obs_engine.proofs.verify.accept_claims.Goals as goal

pub returns : goal.returns
returns g c = record {
  replied = replied_so (valid_reply c.args.claims) c.print_valid.result Done c.printed_status.result c.printed_status.ensures.status refl (λ e. absurd cc) (λ e. absurd cc)
      (appends_as (ap valid_line c.from.ensures) c.print_valid.ensures.appends);
}
