use Rattle.std.proofs.Common.{◌∙◌, ◌<◌, All, List, ℕ, length, ap, subst, sym}
use Rattle.obs_case.specs.Tables.{Tables}
use Rattle.obs_report.specs.Meters.{critical_text}
use Rattle.obs_engine.specs.Asks.{block_text}
use Rattle.obs_engine.specs.declared.blocks.Block.TheVariants.{Critical}
use Rattle.obs_engine.proofs.Asked.{appends_as, critical_are}
use Rattle.obs_engine.proofs.OfNetwork.{critical_below}
use Rattle.obs_engine.proofs.print_asks.print_case_critical.Goals as goal

pub print_critical-requires : goal.print_critical-requires
print_critical-requires g c = record {
  list =
      subst (λ (t : Tables). All (λ m. m < length t.meters) c.found_critical.result.now) (sym c.present.ensures.case)
      (subst (λ (xs : List ℕ). All (λ m. m < length c.find_critical.new.self.tables.meters) xs) (sym c.found_critical.ensures.critical) (critical_below c.find_critical.new.self.tables));
}

pub returns-clause-appends : goal.returns-clause-appends
returns-clause-appends g c =
    appends_as
    (ap (λ (t : Tables). critical_text t c.found_critical.result.now) c.present.ensures.case
    ∙ (critical_are c.find_critical.new.self.tables c.found_critical.result.now c.found_critical.ensures.critical ∙ ap (λ (t : Tables). block_text Critical t) c.find_critical.ensures.tables))
    c.print_critical.ensures.appends
