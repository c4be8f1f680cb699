use Rattle.std.proofs.Common.{◌∙◌, ap, subst, sym}
use Rattle.obs_case.specs.Tables.{Tables}
use Rattle.obs_placement.specs.Placed.{Placed}
use Rattle.obs_placement.specs.inner.Placed.{placed_of}
use Rattle.obs_matroid.specs.inner.Slots.{pairs_of}
use Rattle.obs_report.specs.Placements.{placement_text}
use Rattle.obs_report.specs.inner.Placements.{ArePairsOf, IsWithin}
use Rattle.obs_report.proofs.OfPairs.{standing_pairs}
use Rattle.obs_engine.specs.declared.blocks.Block.TheVariants.{Placement}
use Rattle.obs_engine.specs.Asks.{block_text}
use Rattle.obs_engine.proofs.Asked.{appends_as}
use Rattle.obs_engine.proofs.Placed.{placement_is, placement_within}
use Rattle.obs_engine.proofs.print_asks.print_case_placement.Goals as goal

pub print_placement-requires-clause-within : goal.print_placement-requires-clause-within
print_placement-requires-clause-within g c =
    let t = c.find_placement.new.self.tables in
    subst (λ (x : Tables). IsWithin x (placed_of c.found_placement.result)) (sym c.present.ensures.case)
    (subst (λ (p : Placed). IsWithin t p) (sym c.found_placement.ensures.placed) (placement_within t))

pub print_placement-requires-clause-pairs : goal.print_placement-requires-clause-pairs
print_placement-requires-clause-pairs g c =
    let t = c.find_placement.new.self.tables in
    let pairs = c.found_plan_pairs.result.now in
    subst (λ (x : Tables). ArePairsOf x pairs) (sym c.present.ensures.case) (standing_pairs t pairs c.found_plan_pairs.ensures.stands)

pub returns-clause-appends : goal.returns-clause-appends
returns-clause-appends g c =
    let t = c.find_placement.new.self.tables in
    let pairs = pairs_of c.found_plan_pairs.result.now.slots in
    appends_as
    (ap (λ (x : Tables). placement_text x (placed_of c.found_placement.result) pairs) c.present.ensures.case
    ∙ (placement_is t (placed_of c.found_placement.result) pairs c.found_placement.ensures.placed c.found_plan_pairs.ensures.pairs ∙ ap (λ (x : Tables). block_text Placement x) c.find_placement.ensures.tables))
    c.print_placement.ensures.appends
