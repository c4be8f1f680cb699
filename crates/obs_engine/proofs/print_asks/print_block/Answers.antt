use Rattle.std.proofs.Common.{◌∙◌, ap, sym}
use Rattle.obs_engine.specs.declared.blocks.Block.{Block}
use Rattle.obs_engine.specs.Asks.{block_text}
use Rattle.obs_engine.proofs.Asked.{appends_as, claimed_are}
use Rattle.obs_engine.proofs.print_asks.print_block.Goals as goal

pub print_case_placement-requires : goal.print_case_placement-requires
print_case_placement-requires g c = record { offered = c.requires.offered c.in-Placement.is }

pub returns-in-Counts-clause-appends : goal.returns-in-Counts-clause-appends
returns-in-Counts-clause-appends g c =
    appends_as (ap (λ (b : Block). block_text b c.args.session.now.tables) (sym c.in-Counts.is)) c.print_case_counts.ensures.appends

pub returns-in-Islands-clause-appends : goal.returns-in-Islands-clause-appends
returns-in-Islands-clause-appends g c =
    appends_as (ap (λ (b : Block). block_text b c.args.session.now.tables) (sym c.in-Islands.is)) c.print_case_islands.ensures.appends

pub returns-in-Critical-clause-appends : goal.returns-in-Critical-clause-appends
returns-in-Critical-clause-appends g c =
    appends_as (ap (λ (b : Block). block_text b c.args.session.now.tables) (sym c.in-Critical.is)) c.print_case_critical.ensures.appends

pub returns-in-Placement-clause-appends : goal.returns-in-Placement-clause-appends
returns-in-Placement-clause-appends g c =
    appends_as (ap (λ (b : Block). block_text b c.args.session.now.tables) (sym c.in-Placement.is)) c.print_case_placement.ensures.appends

pub returns-in-Trees-clause-appends : goal.returns-in-Trees-clause-appends
returns-in-Trees-clause-appends g c =
    appends_as ((claimed_are c.args.session.now.tables).0 ∙ ap (λ (b : Block). block_text b c.args.session.now.tables) (sym c.in-Trees.is)) c.print_claims.ensures.appends

pub returns-in-Bounds-clause-appends : goal.returns-in-Bounds-clause-appends
returns-in-Bounds-clause-appends g c =
    appends_as ((claimed_are c.args.session.now.tables).1 ∙ ap (λ (b : Block). block_text b c.args.session.now.tables) (sym c.in-Bounds.is)) c.print_claims-in-Bounds.ensures.appends

pub returns-in-Claims-clause-appends : goal.returns-in-Claims-clause-appends
returns-in-Claims-clause-appends g c =
    appends_as ((claimed_are c.args.session.now.tables).2 ∙ ap (λ (b : Block). block_text b c.args.session.now.tables) (sym c.in-Claims.is)) c.print_claims-in-Claims.ensures.appends
