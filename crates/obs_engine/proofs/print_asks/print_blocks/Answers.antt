use Rattle.std.proofs.Common.{◌∙◌, List, ap, drop, get_or, refl, subst, suc}
use Rattle.std.proofs.lemmas.List.{take_all}
use Rattle.obs_case.specs.Tables.{Tables}
use Rattle.obs_matroid.proofs.Contained.{In-get_or}
use Rattle.obs_matroid.specs.Lists.{In}
use Rattle.obs_report.proofs.Printing.{failed_call, then_call}
use Rattle.obs_engine.specs.declared.blocks.Block.{Block}
use Rattle.obs_engine.specs.declared.blocks.Block.TheVariants.{Counts}
use Rattle.obs_engine.specs.Asks.{block_text, blocks_text}
use Rattle.obs_engine.proofs.Asked.{appends_as, appends_nothing, blocks_around, blocks_more}
use Rattle.obs_engine.proofs.print_asks.print_blocks.Goals as goal

pub print_block-requires : goal.print_block-requires
print_block-requires g c = record {
  offered = λ e. c.loop-k.invariant.1 ∙ c.requires.offered (subst (λ (b : Block). In b c.args.blocks.now) e (In-get_or c.args.blocks.now c.loop-k.k Counts c.loop-k-test.true));
}

pub returns-in-Err-clause-appends : goal.returns-in-Err-clause-appends
returns-in-Err-clause-appends g c =
    let t = c.args.session.now.tables in
    let blocks = c.args.blocks.now in
    let k = c.loop-k.k in
    appends_as (blocks_around t blocks k Counts c.loop-k-test.true)
    (failed_call (blocks_text (drop (suc k) blocks) t)
    (then_call c.loop-k.invariant.2 (appends_as (ap (λ (x : Tables). block_text (get_or blocks k Counts) x) c.loop-k.invariant.0) c.in-Err.ensures.appends)))

pub loop-k-init : goal.loop-k-init
loop-k-init g c = (refl, refl, appends_nothing tt _ _ _)

pub loop-k-preserved : goal.loop-k-preserved
loop-k-preserved g c =
    let t = c.args.session.now.tables in
    let blocks = c.args.blocks.now in
    let k = c.loop-k.k in (
      c.in-Ok.ensures.tables ∙ c.loop-k.invariant.0,
      c.in-Ok.ensures.offered ∙ c.loop-k.invariant.1,
      appends_as (blocks_more t blocks k Counts c.loop-k-test.true)
          (then_call c.loop-k.invariant.2 (appends_as (ap (λ (x : Tables). block_text (get_or blocks k Counts) x) c.loop-k.invariant.0) c.in-Ok.ensures.appends)),
    )

pub returns-clause-appends : goal.returns-clause-appends
returns-clause-appends g c =
    let t = c.args.session.now.tables in
    appends_as (ap (λ (all : List Block). blocks_text all t) (take_all c.loop-k.k c.args.blocks.now c.loop-k-test.false)) c.loop-k.invariant.2
