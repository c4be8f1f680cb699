use Rattle.std.proofs.Common.{refl}
use Rattle.obs_files.specs.declared.status.Status.TheVariants.{Usage}
use Rattle.obs_engine.specs.Replies.{usage_reply}
use Rattle.obs_engine.proofs.Endings.{printed_either, replied_so}
use Rattle.obs_engine.proofs.refused.refuse_words.Goals as goal

pub returns-clause-replied : goal.returns-clause-replied
returns-clause-replied g c =
    let wrote = c.write_all.ensures in
    replied_so usage_reply c.write_all.result Usage c.printed_status.result c.printed_status.ensures.status refl (λ e. absurd cc) (λ e. absurd cc)
    (record { writes = wrote.writes; cause = wrote.cause; quiet = wrote.quiet; fits = λ rest has. (wrote.succeeds rest has, wrote.room rest has) })

pub returns-clause-statuses : goal.returns-clause-statuses
returns-clause-statuses g c = printed_either c.write_all.result Usage c.printed_status.result c.printed_status.ensures.status
