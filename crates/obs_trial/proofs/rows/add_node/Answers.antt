use Rattle.std.proofs.Common.{refl, ap, ◌∙◌}
use Rattle.obs_text.specs.Names.{is_name}
use Rattle.obs_trial.proofs.NameLemmas.{is_name-numbered}
use Rattle.obs_trial.proofs.rows.add_node.Goals as goal

pub add_node-requires : goal.add_node-requires
add_node-requires c = record { name = ap is_name c.numbered.ensures.name ∙ is_name-numbered 0x6E c.args.at refl c.ranges.at.fits }
