use Rattle.std.proofs.Common.{sym, ap, ◌∙◌, subst}
use Rattle.obs_case.specs.Tables.{Tables}
use Rattle.obs_network.specs.Network.{rows_of}
use Rattle.obs_kept.specs.inner.Kept.{AreLongest}
use Rattle.obs_station.proofs.losses.StationWork.losses.Goals as goal

pub find_losses-requires-clause-rows : goal.find_losses-requires-clause-rows
find_losses-requires-clause-rows g c = c.requires.rows ∙ sym (ap rows_of c.of.ensures.case)

pub find_losses-requires-clause-longest : goal.find_losses-requires-clause-longest
find_losses-requires-clause-longest g c = subst (λ (t : Tables). AreLongest t c.args.a.now) (sym c.of.ensures.case) c.requires.longest
