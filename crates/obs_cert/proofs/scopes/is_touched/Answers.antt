use Rattle.std.proofs.Common.{arith}
use Rattle.std.specs.Prelude.{slice_index_or}
use Rattle.obs_meter.specs.declared.Touch.TheVariants.{Nothing}
use Rattle.obs_cert.proofs.ScopeLemmas.{not_past}
use Rattle.obs_cert.proofs.scopes.is_touched.Goals as goal

pub returns-else-e-positions : goal.returns-else-e-positions
returns-else-e-positions c = record {
  touched = not_past c.args.g.now.ends (slice_index_or c.args.items.now.touches c.args.m Nothing) c.args.e (omega (arith, c.positions.ensures.count, c.if-e-positions.false));
}
