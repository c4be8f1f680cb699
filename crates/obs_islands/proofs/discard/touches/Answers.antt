use Rattle.std.proofs.Common.{sym, arith}
use Rattle.std.specs.Prelude.{slice_index_or}
use Rattle.obs_meter.specs.declared.Touch.TheVariants.{Nothing}
use Rattle.obs_islands.proofs.Hubs.{untouched_past}
use Rattle.obs_islands.proofs.discard.touches.Goals as goal

pub returns-else-e-positions : goal.returns-else-e-positions
returns-else-e-positions c = record {
  value = sym (untouched_past c.args.g.now.ends (slice_index_or c.args.used.now.touches c.args.m Nothing) c.args.e (omega (arith, c.positions.ensures.count, c.if-e-positions.false)));
}
