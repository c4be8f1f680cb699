use Rattle.std.proofs.Common.{ap, length, arith}
use Rattle.obs_cert.proofs.ComponentLemmas.{rows_few}
use Rattle.obs_cert.proofs.scopes.price_at.Goals as goal

pub overflow_cast-meters : goal.overflow_cast-meters
overflow_cast-meters c = omega (arith, ap length c.meters.ensures.rows, rows_few c.args.case.now c.meters.ensures.valid)
