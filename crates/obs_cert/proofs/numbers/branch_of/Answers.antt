use Rattle.std.proofs.Common.{length, refl, sym, ap, arith}
use Rattle.obs_cert.proofs.ComponentLemmas.{positions_few}
use Rattle.obs_cert.proofs.numbers.branch_of.Goals as goal

pub overflow_cast-result : goal.overflow_cast-result
overflow_cast-result c =
    omega (arith, ap length c.branches.ensures.rows, ap length c.meters.ensures.rows, ap length c.candidates.ensures.rows, positions_few c.args.case.now c.branches.ensures.valid)

pub returns-in-Some : goal.returns-in-Some
returns-in-Some c = record { position = rw (sym c.in-Some.ensures.position) refl; below = c.in-Some.ensures.within }

pub returns-in-None : goal.returns-in-None
returns-in-None c =
    let rows = ap length c.branches.ensures.rows in
    record {
      position = rw (sym c.in-None.ensures.position) (omega (arith, rows, ap length c.meters.ensures.rows, ap length c.candidates.ensures.rows));
      below = omega (arith, rows, ap length c.meters.ensures.rows, ap length c.candidates.ensures.rows);
    }
