use Rattle.std.proofs.Common.{◌+◌, ℕ, length, ap, arith}
use Rattle.obs_case.specs.declared.rows.Candidate.{Candidate}
use Rattle.obs_case.specs.declared.rows.Meter.{Meter}
use Rattle.obs_cert.proofs.ComponentLemmas.{rows_few}
use Rattle.obs_cert.proofs.NumberLemmas.{absent}
use Rattle.obs_cert.proofs.numbers.item_of.Goals as goal

pub returns-in-None-clause-number : goal.returns-in-None-clause-number
returns-in-None-clause-number c =
    rw (c.in-Meter.is, c.meters.ensures.rows) (absent (λ (row : Meter). row.name) c.args.case.now.meters c.in-Meter.name.now c.in-None.ensures.position)

pub returns-in-None-find_candidate-clause-number : goal.returns-in-None-find_candidate-clause-number
returns-in-None-find_candidate-clause-number c =
    rw (c.in-Candidate.is, c.meters.ensures.rows, c.candidates.ensures.rows)
    (ap (λ (k : ℕ). length c.args.case.now.meters + k) (absent (λ (row : Candidate). row.name) c.args.case.now.candidates c.in-Candidate.name.now c.in-None-find_candidate.ensures.position))

pub overflow_cast-meters : goal.overflow_cast-meters
overflow_cast-meters c = omega (arith, ap length c.meters.ensures.rows, rows_few c.args.case.now c.meters.ensures.valid)

pub overflow_cast-result : goal.overflow_cast-result
overflow_cast-result c = omega (arith, ap length c.candidates.ensures.rows, rows_few c.args.case.now c.meters.ensures.valid)

pub overflow_add-result-in-None-find_candidate : goal.overflow_add-result-in-None-find_candidate
overflow_add-result-in-None-find_candidate c =
    omega (arith, ap length c.meters.ensures.rows, ap length c.candidates.ensures.rows, rows_few c.args.case.now c.meters.ensures.valid)

pub returns-in-None-clause-below : goal.returns-in-None-clause-below
returns-in-None-clause-below c = omega (arith, ap length c.meters.ensures.rows)

pub returns-in-None-find_candidate-clause-below : goal.returns-in-None-find_candidate-clause-below
returns-in-None-find_candidate-clause-below c = omega (arith, ap length c.meters.ensures.rows, ap length c.candidates.ensures.rows)
