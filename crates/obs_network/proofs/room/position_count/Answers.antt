use Rattle.std.proofs.Common.{◌≡◌, ◌∙◌, ap, arith, length, sym, true, false}
use Rattle.obs_network.specs.Angles.{has_angle}
use Rattle.obs_network.proofs.OfCase.{few_branches, few_candidates, few_meters}
use Rattle.obs_network.proofs.room.position_count.Goals as goal

pub overflow_cast-branches : goal.overflow_cast-branches
overflow_cast-branches c = omega (arith, ap length c.branches.ensures.rows, few_branches c.args.case.now c.branches.ensures.valid)

pub overflow_cast-result : goal.overflow_cast-result
overflow_cast-result c = omega (arith, ap length c.meters.ensures.rows, few_meters c.args.case.now c.branches.ensures.valid)

pub overflow_add-result : goal.overflow_add-result
overflow_add-result c =
    omega (arith, ap length c.branches.ensures.rows, few_branches c.args.case.now c.branches.ensures.valid, ap length c.meters.ensures.rows, few_meters c.args.case.now c.branches.ensures.valid)

pub overflow_cast-result-then-has_angle : goal.overflow_cast-result-then-has_angle
overflow_cast-result-then-has_angle c = omega (arith, ap length c.candidates.ensures.rows, few_candidates c.args.case.now c.branches.ensures.valid)

pub overflow_add-result-then-has_angle : goal.overflow_add-result-then-has_angle
overflow_add-result-then-has_angle c =
    omega (arith, ap length c.branches.ensures.rows, few_branches c.args.case.now c.branches.ensures.valid, ap length c.meters.ensures.rows, few_meters c.args.case.now c.branches.ensures.valid, ap length c.candidates.ensures.rows, few_candidates c.args.case.now c.branches.ensures.valid)

pub returns-then-has_angle : goal.returns-then-has_angle
returns-then-has_angle c =
    let some : has_angle c.args.case.now ≡ true = sym c.has_angle.ensures.angle ∙ c.if-has_angle.true in
    record { count = rw some (omega (arith, ap length c.branches.ensures.rows, ap length c.meters.ensures.rows, ap length c.candidates.ensures.rows)) }

pub returns-else-has_angle : goal.returns-else-has_angle
returns-else-has_angle c =
    let none : has_angle c.args.case.now ≡ false = sym c.has_angle.ensures.angle ∙ c.if-has_angle.false in
    record { count = rw none (omega (arith, ap length c.branches.ensures.rows)) }
