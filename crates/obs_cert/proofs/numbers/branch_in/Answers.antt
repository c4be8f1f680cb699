use Rattle.std.proofs.Common.{ℕ, ◌+◌, Some, length, refl, sym, ap, ◌∙◌, arith}
use Rattle.obs_cert.proofs.ComponentLemmas.{positions_few}
use Rattle.obs_cert.proofs.numbers.branch_in.Goals as goal

pub returns-then-not-is_angle_item-clause-position : goal.returns-then-not-is_angle_item-clause-position
returns-then-not-is_angle_item-clause-position c = rw (sym c.if-not-is_angle_item.ensures.angle) c.find_branch.ensures.position

pub returns-then-not-is-clause-position : goal.returns-then-not-is-clause-position
returns-then-not-is-clause-position c = rw (sym c.if-not-is_angle_item.ensures.angle, sym c.if-not-is.ensures.is) refl

pub returns-clause-position : goal.returns-clause-position
returns-clause-position c = rw (sym c.if-not-is_angle_item.ensures.angle, sym c.if-not-is.ensures.is) (ap (λ (k : ℕ). Some k) (ap (λ (k : ℕ). k + c.item_of.result) (ap length c.branches.ensures.rows) ∙ ap (λ (k : ℕ). length c.args.case.now.branches + k) c.item_of.ensures.number))

pub returns-clause-within : goal.returns-clause-within
returns-clause-within c = omega (arith, ap length c.branches.ensures.rows, c.item_of.ensures.below)

pub overflow_cast-result : goal.overflow_cast-result
overflow_cast-result c = omega (arith, ap length c.branches.ensures.rows, positions_few c.args.case.now c.branches.ensures.valid)

pub overflow_add-result : goal.overflow_add-result
overflow_add-result c = omega (arith, ap length c.branches.ensures.rows, c.item_of.ensures.below, positions_few c.args.case.now c.branches.ensures.valid)
