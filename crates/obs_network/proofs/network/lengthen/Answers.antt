use Rattle.std.proofs.Common.{ap, arith, length}
use Rattle.obs_network.proofs.OfCase.{few_branches, few_candidates, few_meters}
use Rattle.obs_network.proofs.network.lengthen.Goals as goal

pub overflow_add-items : goal.overflow_add-items
overflow_add-items c = omega (arith, ap length c.meters.ensures.rows, few_meters c.args.case.now c.branches-branches.ensures.valid, ap length c.candidates.ensures.rows, few_candidates c.args.case.now c.branches-branches.ensures.valid)

pub overflow_add-branches : goal.overflow_add-branches
overflow_add-branches c =
    let t = c.args.case.now in
    let valid = c.branches-branches.ensures.valid in
    omega (arith, ap length c.branches-branches.ensures.rows, few_branches t valid, ap length c.meters.ensures.rows, few_meters t valid, ap length c.candidates.ensures.rows, few_candidates t valid)

pub returns-in_default : goal.returns-in_default
returns-in_default c = record { links = tt; live = tt; kept = tt; touches = tt }

pub returns-in_default-resize : goal.returns-in_default-resize
returns-in_default-resize c = record { links = tt; live = tt; kept = tt; touches = tt }

pub returns-in_default-resize-2 : goal.returns-in_default-resize-2
returns-in_default-resize-2 c = record { links = tt; live = tt; kept = tt; touches = tt }

pub returns-in_default-resize-3 : goal.returns-in_default-resize-3
returns-in_default-resize-3 c = record { links = tt; live = tt; kept = tt; touches = tt }
