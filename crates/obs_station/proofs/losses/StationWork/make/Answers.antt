use Rattle.std.proofs.Common.{List, length, ap, arith}
use Rattle.obs_case.specs.declared.rows.Branch.{Branch}
use Rattle.obs_case.specs.declared.rows.Candidate.{Candidate}
use Rattle.obs_case.specs.declared.rows.Meter.{Meter}
use Rattle.obs_case.specs.declared.rows.Node.{Node}
use Rattle.obs_network.proofs.OfCase.{few_branches, few_candidates, few_meters, few_nodes}
use Rattle.obs_station.proofs.losses.StationWork.make.Goals as goal

pub overflow_cast-rows : goal.overflow_cast-rows
overflow_cast-rows c = omega (arith, ap (λ (xs : List Node). length xs) c.nodes.ensures.rows, few_nodes c.args.case.now c.nodes.ensures.valid)

pub overflow_cast-rows-2 : goal.overflow_cast-rows-2
overflow_cast-rows-2 c = omega (arith, ap (λ (xs : List Branch). length xs) c.branches.ensures.rows, few_branches c.args.case.now c.nodes.ensures.valid)

pub overflow_cast-rows-3 : goal.overflow_cast-rows-3
overflow_cast-rows-3 c = omega (arith, ap (λ (xs : List Meter). length xs) c.meters.ensures.rows, few_meters c.args.case.now c.nodes.ensures.valid)

pub overflow_cast-rows-4 : goal.overflow_cast-rows-4
overflow_cast-rows-4 c = omega (arith, ap (λ (xs : List Candidate). length xs) c.candidates.ensures.rows, few_candidates c.args.case.now c.nodes.ensures.valid)

pub overflow_add-positions : goal.overflow_add-positions
overflow_add-positions c = omega (arith, ap (λ (xs : List Meter). length xs) c.meters.ensures.rows, few_meters c.args.case.now c.nodes.ensures.valid, ap (λ (xs : List Candidate). length xs) c.candidates.ensures.rows, few_candidates c.args.case.now c.nodes.ensures.valid)

pub overflow_add-positions-2 : goal.overflow_add-positions-2
overflow_add-positions-2 c = omega (arith, ap (λ (xs : List Branch). length xs) c.branches.ensures.rows, few_branches c.args.case.now c.nodes.ensures.valid, ap (λ (xs : List Meter). length xs) c.meters.ensures.rows, few_meters c.args.case.now c.nodes.ensures.valid, ap (λ (xs : List Candidate). length xs) c.candidates.ensures.rows, few_candidates c.args.case.now c.nodes.ensures.valid)

pub overflow_mul-rows : goal.overflow_mul-rows
overflow_mul-rows c = omega (arith, ap (λ (xs : List Node). length xs) c.nodes.ensures.rows, few_nodes c.args.case.now c.nodes.ensures.valid)
