use Rattle.std.proofs.Common.{sym, length, ap, ◌∙◌, arith}
use Rattle.obs_meter.specs.Held.{Meters}
use Rattle.obs_network.specs.Network.{Components}
use Rattle.obs_network.proofs.OfCase.{few_branches, few_candidates, few_meters, few_nodes, few_switches}
use Rattle.obs_network.proofs.Whole.{rows_are}
use Rattle.obs_network.proofs.WithoutBus.{parts_without_bus}
use Rattle.obs_network.proofs.network.Network.with_room.Goals as goal

pub invariant_of-result : goal.invariant_of-result
invariant_of-result c =
    let made = c.in-Ok-lengthen.ensures in
    let branches = ap length c.branches.ensures.rows in
    let meters = ap length c.meters.ensures.rows in
    let candidates = ap length c.candidates.ensures.rows in
    rw (
      c.in_ok-buses.ensures.empty,
      c.in_ok-components.ensures.empty,
      c.in_ok-graph.ensures.empty,
      c.in-Ok.ensures.empty,
      c.in-Ok-make.ensures.empty,
      c.in_ok-live_meters.ensures.empty,
    )
    (parts_without_bus _ _ _ _ _ _ _ _ _ _ (made.live ∙ sym branches) (omega (arith, made.kept, branches, meters, candidates)) (omega (arith, made.touches, meters, candidates)) (omega arith) c.in_ok-search.ensures.room c.in_ok-sides.ensures.room)

pub returns : goal.returns
returns c =
    let made = c.in-Ok-lengthen.ensures in
    let nodes = ap (λ (x : Components). x.most_buses) c.in_ok-components.ensures.empty in
    let meters = ap (λ (x : Meters). x.most) c.in-Ok.ensures.empty in
    let items = ap (λ (x : Meters). x.most) c.in-Ok-make.ensures.empty in
    record {
      rows = rows_are _ _
          (nodes ∙ ap length c.nodes.ensures.rows)
          made.links
          made.live
          (meters ∙ ap length c.meters.ensures.rows)
          (omega (arith, meters, items, ap length c.candidates.ensures.rows));
    }

pub overflow_cast-nodes : goal.overflow_cast-nodes
overflow_cast-nodes c = omega (arith, ap length c.nodes.ensures.rows, few_nodes c.args.case.now c.nodes.ensures.valid)

pub overflow_cast-branches : goal.overflow_cast-branches
overflow_cast-branches c = omega (arith, ap length c.branches.ensures.rows, few_branches c.args.case.now c.nodes.ensures.valid)

pub overflow_cast-meters : goal.overflow_cast-meters
overflow_cast-meters c = omega (arith, ap length c.meters.ensures.rows, few_meters c.args.case.now c.nodes.ensures.valid)

pub overflow_cast-offered : goal.overflow_cast-offered
overflow_cast-offered c = omega (arith, ap length c.candidates.ensures.rows, few_candidates c.args.case.now c.nodes.ensures.valid)

pub overflow_add-offered : goal.overflow_add-offered
overflow_add-offered c = omega (arith, ap length c.meters.ensures.rows, few_meters c.args.case.now c.nodes.ensures.valid, ap length c.candidates.ensures.rows, few_candidates c.args.case.now c.nodes.ensures.valid)

pub overflow_cast-switches : goal.overflow_cast-switches
overflow_cast-switches c = omega (arith, ap length c.switches.ensures.rows, few_switches c.args.case.now c.nodes.ensures.valid)

pub overflow_mul-nodes : goal.overflow_mul-nodes
overflow_mul-nodes c = omega (arith, ap length c.nodes.ensures.rows, few_nodes c.args.case.now c.nodes.ensures.valid)

pub overflow_add-branches : goal.overflow_add-branches
overflow_add-branches c = omega (arith, ap length c.branches.ensures.rows, few_branches c.args.case.now c.nodes.ensures.valid, ap length c.meters.ensures.rows, few_meters c.args.case.now c.nodes.ensures.valid, ap length c.candidates.ensures.rows, few_candidates c.args.case.now c.nodes.ensures.valid)

pub overflow_mul-nodes-2 : goal.overflow_mul-nodes-2
overflow_mul-nodes-2 c = omega (arith, ap length c.nodes.ensures.rows, few_nodes c.args.case.now c.nodes.ensures.valid)
