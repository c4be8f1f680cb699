use Rattle.std.proofs.Common.{◌≡◌, ◌∙◌, ap, length, take, sym, arith}
use Rattle.obs_graph.specs.Positions.{branches_at, has_end}
use Rattle.obs_graph.proofs.AtVertex.{positions_from_rise}
use Rattle.obs_meter.specs.declared.Touch.TheVariants.{Front}
use Rattle.obs_network.proofs.Fronts.{length-branches_at, rows_all, rows_below}
use Rattle.obs_network.proofs.touching.rows_at.Goals as goal
use Rattle.obs_network.proofs.touching.rows_at.Goals.{then-positions-rows, else-positions-rows}

pub count_below-count-requires : goal.count_below-count-requires
count_below-count-requires c = record { rising = rw c.branches_at-at.ensures.branches (positions_from_rise (has_end c.args.bus) 0 c.args.graph.now.ends) }

pub overflow_cast-result : goal.overflow_cast-result
overflow_cast-result c =
    let ends = c.args.graph.now.ends in
    let at = ap (λ l. length l) c.branches_at-at.ensures.branches in
    let few = length-branches_at ends c.args.bus in
    elim c.if-positions-rows.branch [
      | then-positions-rows w ↦ omega (arith, at, few, c.positions.ensures.count, w.count-is)
      | else-positions-rows w ↦ omega (arith, at, few, c.positions.ensures.count, w.count-is, w.count_below-count.ensures.few)
    ]

pub returns : goal.returns
returns c =
    let ends = c.args.graph.now.ends in
    let bus = c.args.bus in
    let at = ap (λ l. length l) c.branches_at-at.ensures.branches in
    let is : c.if-positions-rows.count ≡ length (branches_at (take c.args.rows ends) bus) = elim c.if-positions-rows.branch [
      | then-positions-rows w ↦ w.count-is ∙ (at ∙ ap (λ l. length l) (sym (rows_all ends c.args.rows bus (sym c.positions.ensures.count ∙ w.if-positions-rows.true))))
      | else-positions-rows w ↦ w.count-is ∙ rows_below ends c.args.rows bus w.count_below-count.result c.requires.rows (omega (arith, at, w.count_below-count.ensures.few)) (rw (sym c.branches_at-at.ensures.branches) w.count_below-count.ensures.point)
    ] in
    record { touch = ap (λ n. Front bus n) is }
