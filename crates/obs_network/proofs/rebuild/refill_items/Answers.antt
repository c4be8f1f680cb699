use Rattle.std.proofs.Common.{take, sym, subst, ◌≤◌, ap, ◌∙◌, length, refl, arith}
use Rattle.obs_meter.specs.Held.{Meters}
use Rattle.obs_network.specs.Network.{case_meters, case_offered}
use Rattle.obs_network.proofs.OfCase.{candidates-at_nodes, few_branches, few_candidates, few_meters, length-candidate_touches, length-case_branches, length-case_buses, length-meter_touches, meters-at_nodes}
use Rattle.obs_network.proofs.Fronts.{rows_are_first}
use Rattle.obs_network.proofs.Fronts.{both_fit}
use Rattle.obs_network.proofs.rebuild.refill_items.Goals as goal

pub write_meters-requires-clause-places : goal.write_meters-requires-clause-places
write_meters-requires-clause-places c =
    let t = c.args.case.now in
    rw (c.meters.ensures.rows, c.requires.buses.buses, length-case_buses t) (meters-at_nodes t c.branches.ensures.valid)

pub write_meters-requires-clause-rows : goal.write_meters-requires-clause-rows
write_meters-requires-clause-rows c =
    omega (arith, ap (λ l. length l) c.branches.ensures.rows, ap (λ l. length l) c.requires.graph.ends, length-case_branches c.args.case.now)

pub write_candidates-requires-clause-places : goal.write_candidates-requires-clause-places
write_candidates-requires-clause-places c =
    let t = c.args.case.now in
    rw (c.candidates.ensures.rows, c.requires.buses.buses, length-case_buses t) (candidates-at_nodes t c.branches.ensures.valid)

pub write_candidates-requires-clause-rows : goal.write_candidates-requires-clause-rows
write_candidates-requires-clause-rows c =
    omega (arith, ap (λ l. length l) c.branches.ensures.rows, ap (λ l. length l) c.requires.graph.ends, length-case_branches c.args.case.now)

pub returns-clause-meters : goal.returns-clause-meters
unfolding case_meters
returns-clause-meters c =
    let rows = rows_are_first c.args.case.now c.args.graph.now.ends (length c.branches.result.now) c.requires.graph.ends (ap (λ l. length l) c.branches.ensures.rows) in
    ap (λ (i : Meters). i.touches) c.refill.ensures.whole ∙ (c.write_meters.ensures.touches ∙ rw (rows, c.meters.ensures.rows, c.requires.buses.buses) refl)

pub returns-clause-offered : goal.returns-clause-offered
unfolding case_offered
returns-clause-offered c =
    let rows = rows_are_first c.args.case.now c.args.graph.now.ends (length c.branches.result.now) c.requires.graph.ends (ap (λ l. length l) c.branches.ensures.rows) in
    ap (λ (i : Meters). i.touches) c.refill-2.ensures.whole
    ∙ rw (c.write_meters.ensures.touches, c.write_candidates.ensures.touches, rows, c.meters.ensures.rows, c.meters-first.ensures.rows, c.candidates.ensures.rows, c.requires.buses.buses) refl

pub overflow_cast-rows : goal.overflow_cast-rows
overflow_cast-rows c = omega (arith, ap (λ l. length l) c.branches.ensures.rows, few_branches c.args.case.now c.branches.ensures.valid)

pub write_meters-requires-clause-small : goal.write_meters-requires-clause-small
write_meters-requires-clause-small c =
    let t = c.args.case.now in
    let valid = c.branches.ensures.valid in
    omega (arith, ap (λ l. length l) c.branches.ensures.rows, few_branches t valid, ap (λ l. length l) c.meters.ensures.rows, few_meters t valid)

pub overflow_cast-first : goal.overflow_cast-first
overflow_cast-first c = omega (arith, ap (λ l. length l) c.meters-first.ensures.rows, few_meters c.args.case.now c.branches.ensures.valid)

pub write_candidates-requires-clause-small : goal.write_candidates-requires-clause-small
write_candidates-requires-clause-small c =
    let t = c.args.case.now in
    let valid = c.branches.ensures.valid in
    omega (arith, ap (λ l. length l) c.branches.ensures.rows, few_branches t valid, ap (λ l. length l) c.meters-first.ensures.rows, few_meters t valid, ap (λ l. length l) c.candidates.ensures.rows, few_candidates t valid)

pub refill-requires : goal.refill-requires
refill-requires c =
    let long = ap (λ l. length l) c.write_meters.ensures.touches ∙ (length-meter_touches (take (length c.branches.result.now) c.args.graph.now.ends) c.args.buses.now.buses 0 c.meters.result.now ∙ ap (λ l. length l) c.meters.ensures.rows) in
    record { room = subst (λ n. n ≤ c.args.meters.now.most) (sym long) c.requires.meters }

pub refill-requires-2 : goal.refill-requires-2
refill-requires-2 c =
    let of_meters = ap (λ l. length l) c.write_meters.ensures.touches ∙ (length-meter_touches (take (length c.branches.result.now) c.args.graph.now.ends) c.args.buses.now.buses 0 c.meters.result.now ∙ ap (λ l. length l) c.meters.ensures.rows) in
    let of_candidates = ap (λ l. length l) c.write_candidates.ensures.touches ∙ (length-candidate_touches (take (length c.branches.result.now) c.args.graph.now.ends) c.args.buses.now.buses (length c.meters-first.result.now) c.candidates.result.now ∙ ap (λ l. length l) c.candidates.ensures.rows) in
    record { room = both_fit _ _ c.write_meters.new.touches c.write_candidates.new.touches _ of_meters of_candidates c.requires.offered }
