use Rattle.std.proofs.Common.{◌∙◌, ◌++◌, ap, length, refl, sym, arith}
use Rattle.std.proofs.lemmas.List.{take_all}
use Rattle.obs_network.specs.Network.{case_angles}
use Rattle.obs_network.proofs.OfCase.{candidates-at_nodes, length-case_buses, length-case_components, meters-at_nodes}
use Rattle.obs_network.proofs.angles.write_angles.Goals as goal

pub write_meters-requires-clause-nodes : goal.write_meters-requires-clause-nodes
write_meters-requires-clause-nodes c =
    let t = c.args.case.now in
    rw (c.meters-then-has_angle.ensures.rows, c.requires.found.buses.buses, length-case_buses t) (meters-at_nodes t c.meters.ensures.valid)

pub write_meters-requires-clause-buses : goal.write_meters-requires-clause-buses
write_meters-requires-clause-buses c = omega (arith, c.requires.found.buses.count, ap (λ l. length l) c.requires.found.components.of_buses, length-case_components c.args.case.now)

pub write_candidates-requires-clause-nodes : goal.write_candidates-requires-clause-nodes
write_candidates-requires-clause-nodes c =
    let t = c.args.case.now in
    rw (c.candidates.ensures.rows, c.requires.found.buses.buses, length-case_buses t) (candidates-at_nodes t c.meters.ensures.valid)

pub write_candidates-requires-clause-buses : goal.write_candidates-requires-clause-buses
write_candidates-requires-clause-buses c = omega (arith, c.requires.found.buses.count, ap (λ l. length l) c.requires.found.components.of_buses, length-case_components c.args.case.now)

pub returns-then-has_angle-clause-angles : goal.returns-then-has_angle-clause-angles
unfolding case_angles
returns-then-has_angle-clause-angles c =
    let some = sym c.has_angle.ensures.angle ∙ c.if-has_angle.true in
    take_all (length (c.write_meters.new.places ++ c.write_candidates.new.places)) (c.write_meters.new.places ++ c.write_candidates.new.places) (omega arith)
    ∙ rw (some, c.write_meters.ensures.ends, c.write_candidates.ensures.ends, c.meters-then-has_angle.ensures.rows, c.candidates.ensures.rows, c.requires.found.buses.buses, c.requires.found.components.of_buses, c.requires.found.components.energised, c.requires.found.components.absolute) refl

pub returns-else-has_angle-clause-angles : goal.returns-else-has_angle-clause-angles
unfolding case_angles
returns-else-has_angle-clause-angles c =
    let none = sym c.has_angle.ensures.angle ∙ c.if-has_angle.false in
    rw none refl
