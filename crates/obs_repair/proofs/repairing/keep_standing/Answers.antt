use Rattle.obs_repair.proofs.Repaired.{as_many_meters, as_many_positions, fits_vertices, kept-retained, kept-same}
use Rattle.obs_repair.proofs.repairing.keep_standing.Goals as goal

pub retain_touching-requires-clause-meters : goal.retain_touching-requires-clause-meters
retain_touching-requires-clause-meters c =
    as_many_meters c.args.present.now c.args.edit c.args.a.now c.graph.ensures.valid c.requires.before c.graph.result.now c.graph.ensures.graph c.meters.result.now c.meters.ensures.meters

pub retain_touching-requires-clause-positions : goal.retain_touching-requires-clause-positions
retain_touching-requires-clause-positions c =
    as_many_positions c.args.present.now c.args.edit c.args.a.now c.graph.ensures.valid c.requires.before c.graph.result.now c.graph.ensures.graph c.meters.result.now c.meters.ensures.meters

pub retain_touching-requires-clause-vertices : goal.retain_touching-requires-clause-vertices
retain_touching-requires-clause-vertices c =
    fits_vertices c.args.present.now c.args.edit c.args.a.now c.graph.ensures.valid c.requires.before c.graph.result.now c.graph.ensures.graph c.meters.result.now c.meters.ensures.meters c.requires.vertices

pub returns-then-not-alone-clause-kept : goal.returns-then-not-alone-clause-kept
returns-then-not-alone-clause-kept c =
    let e = c.retain_touching.ensures in
    kept-retained c.args.present.now c.args.edit c.args.a.now c.graph.ensures.valid c.requires.before c.graph.result.now c.graph.ensures.graph c.meters.result.now c.meters.ensures.meters
    c.retain_touching.new.self e.retained e.turns e.stands e.whole

pub returns-else-not-alone-clause-kept : goal.returns-else-not-alone-clause-kept
returns-else-not-alone-clause-kept c = kept-same c.args.present.now c.args.a.now (c.requires.alone c.if-not-alone.false)
