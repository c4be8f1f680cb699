use Rattle.std.proofs.Common.{length, ap, ◌∙◌}
use Rattle.obs_placement.proofs.measuring.Measuring.measure.Goals as goal

pub measure_own-requires-clause-offer : goal.measure_own-requires-clause-offer
measure_own-requires-clause-offer c = c.requires.offer

pub measure_own-requires-clause-known : goal.measure_own-requires-clause-known
measure_own-requires-clause-known c = c.requires.known

pub measure_own-requires-clause-marks : goal.measure_own-requires-clause-marks
measure_own-requires-clause-marks c = ap length c.deref_mut.ensures.value ∙ c.self.invariant.marks

pub measure_own-requires-clause-scope : goal.measure_own-requires-clause-scope
measure_own-requires-clause-scope c = ap length c.deref_mut-2.ensures.value ∙ c.self.invariant.scope

pub returns-clause-measured : goal.returns-clause-measured
returns-clause-measured c = c.measure_own.ensures.measured
