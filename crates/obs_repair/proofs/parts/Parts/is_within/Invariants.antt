use Rattle.std.proofs.Common.{◌≡◌, drop}
use Rattle.std.specs.List.{list_all}
use Rattle.obs_repair.specs.inner.Parts.{is_inside}
use Rattle.obs_repair.proofs.parts.Parts.is_within.Given as goal

abbrev pub invariant-loop-e : goal.invariant-loop-e
invariant-loop-e l = list_all (is_inside l.self.first l.g.ends) l.e-items ≡ list_all (is_inside l.self.first l.g.ends) (drop l.e-index l.e-items)
