use Rattle.std.proofs.Common.{◌∙◌, sym}
use Rattle.std.proofs.lemmas.Bool.{not-true}
use Rattle.obs_assign.specs.inner.Assignment.{has_flag}
use Rattle.obs_outage.proofs.Costing.{costly_flow}
use Rattle.obs_outage.proofs.costly.is_critical_flow.Goals as goal

pub returns-in-Edge : goal.returns-in-Edge
returns-in-Edge c = record {
  costly = λ t.
      costly_flow c.args.g.now c.args.ms.now.touches c.args.a.now c.requires.longest c.args.marks.now c.requires.closed c.in-Some.m c.args.e c.in-Edge.field-0
      c.in-Some.ensures.meter (sym c.kind.ensures.kind ∙ c.in-Edge.is) (not-true (has_flag c.args.marks.now c.in-Some.m) t);
}
