use Rattle.std.proofs.Common.{Option, ap, arith}
use Rattle.std.specs.Prelude.{is_some}
use Rattle.obs_graph.specs.declared.Ends.{Ends}
use Rattle.obs_graph.proofs.Present.{present_low}
use Rattle.obs_outage.proofs.spared.has_unpaired.Goals as goal

pub returns : goal.returns
returns c = record {
  paired = λ _ e x is.
      let low = present_low c.args.part.now.ends e (ap (λ (o : Option Ends). is_some o) is) in
      let count = c.positions-e-end.ensures.count in
      let past = c.loop-e-test.false in
      c.loop-e.invariant e x (omega (arith, low, count, past)) is;
}
