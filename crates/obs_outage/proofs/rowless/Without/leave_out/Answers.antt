use Rattle.std.proofs.Common.{None, List, Option, set, ap, ◌∙◌}
use Rattle.obs_graph.specs.declared.Ends.{Ends}
use Rattle.obs_graph.specs.Graph.{Graph}
use Rattle.obs_outage.proofs.rowless.Without.leave_out.Goals as goal

pub returns : goal.returns
returns c =
    let n = c.args.network.now in
    let e = c.args.e in
    let h = c.requires.copy in
    let is = c.set.ensures.whole in
    record {
      without = record {
        row = c.requires.row;
        vertices = ap (λ (x : Graph). x.vertices) is ∙ h.vertices;
        ends = ap (λ (x : Graph). x.ends) is ∙ ap (λ (xs : List (Option Ends)). set xs e None) h.ends;
        touches = c.touch_around.ensures.touches;
        at_vertices = h.at_vertices;
      };
    }
