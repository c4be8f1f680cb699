use Rattle.std.proofs.Common.{ap, arith}
use Rattle.obs_graph.specs.Graph.{Graph}
use Rattle.obs_graph.proofs.Stored.{part_room}
use Rattle.obs_graph.proofs.graph.Graph.branches_at.Goals as goal

pub part-requires-clause-room : goal.part-requires-clause-room
part-requires-clause-room c =
    rw (c.deref.ensures.value, c.deref-2.ensures.value) (part_room _ _ _ _ _ _ c.self.invariant c.args.v (omega (arith, ap (λ (s : Graph). s.vertices) c.self.view_is)))
