use Rattle.std.proofs.Common.{◌≡◌, ◌++◌, ◌-◌, ℕ, List, length}
use Rattle.std.specs.List.{flat_map, range_with_len}
use Rattle.obs_report.specs.Nodes.{node_line, node_lines}
use Rattle.obs_report.specs.inner.Printed.{Prints}
use Rattle.obs_report.proofs.nodes.print_nodes.Given as goal

abbrev pub invariant-loop-node : goal.invariant-loop-node
invariant-loop-node g l = (text : List ℕ)
    × Prints g.W.Sink.written g.W.Sink.faults g.W.Sink.has_room l.initial.output l.output l.initial.lines l.lines text
    × (text ++ flat_map (node_line l.case) (range_with_len l.node (length l.case.nodes - l.node)) ≡ node_lines l.case)
