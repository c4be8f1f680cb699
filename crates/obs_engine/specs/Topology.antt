-- The buses of a case of nodes and switches.
use Rattle.std.specs.Prelude.{ℕ, List, ◌++◌, codes}
use Rattle.obs_case.specs.Tables.{Tables}
use Rattle.obs_network.specs.Switched.{case_bus_count}
use Rattle.obs_report.specs.Lines.{count_line, last_line}
use Rattle.obs_report.specs.Nodes.{node_lines}
use Rattle.obs_files.specs.declared.status.Status.TheVariants.{Done}
use Rattle.obs_engine.specs.Replies.{Reply}

-- a line for each node with its bus, then how many buses there are
abbrev pub topology_text : Tables → List ℕ
topology_text t = node_lines t ++ (count_line (codes "buses") (case_bus_count t) ++ last_line)

-- the reply to a case
abbrev pub topology_reply : Tables → Reply
topology_reply t = record { status = Done; text = topology_text t }
