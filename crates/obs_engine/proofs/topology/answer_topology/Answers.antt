use Rattle.std.proofs.Common.{refl}
use Rattle.obs_files.specs.declared.status.Status.TheVariants.{Done}
use Rattle.obs_engine.specs.Topology.{topology_reply}
use Rattle.obs_engine.proofs.Endings.{replied_memory, replied_so}
use Rattle.obs_engine.proofs.topology.answer_topology.Goals as goal

pub returns-in_default : goal.returns-in_default
returns-in_default g c = record { replied = replied_memory (topology_reply c.args.case.now) }

pub returns : goal.returns
returns g c = record {
  replied = replied_so (topology_reply c.args.case.now) c.print_topology.result Done c.printed_status.result c.printed_status.ensures.status refl (λ e. absurd cc) (λ e. absurd cc) c.print_topology.ensures.appends;
}
