use Rattle.std.proofs.Common.{length, arith, ap, ◌∙◌}
use Rattle.obs_network.specs.Switched.{closed_links}
use Rattle.obs_network.proofs.OfCase.{case_links-below, few_nodes}
use Rattle.obs_network.proofs.rebuild.relabel.Goals as goal

pub relabel-requires-clause-ends : goal.relabel-requires-clause-ends
relabel-requires-clause-ends c =
    let t = c.args.case.now in
    let links = c.write_links-count.ensures.links ∙ ap closed_links c.switches.ensures.rows in
    rw (c.nodes.ensures.rows, links) (case_links-below t c.nodes.ensures.valid)

pub overflow_cast-nodes : goal.overflow_cast-nodes
overflow_cast-nodes c = omega (arith, ap (λ l. length l) c.nodes.ensures.rows, few_nodes c.args.case.now c.nodes.ensures.valid)
