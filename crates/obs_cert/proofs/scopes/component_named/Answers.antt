use Rattle.std.proofs.Common.{◌∙◌, sym, ap, arith}
use Rattle.obs_case.specs.Tables.{Tables, node_names, position_of}
use Rattle.obs_case.specs.declared.rows.Node.{Node}
use Rattle.obs_case.proofs.NameLemmas.{missed}
use Rattle.obs_cert.proofs.ScopeLemmas.{buses_long, found_row}
use Rattle.obs_cert.proofs.scopes.component_named.Goals as goal

pub returns-in_default-clause-known : goal.returns-in_default-clause-known
returns-in_default-clause-known c = sym (missed (node_names c.args.present.now) c.args.name.now (c.in_default.ensures.position ∙ ap (λ (t : Tables). position_of (node_names t) c.args.name.now) c.case-case.ensures.case))

pub bus-requires : goal.bus-requires
bus-requires c =
    let f = found_row (λ (row : Node). row.name) c.args.present.now.nodes c.args.name.now c.in-Some.node (c.in-Some.ensures.position ∙ ap (λ (t : Tables). position_of (node_names t) c.args.name.now) c.case-case.ensures.case) in
    record { node = omega (arith, f.1, buses_long c.args.present.now c.network-network.result.now c.buses.result.now c.network-network.ensures.network c.buses.ensures.buses) }

pub names-requires : goal.names-requires
names-requires c =
    let f = found_row (λ (row : Node). row.name) c.args.present.now.nodes c.args.name.now c.in-Some.node (c.in-Some.ensures.position ∙ ap (λ (t : Tables). position_of (node_names t) c.args.name.now) c.case-case.ensures.case) in
    record { node = f.1 }

pub returns-clause-known : goal.returns-clause-known
returns-clause-known c =
    let f = found_row (λ (row : Node). row.name) c.args.present.now.nodes c.args.name.now c.in-Some.node (c.in-Some.ensures.position ∙ ap (λ (t : Tables). position_of (node_names t) c.args.name.now) c.case-case.ensures.case) in
    sym f.0
