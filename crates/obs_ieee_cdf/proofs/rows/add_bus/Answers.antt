use Rattle.std.proofs.Common.{◌≡◌, ◌<◌, None, Some, Err, [], ◌∷◌, ◌++◌, length, sym, ap, ◌∙◌, subst, arith}
use Rattle.std.proofs.lemmas.List.{length-map}
use Rattle.obs_text.specs.Names.{is_name}
use Rattle.obs_case.specs.Adds.{with_node}
use Rattle.obs_case.specs.inner.Adds.{Refuses, node_fault, node_of}
use Rattle.obs_bus_branch.specs.Buses.{node_of_bus, tables_of_rows}
use Rattle.obs_bus_branch.proofs.NumberLemmas.{is_name-decimal}
use Rattle.obs_ieee_cdf.specs.Fields.{bus_field, number_of, source_of, type_field}
use Rattle.obs_ieee_cdf.specs.inner.Reading.{Answers}
use Rattle.obs_ieee_cdf.specs.Rows.{read_bus}
use Rattle.obs_ieee_cdf.proofs.NumberLemmas.{number_of-lt}
use Rattle.obs_ieee_cdf.proofs.RowLemmas.{bus_accepted, bus_refused}
use Rattle.obs_ieee_cdf.proofs.rows.add_bus.Goals as goal

pub add_node-requires : goal.add_node-requires
add_node-requires c =
    let number : number_of (bus_field c.args.line.now) ≡ Some c.in-Some.number = cc in
    let small = number_of-lt (bus_field c.args.line.now) c.in-Some.number number in
    let named = ap is_name c.text.ensures.decimal ∙ is_name-decimal c.in-Some.number (omega (arith, small)) in
    record { name = named }

pub returns-in-Ok : goal.returns-in-Ok
returns-in-Ok c = record {
  read = λ most earlier are is.
      let few : length earlier < most = (
      let count = ap length c.nodes.ensures.rows ∙ ap (λ t. length t.nodes) is ∙ length-map earlier node_of_bus in
      let limit = c.most.ensures.limit ∙ ap (λ t. t.most) is in
      omega (arith, count, limit, c.if-nodes-most.false)) in
      let number : number_of (bus_field c.args.line.now) ≡ Some c.in-Some.number = cc in
      let kind : source_of (type_field c.args.line.now) ≡ Some c.in-Some-has_source.source = cc in
      bus_accepted most earlier c.args.at c.args.line.now c.in-Some.number c.in-Some-has_source.source are few number kind c.args.case.now c.add_node.new.self is
      (subst (λ name. node_fault c.args.case.now name ≡ None) c.text.ensures.decimal c.in-Ok.ensures.accepted)
      (subst (λ name. c.add_node.new.self ≡ with_node c.args.case.now (node_of name c.in-Some-has_source.source)) c.text.ensures.decimal c.in-Ok.ensures.added);
}

pub returns-in-Err : goal.returns-in-Err
returns-in-Err c = record {
  read = λ most earlier are is.
      let few : length earlier < most = (
      let count = ap length c.nodes.ensures.rows ∙ ap (λ t. length t.nodes) is ∙ length-map earlier node_of_bus in
      let limit = c.most.ensures.limit ∙ ap (λ t. t.most) is in
      omega (arith, count, limit, c.if-nodes-most.false)) in
      let number : number_of (bus_field c.args.line.now) ≡ Some c.in-Some.number = cc in
      let kind : source_of (type_field c.args.line.now) ≡ Some c.in-Some-has_source.source = cc in
      subst (λ stop. Answers (read_bus most earlier c.args.at c.args.line.now) (λ bus. tables_of_rows most (earlier ++ bus ∷ []) []) c.add_node.new.self (Err stop)) (sym c.stop.ensures.stop)
      (bus_refused most earlier c.args.at c.args.line.now c.in-Some.number c.in-Some-has_source.source are few number kind c.args.case.now c.add_node.new.self c.in-Err.fault is
      (subst (λ name. Refuses (node_fault c.args.case.now name) c.in-Err.fault) c.text.ensures.decimal c.in-Err.ensures.refused));
}
