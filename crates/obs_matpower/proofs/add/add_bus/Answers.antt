use Rattle.std.proofs.Common.{◌≡◌, ◌<◌, None, Some, Err, [], ◌∷◌, ◌++◌, length, decimal, false, sym, ap, ◌∙◌, subst, arith}
use Rattle.obs_text.specs.Names.{is_name}
use Rattle.obs_case.specs.Adds.{with_node}
use Rattle.obs_case.specs.inner.Adds.{Refuses, node_fault, node_of}
use Rattle.obs_bus_branch.proofs.NumberLemmas.{is_name-decimal}
use Rattle.obs_matpower.specs.Fields.{is_short, number_in, type_in}
use Rattle.obs_matpower.specs.Read.{BusRow, read_bus}
use Rattle.obs_matpower.specs.inner.Reading.{Answers, held_buses}
use Rattle.obs_matpower.proofs.AddLemmas.{any_after, bus_accepted, bus_refused, nodes-length}
use Rattle.obs_matpower.proofs.NumberLemmas.{number_in-lt}
use Rattle.obs_matpower.proofs.add.add_bus.Goals as goal

pub add_node-requires : goal.add_node-requires
add_node-requires c =
    let number : number_in 1 c.args.row.now ≡ Some c.in-Some.number = cc in
    let small = number_in-lt 1 c.args.row.now c.in-Some.number number in
    let named = ap is_name c.text.ensures.decimal ∙ is_name-decimal c.in-Some.number (omega (arith, small)) in
    record { name = named }

pub returns-in-Ok : goal.returns-in-Ok
returns-in-Ok c = record {
  read = λ most earlier are is flags.
      let row = c.args.row.now in
      let n = c.in-Some.number in
      let kind = c.in-Some-type_in.kind in
      let number : number_in 1 row ≡ Some n = cc in
      let typed : type_in 2 row ≡ Some kind = cc in
      let long : is_short 2 row ≡ false = sym c.is_short.ensures.short ∙ c.if-is_short.false in
      let few : length earlier < most = (
      let count = ap length c.nodes.ensures.rows ∙ ap (λ t. length t.nodes) is ∙ nodes-length earlier in
      let limit = c.most.ensures.limit ∙ ap (λ t. t.most) is in
      omega (arith, count, limit, c.if-nodes-most.false)) in
      let accepted : node_fault c.args.case.now (decimal n) ≡ None = subst (λ name. node_fault c.args.case.now name ≡ None) c.text.ensures.decimal c.in_default-add_node.ensures.accepted in
      bus_accepted most earlier c.args.at row n kind are few long number typed c.args.case.now c.add_node.new.self c.args.isolated.now.items c.push.new.self.items is flags accepted
      (c.in_default-add_node.ensures.added
      ∙ ap (λ name. with_node c.args.case.now (node_of name c.is_source.result)) c.text.ensures.decimal
      ∙ ap (λ source. with_node c.args.case.now (node_of (decimal n) source)) c.is_source.ensures.source)
      (c.in-Ok.ensures.items ∙ ap (λ flag. c.args.isolated.now.items ++ flag ∷ []) c.is_isolated.ensures.isolated);
}

pub returns-in-Err : goal.returns-in-Err
returns-in-Err c = record {
  read = λ most earlier are is flags.
      let row = c.args.row.now in
      let n = c.in-Some.number in
      let kind = c.in-Some-type_in.kind in
      let number : number_in 1 row ≡ Some n = cc in
      let typed : type_in 2 row ≡ Some kind = cc in
      let long : is_short 2 row ≡ false = sym c.is_short.ensures.short ∙ c.if-is_short.false in
      let few : length earlier < most = (
      let count = ap length c.nodes.ensures.rows ∙ ap (λ t. length t.nodes) is ∙ nodes-length earlier in
      let limit = c.most.ensures.limit ∙ ap (λ t. t.most) is in
      omega (arith, count, limit, c.if-nodes-most.false)) in
      let held = λ (bus : BusRow). held_buses most (earlier ++ bus ∷ []) in
      let refused : Refuses (node_fault c.args.case.now (decimal n)) c.in-Err.fault = subst (λ name. Refuses (node_fault c.args.case.now name) c.in-Err.fault) c.text.ensures.decimal c.in-Err.ensures.refused in
      any_after (read_bus most earlier c.args.at row) held (held_buses most []) (c.add_node.new.self, c.args.isolated.now.items) c.stop.result
      (subst (λ stop. Answers (read_bus most earlier c.args.at row) held (held_buses most []) (Err stop)) (sym c.stop.ensures.stop)
      (bus_refused most earlier c.args.at row n kind are few long number typed c.args.case.now (held_buses most []) c.in-Err.fault is refused));
}
