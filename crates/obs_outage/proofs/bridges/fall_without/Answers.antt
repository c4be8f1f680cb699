use Rattle.std.proofs.Common.{length, refl, sym, ap, ◌∙◌, arith}
use Rattle.std.proofs.lemmas.Bool.{true≢false}
use Rattle.obs_network.specs.Network.{Network}
use Rattle.obs_network.proofs.OfCase.{case_bus_count-le, few_nodes, length-case_branches}
use Rattle.obs_outage.proofs.Parting.{component_low, fall_listed, fall_one, few_buses, no_source, parted_by}
use Rattle.obs_outage.proofs.Restored.{row_low}
use Rattle.obs_outage.proofs.bridges.fall_without.Goals as goal

pub component_of_branch-requires : goal.component_of_branch-requires
component_of_branch-requires c =
    let low = row_low c.args.case.now c.args.e c.requires.row in
    let many = length-case_branches c.args.case.now in
    let net = ap (λ (x : Network). length x.graph.ends) c.requires.network in
    record { branch = omega (arith, low, many, net) }

pub absolute-requires : goal.absolute-requires
absolute-requires c = record { component = c.in_ok-c.ensures.below }

pub overflow_cast-buses : goal.overflow_cast-buses
overflow_cast-buses c =
    let t = c.args.case.now in
    let v = c.requires.valid in
    let e = c.args.e in
    let side = c.args.side.now in
    let k = c.in_ok-c.c in
    let p = parted_by t c.args.network.now e k side c.requires.network (row_low t e c.requires.row) (sym c.in_ok-c.ensures.component) (sym c.absolute.ensures.absolute ∙ c.if-absolute.false) c.requires.side in
    omega (arith, few_buses t v e k side p, case_bus_count-le t, few_nodes t v)

pub of_component-requires : goal.of_component-requires
of_component-requires c =
    let t = c.args.case.now in
    let v = c.requires.valid in
    let e = c.args.e in
    let side = c.args.side.now in
    let k = c.in_ok-c.c in
    let p = parted_by t c.args.network.now e k side c.requires.network (row_low t e c.requires.row) (sym c.in_ok-c.ensures.component) (sym c.absolute.ensures.absolute ∙ c.if-absolute.false) c.requires.side in
    let room = c.requires.feeds.room.components in
    record { component = omega (arith, component_low t v e k side p, room) }

pub returns-then-here-eq0 : goal.returns-then-here-eq0
returns-then-here-eq0 c =
    let t = c.args.case.now in
    let v = c.requires.valid in
    let e = c.args.e in
    let side = c.args.side.now in
    let k = c.in_ok-c.c in
    let p = parted_by t c.args.network.now e k side c.requires.network (row_low t e c.requires.row) (sym c.in_ok-c.ensures.component) (sym c.absolute.ensures.absolute ∙ c.if-absolute.false) c.requires.side in
    let zero = sym c.requires.here ∙ c.if-here-eq0.true in
    record {
      fall = fall_listed t v e k side p c.args.feeds.now c.requires.feeds zero;
      listed = λ _. (k, p, no_source t v e k side p c.args.feeds.now c.requires.feeds zero);
      both = λ is. absurd (true≢false is);
    }

pub returns : goal.returns
returns c =
    let t = c.args.case.now in
    let v = c.requires.valid in
    let e = c.args.e in
    let side = c.args.side.now in
    let k = c.in_ok-c.c in
    let p = parted_by t c.args.network.now e k side c.requires.network (row_low t e c.requires.row) (sym c.in_ok-c.ensures.component) (sym c.absolute.ensures.absolute ∙ c.if-absolute.false) c.requires.side in
    let fed = c.from.ensures ∙ c.of_component.ensures.count in
    let falls = fall_one t v e k side p c.args.feeds.now c.requires.feeds (λ zero. c.if-here-eq0.false (c.requires.here ∙ zero)) (λ all. c.if-here-from.false (c.requires.here ∙ all ∙ sym fed)) in
    record { fall = falls; listed = λ is. absurd (true≢false (sym is)); both = λ _. falls.alone refl }

pub returns-then-absolute : goal.returns-then-absolute
returns-then-absolute c = record { fall = tt; listed = tt; both = tt }

pub returns-then-here-from : goal.returns-then-here-from
returns-then-here-from c = record { fall = tt; listed = tt; both = tt }
