use Rattle.std.proofs.Common.{inl, inr, ◌∙◌, List, get_or, ap}
use Rattle.std.proofs.lemmas.Bool.{eqb-true}
use Rattle.obs_switch.specs.Held.{Buses}
use Rattle.obs_case.specs.declared.rows.Switch.{Switch}
use Rattle.obs_network.proofs.OneSwitch.{nodes_low, stays}
use Rattle.obs_network.proofs.network.Network.joins_nothing.Goals as goal

pub bus-requires : goal.bus-requires
bus-requires c =
    let row = c.index-switches-at.result in
    let is = c.index-switches-at.is ∙ ap (λ (rows : List Switch). get_or rows c.args.at row) c.switches.ensures.rows in
    record { node = (nodes_low c.args.self.now c.args.at c.args.case.now c.switches.ensures.valid c.requires.before c.requires.switch row is c.buses-buses.result.now.buses (ap (λ (b : Buses). b.buses) c.buses-buses.ensures.buses)).0 }

pub bus-requires-2 : goal.bus-requires-2
bus-requires-2 c =
    let row = c.index-switches-at.result in
    let is = c.index-switches-at.is ∙ ap (λ (rows : List Switch). get_or rows c.args.at row) c.switches.ensures.rows in
    record { node = (nodes_low c.args.self.now c.args.at c.args.case.now c.switches.ensures.valid c.requires.before c.requires.switch row is c.buses-buses.result.now.buses (ap (λ (b : Buses). b.buses) c.buses-buses.ensures.buses)).1 }

pub returns-then-switch : goal.returns-then-switch
returns-then-switch c = record {
  same = λ closed.
      let row = c.index-switches-at.result in
      let is = c.index-switches-at.is ∙ ap (λ (rows : List Switch). get_or rows c.args.at row) c.switches.ensures.rows in
      stays c.args.self.now c.args.at c.args.case.now c.switches.ensures.valid c.requires.before c.requires.switch row is c.buses-buses.result.now.buses (ap (λ (b : Buses). b.buses) c.buses-buses.ensures.buses)
      c.bus.result c.bus-2.result c.bus.ensures.bus c.bus-2.ensures.bus c.if-one_bus.true (inl closed);
  valid = c.switches.ensures.valid;
}

pub returns-else-switch : goal.returns-else-switch
returns-else-switch c = record {
  same = λ itself.
      let row = c.index-switches-at.result in
      let is = c.index-switches-at.is ∙ ap (λ (rows : List Switch). get_or rows c.args.at row) c.switches.ensures.rows in
      stays c.args.self.now c.args.at c.args.case.now c.switches.ensures.valid c.requires.before c.requires.switch row is c.buses-buses.result.now.buses (ap (λ (b : Buses). b.buses) c.buses-buses.ensures.buses)
      c.bus.result c.bus-2.result c.bus.ensures.bus c.bus-2.ensures.bus c.if-one_bus.true (inr (eqb-true row.from row.to itself));
  valid = c.switches.ensures.valid;
}
