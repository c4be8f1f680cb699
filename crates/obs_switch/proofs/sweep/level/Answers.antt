use Rattle.std.proofs.Common.{◌||◌, sym, ◌∙◌, arith}
use Rattle.obs_switch.proofs.Lowering.{high_below, high_bus, level_settled, low_bus, lowered_none, lowered_twice}
use Rattle.obs_switch.proofs.sweep.level.Goals as goal

pub returns-then-one-other-clause-lowered : goal.returns-then-one-other-clause-lowered
returns-then-one-other-clause-lowered c = lowered_none c.args.links.now c.args.labels.now c.requires.labels

pub returns-then-one-other-clause-settled : goal.returns-then-one-other-clause-settled
returns-then-one-other-clause-settled c = λ e. c.if-one-other.true

pub lower-at_from-requires-clause-node : goal.lower-at_from-requires-clause-node
lower-at_from-requires-clause-node c = c.requires.from

pub lower-at_from-requires-clause-labels : goal.lower-at_from-requires-clause-labels
lower-at_from-requires-clause-labels c = c.requires.labels

pub lower-at_from-requires-clause-one_bus : goal.lower-at_from-requires-clause-one_bus
lower-at_from-requires-clause-one_bus c = low_bus c.args.links.now c.args.labels.now c.requires.labels c.args.from c.args.to c.requires.from c.requires.to c.requires.one_bus c.min-low.result c.min-low.ensures

pub lower-at_to-requires-clause-node : goal.lower-at_to-requires-clause-node
lower-at_to-requires-clause-node c = omega (arith, c.requires.to, c.lower-at_from.auto.labels)

pub lower-at_to-requires-clause-labels : goal.lower-at_to-requires-clause-labels
lower-at_to-requires-clause-labels c = c.lower-at_from.ensures.lowered.labels

pub lower-at_to-requires-clause-one_bus : goal.lower-at_to-requires-clause-one_bus
lower-at_to-requires-clause-one_bus c = low_bus c.args.links.now c.args.labels.now c.requires.labels c.args.from c.args.to c.requires.from c.requires.to c.requires.one_bus c.min-low.result c.min-low.ensures ∙ c.requires.one_bus

pub lower-at_label-requires-clause-node : goal.lower-at_label-requires-clause-node
lower-at_label-requires-clause-node c = omega (arith, high_below c.args.links.now c.args.labels.now c.requires.labels c.args.from c.args.to c.requires.from c.requires.to c.requires.one_bus c.max-high.result c.max-high.ensures, c.lower-at_from.auto.labels, c.lower-at_to.auto.labels)

pub lower-at_label-requires-clause-labels : goal.lower-at_label-requires-clause-labels
lower-at_label-requires-clause-labels c = c.lower-at_to.ensures.lowered.labels

pub lower-at_label-requires-clause-one_bus : goal.lower-at_label-requires-clause-one_bus
lower-at_label-requires-clause-one_bus c = low_bus c.args.links.now c.args.labels.now c.requires.labels c.args.from c.args.to c.requires.from c.requires.to c.requires.one_bus c.min-low.result c.min-low.ensures ∙ sym (high_bus c.args.links.now c.args.labels.now c.requires.labels c.args.from c.args.to c.requires.from c.requires.to c.requires.one_bus c.max-high.result c.max-high.ensures)

pub returns-clause-lowered : goal.returns-clause-lowered
returns-clause-lowered c =
    let f = c.lower-at_from in
    let t = c.lower-at_to in
    let l = c.lower-at_label in
    let links = c.args.links.now in
    let labels = c.args.labels.now in
    lowered_twice links labels t.new.labels l.new.labels (f.result || t.result) l.result
    (lowered_twice links labels f.new.labels t.new.labels f.result t.result f.ensures.lowered t.ensures.lowered) l.ensures.lowered

pub returns-clause-settled : goal.returns-clause-settled
returns-clause-settled c =
    let f = c.lower-at_from in
    let t = c.lower-at_to in
    level_settled c.args.links.now c.args.labels.now f.new.labels t.new.labels c.args.from c.args.to c.min-low.result f.result t.result c.lower-at_label.result c.min-low.ensures f.ensures.lowered f.ensures.at_most t.ensures.lowered
    t.ensures.at_most
