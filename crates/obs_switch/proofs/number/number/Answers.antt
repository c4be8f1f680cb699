use Rattle.std.proofs.Common.{◌≡◌, ◌<◌, ◌∙◌, sym, length, get_or, get_or-set_same, get_or-set_other, below_more, arith}
use Rattle.std.proofs.lemmas.Grind.{same_number_lists}
use Rattle.std.proofs.lemmas.List.FromFn.{length-map-range_with_len}
use Rattle.obs_switch.specs.Buses.{bus_of, buses_of}
use Rattle.obs_switch.proofs.FirstNodes.{first_node-le, buses_of-at, numbered_next, counted_first, counted_other, bus_of-below}
use Rattle.obs_switch.proofs.number.number.Goals as goal
use Rattle.obs_switch.proofs.number.number.Goals.{then-first-node, else-first-node}

pub number_of-requires : goal.number_of-requires
number_of-requires c = record { first = omega (arith, c.requires.firsts c.loop-node.node (omega arith), first_node-le c.args.links.now c.loop-node.node) }

pub loop-node-preserved : goal.loop-node-preserved
loop-node-preserved c =
    let node = c.loop-node.node in
    let first = c.requires.firsts node (omega arith) in
    let here : node < length c.loop-node.numbers = omega arith in
    let is : c.number_of.result ≡ bus_of c.args.links.now node = numbered_next c.args.links.now c.loop-node.numbers node (get_or c.args.firsts.now node 0) c.loop-node.count c.number_of.result first c.loop-node.invariant.numbered c.loop-node.invariant.counted c.number_of.ensures.new c.number_of.ensures.known in
    record {
      numbered = below_more _ _
          (λ u l. get_or-set_other c.loop-node.numbers node u c.number_of.result 0 (omega arith) ∙ c.loop-node.invariant.numbered u l)
          (get_or-set_same c.loop-node.numbers node c.number_of.result 0 here ∙ is);
      counted = elim c.if-first-node.branch [
        | then-first-node w ↦ w.count-is ∙ counted_first c.args.links.now node c.loop-node.count (sym first ∙ w.if-first-node.true) c.loop-node.invariant.counted
        | else-first-node w ↦ w.count-is ∙ counted_other c.args.links.now node c.loop-node.count (λ own. w.if-first-node.false (first ∙ own)) c.loop-node.invariant.counted
      ];
      few = elim c.if-first-node.branch [ then-first-node w ↦ omega arith | else-first-node w ↦ omega arith ];
    }

pub returns-clause-buses : goal.returns-clause-buses
returns-clause-buses c =
    let nodes = length c.args.firsts.now in
    same_number_lists c.loop-node.numbers (buses_of nodes c.args.links.now) (omega (arith, length-map-range_with_len (bus_of c.args.links.now) 0 nodes))
    (λ k l. c.loop-node.invariant.numbered k (omega arith) ∙ sym (buses_of-at nodes c.args.links.now k (omega arith)))

pub returns-clause-below : goal.returns-clause-below
returns-clause-below c = λ u l.
    omega (arith, c.loop-node.invariant.numbered u (omega arith), c.loop-node.invariant.counted, bus_of-below c.loop-node.node c.args.links.now u (omega arith))
