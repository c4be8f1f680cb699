use Rattle.std.proofs.Common.{◌≡◌, ◌<◌, ◌∙◌, sym, length, get_or, get_or-set_same, get_or-set_other, below_more, arith, subst, take, List, ℕ}
use Rattle.std.proofs.lemmas.List.{get_or_default}
use Rattle.obs_graph.specs.Positions.{present}
use Rattle.obs_graph.proofs.First.{first_joined-le}
use Rattle.obs_matroid.specs.Lists.{In}
use Rattle.obs_matroid.proofs.Contained.{All-from_In}
use Rattle.obs_network.specs.Components.{component_of, is_first_bus}
use Rattle.obs_network.proofs.Numbered.{component_of-below, component_next, component_counted_first, component_counted_other}
use Rattle.obs_network.proofs.Marked.{filtered_below, noted_first, noted_other, numbered_all}
use Rattle.obs_network.proofs.marks.number.Goals as goal
use Rattle.obs_network.proofs.marks.number.Goals.{then-first-bus, else-first-bus}

pub number_of-requires : goal.number_of-requires
number_of-requires c = record { first = omega (arith, c.requires.firsts c.loop-bus.bus (omega arith), first_joined-le (present c.args.live.now) c.loop-bus.bus) }

pub loop-bus-preserved : goal.loop-bus-preserved
loop-bus-preserved c =
    let live = present c.args.live.now in
    let bus = c.loop-bus.bus in
    let count = c.loop-bus.count in
    let first = c.requires.firsts bus (omega arith) in
    let here : bus < length c.loop-bus.numbers = omega arith in
    let is : c.number_of.result ≡ component_of live bus = component_next live c.loop-bus.numbers bus (get_or c.args.firsts.now bus 0) count c.number_of.result first c.loop-bus.invariant.numbered c.loop-bus.invariant.counted c.number_of.ensures.new c.number_of.ensures.known in
    record {
      numbered = below_more _ _
          (λ u l. get_or-set_other c.loop-bus.numbers bus u c.number_of.result 0 (omega arith) ∙ c.loop-bus.invariant.numbered u l)
          (get_or-set_same c.loop-bus.numbers bus c.number_of.result 0 here ∙ is);
      noted = elim c.if-first-bus.branch [
        | then-first-bus w ↦ rw (w.count-is, w.first_buses-is) (noted_first live c.loop-bus.first_buses bus count (omega arith) (sym first ∙ w.if-first-bus.true) c.loop-bus.invariant.noted)
        | else-first-bus w ↦ rw (w.count-is, w.first_buses-is) (noted_other live c.loop-bus.first_buses bus count (λ own. w.if-first-bus.false (first ∙ own)) c.loop-bus.invariant.noted)
      ];
      counted = elim c.if-first-bus.branch [
        | then-first-bus w ↦ w.count-is ∙ component_counted_first live bus count (sym first ∙ w.if-first-bus.true) c.loop-bus.invariant.counted
        | else-first-bus w ↦ w.count-is ∙ component_counted_other live bus count (λ own. w.if-first-bus.false (first ∙ own)) c.loop-bus.invariant.counted
      ];
      few = elim c.if-first-bus.branch [ then-first-bus w ↦ omega arith | else-first-bus w ↦ omega arith ];
    }

pub returns-clause-numbers : goal.returns-clause-numbers
returns-clause-numbers c = numbered_all (length c.args.firsts.now) (present c.args.live.now) c.loop-bus.numbers (omega arith) (λ u l. c.loop-bus.invariant.numbered u (omega arith))

pub returns-clause-below : goal.returns-clause-below
returns-clause-below c = λ k d l.
    let live = present c.args.live.now in
    omega (arith, get_or_default c.loop-bus.numbers k 0 d l, c.loop-bus.invariant.numbered k (omega arith), c.loop-bus.invariant.counted, component_of-below c.loop-bus.bus live k (omega arith))

pub returns-clause-firsts : goal.returns-clause-firsts
returns-clause-firsts c =
    let live = present c.args.live.now in
    All-from_In (λ b. b < length c.args.firsts.now) (take c.loop-bus.count c.loop-bus.first_buses)
    (λ b i. let h = filtered_below (is_first_bus live) 0 c.loop-bus.bus b (subst (λ (t : List ℕ). In b t) c.loop-bus.invariant.noted i) in omega (arith, h))
