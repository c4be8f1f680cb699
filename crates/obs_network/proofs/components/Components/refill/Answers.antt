use Rattle.std.proofs.Common.{length, take, ap, ◌∙◌, arith}
use Rattle.obs_graph.specs.Positions.{present}
use Rattle.obs_graph.proofs.Stored.{written_back}
use Rattle.obs_network.specs.Components.{absolute_of, component_count, energised_of, sizes_of}
use Rattle.obs_network.specs.Network.{Components}
use Rattle.obs_network.proofs.Grouping.{grouped_whole}
use Rattle.obs_network.proofs.components.Components.refill.Goals as goal

pub invariant_of-self : goal.invariant_of-self
invariant_of-self c =
    let g = c.group-count in
    let k = c.mark in
    let s = c.self.inside in
    let v = c.self.invariant in
    let n = length c.args.firsts.now in
    let small = v.small in
    let room = c.requires.room in
    let most = ap (λ (g : Components). g.most_buses) c.self.view_is in
    let first_len = v.first_len in
    let sizes_len = v.sizes_len in
    let energised_len = v.energised_len in
    let absolute_len = v.absolute_len in
    let a1 = g.auto.numbers in
    let a2 = g.auto.first_buses in
    let a3 = g.auto.sizes in
    let a4 = k.auto.energised in
    let a5 = k.auto.absolute in
    rw (
      written_back s.numbers.len g.new.numbers s.numbers.items (c.group-count.auto.numbers ∙ ap length c.deref_mut.ensures.value) s.numbers.ok.0,
      written_back s.first_buses.len g.new.first_buses s.first_buses.items (c.group-count.auto.first_buses ∙ ap length c.deref_mut-2.ensures.value) s.first_buses.ok.0,
      written_back s.sizes.len g.new.sizes s.sizes.items (c.group-count.auto.sizes ∙ ap length c.deref_mut-3.ensures.value) s.sizes.ok.0,
      written_back s.energised.len k.new.energised s.energised.items (c.mark.auto.energised ∙ ap length c.deref_mut-4.ensures.value) s.energised.ok.0,
      written_back s.absolute.len k.new.absolute s.absolute.items (c.mark.auto.absolute ∙ ap length c.deref_mut-5.ensures.value) s.absolute.ok.0,
    )
    (grouped_whole n g.result (present c.args.live.now) g.new.numbers g.new.first_buses g.new.sizes k.new.energised k.new.absolute
    (omega arith) (omega arith) (omega arith) (omega arith) (omega arith) (omega arith) g.ensures.few g.ensures.below g.ensures.firsts g.ensures.numbers g.ensures.count g.ensures.sizes)

pub mark-requires-clause-below : goal.mark-requires-clause-below
mark-requires-clause-below c =
    let g = c.group-count in
    let s = c.self.inside in
    let a1 = g.auto.numbers in
    rw (c.requires.buses, c.deref.ensures.value, written_back s.numbers.len g.new.numbers s.numbers.items (c.group-count.auto.numbers ∙ ap length c.deref_mut.ensures.value) s.numbers.ok.0) g.ensures.below

pub returns-clause-of_buses : goal.returns-clause-of_buses
returns-clause-of_buses c =
    let g = c.group-count in
    let s = c.self.inside in
    let a1 = g.auto.numbers in
    rw (written_back s.numbers.len g.new.numbers s.numbers.items (c.group-count.auto.numbers ∙ ap length c.deref_mut.ensures.value) s.numbers.ok.0) g.ensures.numbers

pub returns-clause-first_buses : goal.returns-clause-first_buses
returns-clause-first_buses c =
    let g = c.group-count in
    let s = c.self.inside in
    let a1 = g.auto.first_buses in
    rw (written_back s.first_buses.len g.new.first_buses s.first_buses.items (c.group-count.auto.first_buses ∙ ap length c.deref_mut-2.ensures.value) s.first_buses.ok.0) g.ensures.first_buses

pub returns-clause-sizes : goal.returns-clause-sizes
returns-clause-sizes c =
    let g = c.group-count in
    let s = c.self.inside in
    let a1 = g.auto.numbers in
    let a2 = g.auto.sizes in
    rw (
      written_back s.sizes.len g.new.sizes s.sizes.items (c.group-count.auto.sizes ∙ ap length c.deref_mut-3.ensures.value) s.sizes.ok.0,
      written_back s.numbers.len g.new.numbers s.numbers.items (c.group-count.auto.numbers ∙ ap length c.deref_mut.ensures.value) s.numbers.ok.0,
    )
    (g.ensures.sizes ∙ ap (λ k. sizes_of k (take (length c.args.firsts.now) g.new.numbers)) g.ensures.count)

pub returns-clause-energised : goal.returns-clause-energised
returns-clause-energised c =
    let g = c.group-count in
    let s = c.self.inside in
    let n = length c.args.firsts.now in
    let a1 = g.auto.numbers in
    let a2 = c.mark.auto.energised in
    let whole = written_back s.numbers.len g.new.numbers s.numbers.items (c.group-count.auto.numbers ∙ ap length c.deref_mut.ensures.value) s.numbers.ok.0 in
    rw (written_back s.energised.len c.mark.new.energised s.energised.items (c.mark.auto.energised ∙ ap length c.deref_mut-4.ensures.value) s.energised.ok.0, whole)
    (c.mark.ensures.energised
    ∙ (ap (λ k. energised_of k (take c.args.buses.now.count c.deref.result.now) c.args.buses.now.buses c.args.nodes.now) g.ensures.count
    ∙ ap (λ xs. energised_of (component_count n (present c.args.live.now)) xs c.args.buses.now.buses c.args.nodes.now)
    (ap (λ k. take k c.deref.result.now) c.requires.buses ∙ ap (take n) (c.deref.ensures.value ∙ whole))))

pub returns-clause-absolute : goal.returns-clause-absolute
returns-clause-absolute c =
    let g = c.group-count in
    let s = c.self.inside in
    let n = length c.args.firsts.now in
    let a1 = g.auto.numbers in
    let a2 = c.mark.auto.absolute in
    let whole = written_back s.numbers.len g.new.numbers s.numbers.items (c.group-count.auto.numbers ∙ ap length c.deref_mut.ensures.value) s.numbers.ok.0 in
    rw (written_back s.absolute.len c.mark.new.absolute s.absolute.items (c.mark.auto.absolute ∙ ap length c.deref_mut-5.ensures.value) s.absolute.ok.0, whole)
    (c.mark.ensures.absolute
    ∙ (ap (λ k. absolute_of k (take c.args.buses.now.count c.deref.result.now) c.args.buses.now.buses c.args.nodes.now) g.ensures.count
    ∙ ap (λ xs. absolute_of (component_count n (present c.args.live.now)) xs c.args.buses.now.buses c.args.nodes.now)
    (ap (λ k. take k c.deref.result.now) c.requires.buses ∙ ap (take n) (c.deref.ensures.value ∙ whole))))

pub returns-clause-room : goal.returns-clause-room
returns-clause-room c =
    let g = c.group-count in
    let s = c.self.inside in
    let a1 = g.auto.numbers in
    let most = ap (λ (x : Components). x.most_buses) c.self.view_is in
    rw (written_back s.numbers.len g.new.numbers s.numbers.items (c.group-count.auto.numbers ∙ ap length c.deref_mut.ensures.value) s.numbers.ok.0) (omega (arith, a1, most))
