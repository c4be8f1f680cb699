use Rattle.std.proofs.Common.{◌≡◌, ◌<◌, ℕ, length, sym, ap, ◌∙◌, subst, arith, List}
use Rattle.std.specs.Prelude.{slice_index}
use Rattle.obs_case.specs.declared.rows.Node.{Node}
use Rattle.obs_graph.proofs.Stored.{written_back}
use Rattle.obs_network.specs.inner.Components.{source_nodes}
use Rattle.obs_network.specs.Network.{Network, node_component}
use Rattle.obs_network.proofs.OfCase.{case_bus_count-le, case_component_count-le, length-case_buses, length-case_first_buses}
use Rattle.obs_outage.specs.inner.Feeds.{Feeds, bus_at, sources_at}
use Rattle.obs_outage.proofs.feeds.Feeds.count.Goals as goal

pub count_by_bus-requires-clause-nodes : goal.count_by_bus-requires-clause-nodes
count_by_bus-requires-clause-nodes c =
    let rows = ap (λ (xs : List Node). length xs) c.nodes-nodes.ensures.rows in
    let net = ap (λ (x : Network). length x.buses.buses) c.requires.network in
    omega (arith, rows, net, length-case_buses c.args.case.now)

pub count_by_bus-requires-clause-room : goal.count_by_bus-requires-clause-room
count_by_bus-requires-clause-room c =
    let net = ap (λ (x : Network). x.buses.count) c.requires.network in
    let room = ap (λ (f : Feeds). length f.of_buses) c.self.view_is ∙ c.requires.room.buses in
    omega (arith, net, room, case_bus_count-le c.args.case.now)

pub count_by_component-requires-clause-nodes : goal.count_by_component-requires-clause-nodes
count_by_component-requires-clause-nodes c =
    let rows = ap (λ (xs : List Node). length xs) c.nodes-nodes.ensures.rows in
    let net = ap (λ (x : Network). length x.buses.buses) c.requires.network in
    omega (arith, rows, net, length-case_buses c.args.case.now)

pub count_by_component-requires-clause-room : goal.count_by_component-requires-clause-room
count_by_component-requires-clause-room c =
    let net = ap (λ (x : Network). length x.components.first_buses) c.requires.network in
    let room = ap (λ (f : Feeds). length f.of_components) c.self.view_is ∙ c.requires.room.components in
    let t = c.args.case.now in
    omega (arith, net, room, length-case_first_buses t, case_component_count-le t, case_bus_count-le t)

pub returns : goal.returns
returns c =
    let t = c.args.case.now in
    let net = c.requires.network in
    let rows = c.nodes-nodes.ensures.rows in
    let here-of_buses = c.self.inside.of_buses in
    let held-of_buses : length c.deref_mut.result.now ≡ length c.args.self.now.of_buses = ap (λ (xs : List ℕ). length xs) c.deref_mut.ensures.value ∙ ap (λ (x : Feeds). length x.of_buses) c.self.view_is in
    let many-of_buses = held-of_buses ∙ c.requires.room.buses in
    let back-of_buses = written_back here-of_buses.len c.count_by_bus.new.counts here-of_buses.items (c.count_by_bus.auto.counts ∙ ap (λ (xs : List ℕ). length xs) c.deref_mut.ensures.value) here-of_buses.ok.0 in
    let room-of_buses = ap (λ (xs : List ℕ). length xs) back-of_buses ∙ c.count_by_bus.auto.counts in
    let here-of_components = c.self.inside.of_components in
    let held-of_components : length c.deref_mut-2.result.now ≡ length c.args.self.now.of_components = ap (λ (xs : List ℕ). length xs) c.deref_mut-2.ensures.value ∙ ap (λ (x : Feeds). length x.of_components) c.self.view_is in
    let many-of_components = held-of_components ∙ c.requires.room.components in
    let back-of_components = written_back here-of_components.len c.count_by_component.new.counts here-of_components.items (c.count_by_component.auto.counts ∙ ap (λ (xs : List ℕ). length xs) c.deref_mut-2.ensures.value) here-of_components.ok.0 in
    let room-of_components = ap (λ (xs : List ℕ). length xs) back-of_components ∙ c.count_by_component.auto.counts in
    record {
      counted = record {
        room = record { buses = room-of_buses ∙ many-of_buses; components = room-of_components ∙ many-of_components };
        at_buses = λ b low.
            ap (λ (xs : List ℕ). slice_index xs b) back-of_buses ∙ c.count_by_bus.ensures.counts b (subst (λ (k : ℕ). b < k) (sym many-of_buses) low)
            ∙ ap (λ (x : Network). sources_at (λ u. slice_index x.buses.buses u) (source_nodes c.nodes-nodes.result.now) b) net
            ∙ ap (λ (xs : List Node). sources_at (bus_at t) (source_nodes xs) b) rows;
        at_components = λ k low.
            ap (λ (xs : List ℕ). slice_index xs k) back-of_components ∙ c.count_by_component.ensures.counts k (subst (λ (n : ℕ). k < n) (sym many-of_components) low)
            ∙ ap (λ (x : Network). sources_at (λ u. slice_index x.components.of_buses (slice_index x.buses.buses u)) (source_nodes c.nodes-nodes.result.now) k) net
            ∙ ap (λ (xs : List Node). sources_at (node_component t) (source_nodes xs) k) rows;
      };
    }
