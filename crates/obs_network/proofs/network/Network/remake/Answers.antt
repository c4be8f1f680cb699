use Rattle.std.proofs.Common.{◌+◌, ◌-◌, ◌*◌, ◌≤◌, ◌≡◌, ℕ, ◌∙◌, sym, ap, length, subst, arith, refl}
use Rattle.obs_graph.specs.Graph.{Graph}
use Rattle.obs_switch.specs.Held.{Buses}
use Rattle.obs_network.specs.declared.rebuild.Known.{Known}
use Rattle.obs_network.specs.inner.Edited.{IsKnown}
use Rattle.obs_network.specs.Network.{Network, Rows, case_needed, network_of}
use Rattle.obs_network.proofs.Items.{meters-in_range, offered-in_range}
use Rattle.obs_network.proofs.OfCase.{case_bus_count-le, case_component_count-le, case_vertex_count-le, few_nodes, length-case_components, length-case_first_buses, length-case_meters}
use Rattle.obs_network.proofs.Whole.{labelled_is, grouped_is, shape_is, items_are, rows_are, network_is}
use Rattle.std.proofs.lemmas.Bool.{false≢true}
use Rattle.obs_network.proofs.network.Network.remake.Goals as goal
use Rattle.obs_graph.proofs.Stored.{written_back}

-- sums, bounds and differences of numbers that are equal
sums : (a b m n : ℕ) → a ≡ b → m ≡ n → a + m ≡ b + n
sums a b m n one other = omega (arith, one, other)

as_few : (m n : ℕ) → m ≡ n → n ≤ m
as_few m n same = omega (arith, same)

low : (b n r : ℕ) → b ≤ n → r ≡ n → b ≤ r
low b n r few same = omega (arith, few, same)

low_twice : (b n r m : ℕ) → b ≤ n → r ≡ n → m ≡ 2 * r → b ≤ m
low_twice b n r m few same twice = omega (arith, few, same, twice)

still_fewer : (a b m n : ℕ) → m ≡ a → n ≡ b → a ≤ b → m ≤ n
still_fewer a b m n one other few = omega (arith, one, other, few)

still_left : (a b m n k : ℕ) → m ≡ a → n ≡ b → b - a ≡ k → n - m ≡ k
still_left a b m n k one other left = omega (arith, one, other, left)

all_items : (a b m n : ℕ) → b ≤ a → b ≡ m → a - b ≡ n → a ≡ m + n
all_items a b m n few one left = omega (arith, few, one, left)

pub relabel_unless-requires-clause-kept : goal.relabel_unless-requires-clause-kept
relabel_unless-requires-clause-kept c = λ known.
    let same = ap (λ (n : Network). n.buses) c.self.view_is ∙ subst (λ (k : Known). IsKnown k c.args.self.now c.args.case.now) known c.requires.known in
    (ap (λ (b : Buses). b.buses) same, ap (λ (b : Buses). b.count) same)

pub find_components-requires-clause-vertices : goal.find_components-requires-clause-vertices
find_components-requires-clause-vertices c =
    let rows = ap (λ (n : Network). n.rows) c.self.view_is ∙ c.requires.rows in
    let nodes = ap (λ (r : Rows). r.nodes) rows in
    low_twice _ _ _ _ (case_bus_count-le c.args.case.now) nodes c.self.invariant.vertices_room

pub find_components-requires-clause-room : goal.find_components-requires-clause-room
find_components-requires-clause-room c =
    let rows = ap (λ (n : Network). n.rows) c.self.view_is ∙ c.requires.rows in
    low _ _ _ (case_bus_count-le c.args.case.now) (ap (λ (r : Rows). r.nodes) rows)

pub find_components-requires-clause-search_room : goal.find_components-requires-clause-search_room
find_components-requires-clause-search_room c =
    let rows = ap (λ (n : Network). n.rows) c.self.view_is ∙ c.requires.rows in
    let nodes = ap (λ (r : Rows). r.nodes) rows in
    low _ _ _ (case_bus_count-le c.args.case.now) (c.self.invariant.search_room ∙ nodes)

pub refill_graph-requires-clause-vertices : goal.refill_graph-requires-clause-vertices
refill_graph-requires-clause-vertices c =
    let rows = ap (λ (n : Network). n.rows) c.self.view_is ∙ c.requires.rows in
    let nodes = ap (λ (r : Rows). r.nodes) rows in
    let room = c.self.invariant.vertices_room in
    omega (arith, nodes, room, ap (λ (g : Graph). g.most_vertices) c.find_components.ensures.graph, case_vertex_count-le c.args.case.now)

pub refill-requires-clause-vertices : goal.refill-requires-clause-vertices
refill-requires-clause-vertices c =
    let t = c.args.case.now in
    omega (arith, c.refill_graph.ensures.graph.vertices, ap (λ l. length l) c.find_components.ensures.components.of_buses, length-case_components t, ap (λ l. length l) c.find_components.ensures.components.first_buses, length-case_first_buses t)

pub refill-requires-clause-in_range : goal.refill-requires-clause-in_range
refill-requires-clause-in_range c =
    let kept = c.refill_graph.ensures in
    rw c.refill_items.ensures.meters (meters-in_range c.args.case.now c.find_live.ensures.valid c.refill_graph.new.graph kept.graph.vertices kept.graph.ends)

pub refill-requires-clause-meters : goal.refill-requires-clause-meters
refill-requires-clause-meters c =
    let rows = ap (λ (n : Network). n.rows) c.self.view_is ∙ c.requires.rows in
    let meters = ap (λ (r : Rows). r.meters) rows in
    let room = c.self.invariant.listed_meters in
    omega (arith, meters, room, ap length c.refill_items.ensures.meters, length-case_meters c.args.case.now)

pub refill-requires-clause-components : goal.refill-requires-clause-components
refill-requires-clause-components c =
    let t = c.args.case.now in
    let rows = ap (λ (n : Network). n.rows) c.self.view_is ∙ c.requires.rows in
    let nodes = ap (λ (r : Rows). r.nodes) rows in
    let room = c.self.invariant.listed_components in
    omega (arith, nodes, room, ap length c.find_components.ensures.components.first_buses, length-case_first_buses t, case_component_count-le t, case_bus_count-le t)

pub needed-self-inside-requires : goal.needed-self-inside-requires
needed-self-inside-requires c =
    let rows = ap (λ (n : Network). n.rows) c.self.view_is ∙ c.requires.rows in
    let nodes = ap (λ (r : Rows). r.nodes) rows in
    record { few = omega (arith, nodes, c.find_components.ensures.room, few_nodes c.args.case.now c.find_live.ensures.valid) }

-- where the number of buses tells that nothing changed
pub invariant_of-self : goal.invariant_of-self
invariant_of-self c =
    let s = c.self.inside in
    let v = c.self.invariant in
    let links = c.relabel_unless.auto.links in
    let of = c.relabel_unless.ensures in
    let count = (of.stay c.if-relabel_unless.true).1 in
    rw (written_back s.links.len c.relabel_unless.new.links s.links.items (c.relabel_unless.auto.links ∙ ap length c.deref_mut.ensures.value) s.links.ok.0)
    record {
      buses_room = of.room ∙ v.buses_room;
      vertices_room = v.vertices_room;
      branches_room = v.branches_room;
      kept_len = v.kept_len;
      kept_ends = v.kept_ends;
      touches_len = v.touches_len;
      fewer = v.fewer;
      search_room = v.search_room;
      sides_room = v.sides_room;
      vertices = omega (arith, v.vertices, of.count, count);
      of_buses = omega (arith, v.of_buses, of.count, count);
      meters_in_range = v.meters_in_range;
      offered_in_range = v.offered_in_range;
      listed_meters = v.listed_meters;
      listed_components = v.listed_components;
      listed_count = v.listed_count;
      lists = v.lists;
    }

pub returns-then-relabel_unless : goal.returns-then-relabel_unless
returns-then-relabel_unless c =
    let t = c.args.case.now in
    let s = c.self.inside in
    let v = c.self.invariant in
    let of = c.relabel_unless.ensures in
    let told = of.stay c.if-relabel_unless.true in
    let view = c.self.view_is in
    let same = subst (λ (k : Known). IsKnown k c.args.self.now t) told.0 c.requires.known (told.1 ∙ ap (λ (n : Network). n.buses.count) view) in
    let is = view ∙ same in
    let rows = ap (λ (n : Network). n.rows) is in
    let links = c.relabel_unless.auto.links in
    let wrote_links = ap length (written_back s.links.len c.relabel_unless.new.links s.links.items (c.relabel_unless.auto.links ∙ ap length c.deref_mut.ensures.value) s.links.ok.0) in
    let switches = ap (λ (r : Rows). r.switches) rows in
    let nodes = ap (λ (r : Rows). r.nodes) rows in
    let whole = network_is _ (network_of t)
    (rows_are _ _ nodes (omega (arith, wrote_links, links, switches)) (ap (λ (r : Rows). r.branches) rows) (ap (λ (r : Rows). r.meters) rows) (ap (λ (r : Rows). r.candidates) rows))
    (labelled_is _ _ of.buses of.count (of.room ∙ (v.buses_room ∙ nodes)))
    (ap (λ (n : Network). n.components) is) (ap (λ (n : Network). n.graph) is) (ap (λ (n : Network). n.meters) is) (ap (λ (n : Network). n.offered) is) (ap (λ (n : Network). n.needed) is) in
    record { whole = whole; same = λ yes. whole ∙ sym same }

pub invariant_of-self-2 : goal.invariant_of-self-2
invariant_of-self-2 c =
    let t = c.args.case.now in
    let valid = c.find_live.ensures.valid in
    let s = c.self.inside in
    let v = c.self.invariant in
    let found = c.find_components.ensures in
    let most_vertices = ap (λ (g : Graph). g.most_vertices) found.graph in
    let most_branches = ap (λ (g : Graph). g.most_branches) found.graph in
    let kept = c.refill_graph.ensures in
    let items = c.refill_items.ensures in
    let links = c.relabel_unless.auto.links in
    let live = c.find_live.auto.live ∙ ap length c.deref_mut-2.ensures.value in
    let keeps = c.refill_graph.auto.kept ∙ ap length c.deref_mut-3.ensures.value in
    let touches = c.refill_items.auto.touches ∙ ap length c.deref_mut-4.ensures.value in
    let listed = c.refill.ensures in
    rw (
      written_back s.links.len c.relabel_unless.new.links s.links.items (c.relabel_unless.auto.links ∙ ap length c.deref_mut.ensures.value) s.links.ok.0,
      written_back s.live.len c.find_live.new.live s.live.items (c.find_live.auto.live ∙ ap length c.deref_mut-2.ensures.value) s.live.ok.0,
      written_back s.kept.len c.refill_graph.new.kept s.kept.items (c.refill_graph.auto.kept ∙ ap length c.deref_mut-3.ensures.value) s.kept.ok.0,
      written_back s.touches.len c.refill_items.new.touches s.touches.items (c.refill_items.auto.touches ∙ ap length c.deref_mut-4.ensures.value) s.touches.ok.0,
    )
    record {
      buses_room = c.relabel_unless.ensures.room ∙ (v.buses_room ∙ sym found.room);
      vertices_room = kept.room.most_vertices ∙ (most_vertices ∙ (v.vertices_room ∙ ap (λ n. 2 * n) (sym found.room)));
      branches_room = kept.room.most_branches ∙ (most_branches ∙ (v.branches_room ∙ sums _ _ _ _ (sym live) (sym items.most_offered)));
      kept_len = keeps ∙ (v.kept_len ∙ sums _ _ _ _ (sym live) (sym items.most_offered));
      kept_ends = kept.kept_ends;
      touches_len = touches ∙ (v.touches_len ∙ sym items.most_offered);
      fewer = still_fewer _ _ _ _ items.most_meters items.most_offered v.fewer;
      search_room = found.search_room ∙ (v.search_room ∙ sym found.room);
      sides_room = v.sides_room ∙ ap (λ n. 2 * n) (sym found.room);
      vertices = kept.graph.vertices ∙ sums _ _ _ _ (sym c.relabel_unless.ensures.count) (sym (ap length found.components.first_buses ∙ length-case_first_buses t));
      of_buses = ap length found.components.of_buses ∙ (length-case_components t ∙ sym c.relabel_unless.ensures.count);
      meters_in_range = rw items.meters (meters-in_range t valid c.refill_graph.new.graph kept.graph.vertices kept.graph.ends);
      offered_in_range = rw items.offered (offered-in_range t valid c.refill_graph.new.graph kept.graph.vertices kept.graph.ends);
      listed_meters = listed.most_meters ∙ (v.listed_meters ∙ sym items.most_meters);
      listed_components = listed.most_components ∙ (v.listed_components ∙ sym found.room);
      listed_count = listed.components;
      lists = listed.lists;
    }

pub returns-clause-whole : goal.returns-clause-whole
unfolding case_needed
returns-clause-whole c =
    let t = c.args.case.now in
    let s = c.self.inside in
    let v = c.self.invariant in
    let found = c.find_components.ensures in
    let most_vertices = ap (λ (g : Graph). g.most_vertices) found.graph in
    let most_branches = ap (λ (g : Graph). g.most_branches) found.graph in
    let kept = c.refill_graph.ensures in
    let items = c.refill_items.ensures in
    let rows = ap (λ (n : Network). n.rows) c.self.view_is ∙ c.requires.rows in
    let nodes = ap (λ (r : Rows). r.nodes) rows in
    let branches = ap (λ (r : Rows). r.branches) rows in
    let meters = ap (λ (r : Rows). r.meters) rows in
    let candidates = ap (λ (r : Rows). r.candidates) rows in
    let switches = ap (λ (r : Rows). r.switches) rows in
    let links = c.relabel_unless.auto.links ∙ ap length c.deref_mut.ensures.value in
    let live = c.find_live.auto.live ∙ ap length c.deref_mut-2.ensures.value in
    let offered = all_items _ _ _ _ v.fewer meters candidates in
    let wrote_links = ap length (written_back s.links.len c.relabel_unless.new.links s.links.items (c.relabel_unless.auto.links ∙ ap length c.deref_mut.ensures.value) s.links.ok.0) in
    let wrote_live = ap length (written_back s.live.len c.find_live.new.live s.live.items (c.find_live.auto.live ∙ ap length c.deref_mut-2.ensures.value) s.live.ok.0) in
    let count = length-case_first_buses t in
    network_is _ _
    (rows_are _ _ (found.room ∙ nodes) (wrote_links ∙ (links ∙ switches)) (wrote_live ∙ (live ∙ branches)) (items.most_meters ∙ meters)
    (still_left _ _ _ _ _ items.most_meters items.most_offered candidates))
    (labelled_is _ _ c.relabel_unless.ensures.buses c.relabel_unless.ensures.count (c.relabel_unless.ensures.room ∙ (v.buses_room ∙ nodes)))
    (grouped_is _ _ found.components.of_buses found.components.first_buses found.components.sizes found.components.energised found.components.absolute (found.room ∙ nodes))
    (shape_is _ _ kept.graph.vertices kept.graph.ends (kept.room.most_vertices ∙ (most_vertices ∙ (v.vertices_room ∙ ap (λ n. 2 * n) nodes))) (kept.room.most_branches ∙ (most_branches ∙ (v.branches_room ∙ sums _ _ _ _ branches offered))))
    (items_are _ _ items.meters (items.most_meters ∙ meters))
    (items_are _ _ items.offered (items.most_offered ∙ offered))
    (c.needed-self-inside.ensures.needed ∙ rw (found.components.sizes, found.components.energised, found.components.absolute, found.components.first_buses, count) refl)

pub relabel_unless-requires-clause-links : goal.relabel_unless-requires-clause-links
relabel_unless-requires-clause-links c =
    let rows = ap (λ (n : Network). n.rows) c.self.view_is ∙ c.requires.rows in
    omega (arith, ap (λ (r : Rows). r.switches) rows, ap length c.deref_mut.ensures.value)

pub find_live-requires-clause-room : goal.find_live-requires-clause-room
find_live-requires-clause-room c =
    let rows = ap (λ (n : Network). n.rows) c.self.view_is ∙ c.requires.rows in
    ap length c.deref_mut-2.ensures.value ∙ ap (λ (r : Rows). r.branches) rows

pub find_components-requires-clause-live : goal.find_components-requires-clause-live
find_components-requires-clause-live c =
    let s = c.self.inside in
    c.deref.ensures.value
    ∙ (written_back s.live.len c.find_live.new.live s.live.items (c.find_live.auto.live ∙ ap length c.deref_mut-2.ensures.value) s.live.ok.0 ∙ c.find_live.ensures.live)

pub find_components-requires-clause-branches : goal.find_components-requires-clause-branches
find_components-requires-clause-branches c =
    let s = c.self.inside in
    let live = c.find_live.auto.live ∙ ap length c.deref_mut-2.ensures.value in
    let whole = ap length (c.deref.ensures.value ∙ written_back s.live.len c.find_live.new.live s.live.items live s.live.ok.0) in
    omega (arith, whole, live, c.self.invariant.branches_room)

pub refill_graph-requires-clause-live : goal.refill_graph-requires-clause-live
refill_graph-requires-clause-live c =
    let s = c.self.inside in
    c.deref-2.ensures.value
    ∙ (written_back s.live.len c.find_live.new.live s.live.items (c.find_live.auto.live ∙ ap length c.deref_mut-2.ensures.value) s.live.ok.0 ∙ c.find_live.ensures.live)

pub refill_graph-requires-clause-branches : goal.refill_graph-requires-clause-branches
refill_graph-requires-clause-branches c =
    let v = c.self.invariant in
    omega (arith, ap length c.deref_mut-3.ensures.value, v.kept_len, v.branches_room, ap (λ (g : Graph). g.most_branches) c.find_components.ensures.graph)

pub refill_items-requires-clause-touches : goal.refill_items-requires-clause-touches
refill_items-requires-clause-touches c =
    let rows = ap (λ (n : Network). n.rows) c.self.view_is ∙ c.requires.rows in
    let v = c.self.invariant in
    omega (arith, ap length c.deref_mut-4.ensures.value, v.touches_len, v.fewer, ap (λ (r : Rows). r.meters) rows, ap (λ (r : Rows). r.candidates) rows)

pub refill_items-requires-clause-offered : goal.refill_items-requires-clause-offered
refill_items-requires-clause-offered c =
    let rows = ap (λ (n : Network). n.rows) c.self.view_is ∙ c.requires.rows in
    omega (arith, c.self.invariant.fewer, ap (λ (r : Rows). r.meters) rows, ap (λ (r : Rows). r.candidates) rows)

pub refill_items-requires-clause-meters : goal.refill_items-requires-clause-meters
refill_items-requires-clause-meters c = as_few _ _ (ap (λ (n : Network). n.rows.meters) c.self.view_is ∙ ap (λ (r : Rows). r.meters) c.requires.rows)

pub returns-clause-same : goal.returns-clause-same
returns-clause-same c = λ same. absurd (false≢true same)

pub relabel_unless-requires-clause-room : goal.relabel_unless-requires-clause-room
relabel_unless-requires-clause-room c =
    as_few _ _ (c.self.invariant.buses_room ∙ (ap (λ (n : Network). n.rows.nodes) c.self.view_is ∙ ap (λ (r : Rows). r.nodes) c.requires.rows))

pub find_live-requires-clause-buses : goal.find_live-requires-clause-buses
find_live-requires-clause-buses c = c.relabel_unless.ensures.buses

pub refill_graph-requires-clause-kept : goal.refill_graph-requires-clause-kept
refill_graph-requires-clause-kept c =
    let s = c.self.inside in
    let v = c.self.invariant in
    let rows = ap (λ (n : Network). n.rows) c.self.view_is ∙ c.requires.rows in
    let live = c.find_live.auto.live ∙ ap length c.deref_mut-2.ensures.value in
    let whole = ap length (c.deref-2.ensures.value ∙ written_back s.live.len c.find_live.new.live s.live.items live s.live.ok.0) in
    let offered = all_items _ _ _ _ v.fewer (ap (λ (r : Rows). r.meters) rows) (ap (λ (r : Rows). r.candidates) rows) in
    ap length c.deref_mut-3.ensures.value ∙ (v.kept_len ∙ sums _ _ _ _ (sym (whole ∙ live)) offered)

pub find_components-requires-clause-buses : goal.find_components-requires-clause-buses
find_components-requires-clause-buses c = record { buses = c.relabel_unless.ensures.buses; count = c.relabel_unless.ensures.count }

pub refill_graph-requires-clause-found : goal.refill_graph-requires-clause-found
refill_graph-requires-clause-found c =
    let found = c.find_components.ensures in
    let nodes = ap (λ (n : Network). n.rows.nodes) c.self.view_is ∙ ap (λ (r : Rows). r.nodes) c.requires.rows in
    record {
      few = omega (arith, nodes, found.room, few_nodes c.args.case.now c.find_live.ensures.valid);
      buses = record { buses = c.relabel_unless.ensures.buses; count = c.relabel_unless.ensures.count };
      components = found.components;
    }

pub refill_graph-requires-clause-before : goal.refill_graph-requires-clause-before
refill_graph-requires-clause-before c = let graph = c.find_components.ensures.graph in record {
  ends = ap (λ (g : Graph). g.ends) graph ∙ (c.deref.ensures.value ∙ sym c.deref-2.ensures.value);
  vertices = ap (λ (g : Graph). g.vertices) graph;
}

pub refill_items-requires-clause-buses : goal.refill_items-requires-clause-buses
refill_items-requires-clause-buses c = record { buses = c.relabel_unless.ensures.buses; count = c.relabel_unless.ensures.count }

pub refill_items-requires-clause-graph : goal.refill_items-requires-clause-graph
refill_items-requires-clause-graph c = c.refill_graph.ensures.graph
