use Rattle.std.proofs.Common.{◌≡◌, ℕ, suc, ◌++◌, List, length, take, drop, sym, ap, ◌∙◌, subst, arith}
use Rattle.std.proofs.lemmas.List.{take_all}
use Rattle.obs_graph.proofs.Stored.{written_back}
use Rattle.obs_case.specs.Tables.{Tables}
use Rattle.obs_switch.specs.declared.link.Link.{Link}
use Rattle.obs_switch.specs.Buses.{bus_count, buses_of}
use Rattle.obs_switch.specs.inner.Buses.{LinksBelow}
use Rattle.obs_switch.specs.inner.Groups.{AreGroups}
use Rattle.obs_switch.proofs.FirstNodes.{bus_count-le}
use Rattle.obs_station.specs.inner.Held.{Stations}
use Rattle.obs_station.specs.Stations.{all_links, case_station_count, case_stations}
use Rattle.obs_station.proofs.Grouped.{keys-are}
use Rattle.obs_station.proofs.Stationed.{links-below}
use Rattle.obs_station.proofs.stations.Stations.refill.Goals as goal
use Rattle.obs_station.proofs.stations.Stations.refill.Goals.{After-deref, After-relabel, After-write_members}

-- what the array of links holds once it was written
links_back : (c : After-deref) → take c.self.inside.links.len (c.write_links.new.links ++ drop (length c.write_links.new.links) c.self.inside.links.items) ≡ c.write_links.new.links
links_back c =
    let ins = c.self.inside.links in
    let same : length c.write_links.new.links ≡ length ins.items = c.write_links.auto.links ∙ ap length c.deref_mut.ensures.value in
    written_back ins.len c.write_links.new.links ins.items same ins.ok.0

links_are : (c : After-deref) → c.deref.result.now ≡ all_links c.args.present.now.switches
links_are c = c.deref.ensures.value ∙ (links_back c ∙ (c.write_links.ensures.links ∙ (ap all_links c.switches.ensures.rows ∙ ap (λ (t : Tables). all_links t.switches) c.case-case.ensures.case)))

nodes_are : (c : After-deref) → length c.nodes.result.now ≡ length c.args.present.now.nodes
nodes_are c = ap length c.nodes.ensures.rows ∙ ap (λ (t : Tables). length t.nodes) c.case-case.ensures.case

stations_are : (c : After-relabel) → c.relabel.new.self.buses ≡ case_stations c.args.present.now
stations_are c =
    c.relabel.ensures.buses
    ∙ (ap (λ (n : ℕ). buses_of n c.deref.result.now) (nodes_are c.before) ∙ ap (λ (ls : List Link). buses_of (length c.args.present.now.nodes) ls) (links_are c.before))

count_is : (c : After-relabel) → c.relabel.new.self.count ≡ case_station_count c.args.present.now
count_is c =
    c.relabel.ensures.count
    ∙ (ap (λ (n : ℕ). bus_count n c.deref.result.now) (nodes_are c.before) ∙ ap (λ (ls : List Link). bus_count (length c.args.present.now.nodes) ls) (links_are c.before))

pub relabel-requires-clause-room : goal.relabel-requires-clause-room
relabel-requires-clause-room c =
    let most = ap (λ (s : Stations). s.buses.most_nodes) c.self.view_is in
    omega (arith, most, c.requires.nodes, nodes_are c)

pub relabel-requires-clause-ends : goal.relabel-requires-clause-ends
relabel-requires-clause-ends c =
    let t = c.args.present.now in
    subst (λ (n : ℕ). LinksBelow n c.deref.result.now) (sym (nodes_are c))
    (subst (λ (ls : List Link). LinksBelow (length t.nodes) ls) (sym (links_are c)) (links-below t c.case-case.ensures.valid))

pub write_members-requires-clause-stations : goal.write_members-requires-clause-stations
write_members-requires-clause-stations c = stations_are (goal.at.write_members-requires-clause-stations c).After-relabel

pub write_members-requires-clause-count : goal.write_members-requires-clause-count
write_members-requires-clause-count c = count_is (goal.at.write_members-requires-clause-count c).After-relabel

pub write_members-requires-clause-one_each : goal.write_members-requires-clause-one_each
write_members-requires-clause-one_each c =
    let keys : length c.deref_mut-2.result.now ≡ length c.self.inside.keys.items = ap length c.deref_mut-2.ensures.value in
    let most = ap (λ (s : Stations). s.most_meters) c.self.view_is in
    omega (arith, keys, most, c.requires.meters)

pub write_members-requires-clause-members : goal.write_members-requires-clause-members
write_members-requires-clause-members c =
    let keys : length c.deref_mut-2.result.now ≡ length c.self.inside.keys.items = ap length c.deref_mut-2.ensures.value in
    let members : length c.deref_mut-3.result.now ≡ length c.self.inside.members.items = ap length c.deref_mut-3.ensures.value in
    omega (arith, keys, members, c.self.invariant.members_len)

pub write_members-requires-clause-starts : goal.write_members-requires-clause-starts
write_members-requires-clause-starts c =
    let t = c.args.present.now in
    let starts : length c.deref_mut-4.result.now ≡ length c.self.inside.starts.items = ap length c.deref_mut-4.ensures.value in
    let most = ap (λ (s : Stations). s.buses.most_nodes) c.self.view_is in
    let count = count_is (goal.at.write_members-requires-clause-starts c).After-relabel in
    omega (arith, starts, most, count, bus_count-le (length t.nodes) (all_links t.switches), c.requires.nodes, c.self.invariant.starts_len)

module _ (c : After-write_members) where
  keys_len : length c.write_members.new.keys ≡ length c.self.inside.keys.items
  keys_len = c.write_members.auto.keys ∙ ap length c.deref_mut-2.ensures.value

  members_len : length c.write_members.new.members ≡ length c.self.inside.members.items
  members_len = c.write_members.auto.members ∙ ap length c.deref_mut-3.ensures.value

  starts_len : length c.write_members.new.starts ≡ length c.self.inside.starts.items
  starts_len = c.write_members.auto.starts ∙ ap length c.deref_mut-4.ensures.value

  keys_back : take c.self.inside.keys.len (c.write_members.new.keys ++ drop (length c.write_members.new.keys) c.self.inside.keys.items) ≡ c.write_members.new.keys
  keys_back = written_back c.self.inside.keys.len c.write_members.new.keys c.self.inside.keys.items keys_len c.self.inside.keys.ok.0

  members_back : take c.self.inside.members.len (c.write_members.new.members ++ drop (length c.write_members.new.members) c.self.inside.members.items) ≡ c.write_members.new.members
  members_back = written_back c.self.inside.members.len c.write_members.new.members c.self.inside.members.items members_len c.self.inside.members.ok.0

  starts_back : take c.self.inside.starts.len (c.write_members.new.starts ++ drop (length c.write_members.new.starts) c.self.inside.starts.items) ≡ c.write_members.new.starts
  starts_back = written_back c.self.inside.starts.len c.write_members.new.starts c.self.inside.starts.items starts_len c.self.inside.starts.ok.0

  -- there are as many keys as meters
  keys_meters : length c.write_members.new.keys ≡ length c.args.present.now.meters
  keys_meters = let most = ap (λ (s : Stations). s.most_meters) c.self.view_is in omega (arith, keys_len, most, c.requires.meters)

pub invariant_of-self : goal.invariant_of-self
invariant_of-self c =
    let d = (goal.at.invariant_of-self c).After-write_members in
    let t = c.args.present.now in
    let i = c.self.invariant in
    let meters : length c.meters.result.now ≡ length t.meters = ap length c.meters.ensures.rows ∙ ap (λ (s : Tables). length s.meters) c.case-case.ensures.case in
    let count = count_is (goal.at.invariant_of-self c).After-relabel in
    let most = ap (λ (s : Stations). s.buses.most_nodes) c.self.view_is in
    let front : take (length c.meters.result.now) c.write_members.new.keys ≡ c.write_members.new.keys =
    take_all (length c.meters.result.now) c.write_members.new.keys (omega (arith, meters, keys_meters d)) in
    rw (keys_back d, members_back d, starts_back d)
    (record {
      small = omega (arith, keys_len d, i.small);
      fits = omega (arith, meters, keys_meters d);
      few = omega (arith, count, bus_count-le (length t.nodes) (all_links t.switches), c.requires.nodes, most, c.relabel.ensures.room);
      members_len = omega (arith, keys_len d, members_len d, i.members_len);
      starts_len = omega (arith, starts_len d, i.starts_len, c.relabel.ensures.room);
      groups =
          subst (λ (ks : List ℕ). AreGroups ks c.write_members.new.members c.write_members.new.starts (suc c.relabel.new.self.count)) (sym front) c.write_members.ensures.groups;
    })

pub returns-clause-stations : goal.returns-clause-stations
returns-clause-stations c = stations_are (goal.at.returns-clause-stations c).After-relabel

pub returns-clause-count : goal.returns-clause-count
returns-clause-count c = count_is (goal.at.returns-clause-count c).After-relabel

pub returns-clause-nodes : goal.returns-clause-nodes
returns-clause-nodes c = c.relabel.ensures.room ∙ ap (λ (s : Stations). s.buses.most_nodes) c.self.view_is

pub returns-clause-keys : goal.returns-clause-keys
returns-clause-keys c =
    let d = (goal.at.returns-clause-keys c).After-write_members in
    let t = c.args.present.now in
    let meters : length c.meters.result.now ≡ length t.meters = ap length c.meters.ensures.rows ∙ ap (λ (s : Tables). length s.meters) c.case-case.ensures.case in
    rw (keys_back d)
    (take_all (length c.meters.result.now) c.write_members.new.keys (omega (arith, meters, keys_meters d))
    ∙ keys-are t c.write_members.new.keys (keys_meters d) c.write_members.ensures.keys)

pub returns-clause-switches : goal.returns-clause-switches
returns-clause-switches c =
    let ins = c.self.inside.links in
    let same : length c.write_links.new.links ≡ length ins.items = c.write_links.auto.links ∙ ap length c.deref_mut.ensures.value in
    rw (links_back (goal.at.returns-clause-switches c).After-deref) (same ∙ ap (λ (s : Stations). s.switches) c.self.view_is)

pub returns-clause-meters : goal.returns-clause-meters
returns-clause-meters c =
    let d = (goal.at.returns-clause-meters c).After-write_members in
    rw (keys_back d) (keys_len d ∙ ap (λ (s : Stations). s.most_meters) c.self.view_is)
