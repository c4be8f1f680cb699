use Rattle.std.proofs.Common.{◌≡◌, ◌++◌, length, take, drop, ap, ◌∙◌, arith}
use Rattle.obs_graph.proofs.Stored.{written_back}
use Rattle.obs_switch.proofs.FirstNodes.{bus_count-le}
use Rattle.obs_meter.specs.Held.{Meters}
use Rattle.obs_network.specs.Network.{Rows}
use Rattle.obs_network.proofs.OfCase.{length-case_meters}
use Rattle.obs_station.specs.Stations.{all_links, losses_of}
use Rattle.obs_station.specs.inner.Stations.{StationWork}
use Rattle.obs_station.proofs.Finding.{IsOf, few-of_case, found-of_case, list-of_case, ready-of_case}
use Rattle.obs_station.proofs.losses.StationWork.find_losses.Given.{Over}
use Rattle.obs_station.proofs.losses.StationWork.find_losses.Goals as goal
use Rattle.obs_station.proofs.losses.StationWork.find_losses.Goals.{After-write_losses-self-inside}

pub refill-requires-2 : goal.refill-requires-2
refill-requires-2 g c =
    let t = c.args.present.now in
    let meters : c.self.inside.rows.meters ≡ length t.meters = ap (λ (w : StationWork). w.rows.meters) c.self.view_is ∙ ap (λ (r : Rows). r.meters) c.requires.rows in
    let all : length c.touches.result.now ≡ length t.meters =
    ap length c.touches.ensures.touches ∙ (ap (λ (m : Meters). length m.touches) c.meters-meters.ensures.meters ∙ length-case_meters t) in
    record { room = omega (arith, meters, all, c.self.invariant.left) }

pub write_losses-self-inside-requires-clause-ready : goal.write_losses-self-inside-requires-clause-ready
write_losses-self-inside-requires-clause-ready g c =
    ready-of_case
    (record {
      graph = c.graph.ensures.graph;
      meters = c.meters-meters.ensures.meters;
      stations = c.refill.ensures.stations;
      count = c.refill.ensures.count;
      keys = c.refill.ensures.keys;
    }) c.graph.ensures.valid c.graph.ensures.branches c.meters-meters.ensures.in_range c.requires.longest c.self.invariant.sizes (ap (λ (w : StationWork). w.rows) c.self.view_is ∙ c.requires.rows)
    (ap (λ (m : Meters). m.touches) c.refill-2.ensures.whole ∙ c.touches.ensures.touches)

pub write_losses-self-inside-requires-clause-places : goal.write_losses-self-inside-requires-clause-places
write_losses-self-inside-requires-clause-places g c =
    let t = c.args.present.now in
    let meters = ap (λ (w : StationWork). w.rows.meters) c.self.view_is ∙ ap (λ (r : Rows). r.meters) c.requires.rows in
    let nodes = ap (λ (w : StationWork). w.rows.nodes) c.self.view_is ∙ ap (λ (r : Rows). r.nodes) c.requires.rows in
    let all = ap (λ (m : Meters). length m.touches) c.meters-meters.ensures.meters ∙ length-case_meters t in
    record {
      meters = omega (arith, c.self.invariant.places, meters, all);
      nodes = omega (arith, c.self.invariant.ranks, nodes, c.refill.ensures.count, bus_count-le (length t.nodes) (all_links t.switches));
    }

module _ (g : Over) (c : After-write_losses-self-inside g) where
  of : IsOf c.args.present.now c.graph.result.now c.meters-meters.result.now c.refill.new.self
  of = record {
    graph = c.graph.ensures.graph;
    meters = c.meters-meters.ensures.meters;
    stations = c.refill.ensures.stations;
    count = c.refill.ensures.count;
    keys = c.refill.ensures.keys;
  }

  entries_len : length c.write_losses-self-inside.new.entries ≡ length c.self.inside.entries.items
  entries_len = c.write_losses-self-inside.auto.entries ∙ ap length c.deref_mut.ensures.value

  -- the array of entries, once it was written
  entries_back : take c.self.inside.entries.len (c.write_losses-self-inside.new.entries ++ drop (length c.write_losses-self-inside.new.entries) c.self.inside.entries.items)
      ≡ c.write_losses-self-inside.new.entries
  entries_back = written_back c.self.inside.entries.len c.write_losses-self-inside.new.entries c.self.inside.entries.items entries_len c.self.inside.entries.ok.0

  found_is : c.write_losses-self-inside.result ≡ length (losses_of c.args.present.now)
  found_is =
      let all : length c.deref_mut.result.now ≡ length c.self.inside.entries.items = ap length c.deref_mut.ensures.value in
      found-of_case of c.write_losses-self-inside.new.entries c.write_losses-self-inside.result (omega (arith, c.write_losses-self-inside.ensures.few, all, entries_len)) c.write_losses-self-inside.ensures.losses

pub returns-clause-losses : goal.returns-clause-losses
returns-clause-losses g c =
    let d = (goal.at.returns-clause-losses g c).After-write_losses-self-inside in
    rw (entries_back g d) (c.write_losses-self-inside.ensures.losses ∙ list-of_case (of g d))

pub returns-clause-ticks : goal.returns-clause-ticks
returns-clause-ticks g c =
    let d = (goal.at.returns-clause-ticks g c).After-write_losses-self-inside in
    omega (arith, c.write_losses-self-inside.ensures.ticks, few-of_case (of g d), found_is g d)

pub returns-clause-turns_most : goal.returns-clause-turns_most
returns-clause-turns_most g c =
    let d = (goal.at.returns-clause-turns_most g c).After-write_losses-self-inside in
    omega (arith, c.write_losses-self-inside.ensures.goes_on.turns_most, c.write_losses-self-inside.ensures.ticks, few-of_case (of g d), found_is g d)
