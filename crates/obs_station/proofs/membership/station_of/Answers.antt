use Rattle.std.proofs.Common.{ℕ, List, length, sym, ap, ◌∙◌, arith}
use Rattle.std.specs.Prelude.{slice_index, slice_index_or}
use Rattle.std.proofs.lemmas.List.{get_or-map}
use Rattle.std.proofs.lemmas.List.FromFn.{length-map-range_with_len}
use Rattle.obs_switch.specs.Buses.{bus_of}
use Rattle.obs_station.specs.Stations.{all_links, case_stations, meter_stations, station_of}
use Rattle.obs_station.proofs.membership.station_of.Goals as goal

pub bus-requires : goal.bus-requires
bus-requires c =
    let t = c.args.case.now in
    let low = c.place_node.ensures.below in
    let all = ap (λ (l : List ℕ). length l) c.requires.stations ∙ length-map-range_with_len (bus_of (all_links t.switches)) 0 (length t.nodes) in
    record { node = omega (arith, low, all) }

pub returns-clause-station : goal.returns-clause-station
unfolding meter_stations
returns-clause-station c =
    let t = c.args.case.now in
    let row = c.index-meters-m.result in
    let is = c.index-meters-m.is ∙ ap (λ rows. slice_index_or rows c.args.m row) c.meters.ensures.rows in
    c.bus.ensures.bus
    ∙ (ap (λ (b : List ℕ). slice_index b c.place_node.result) c.requires.stations
    ∙ (ap (slice_index (case_stations t)) c.place_node.ensures.node ∙ (ap (station_of t) is ∙ sym (get_or-map (station_of t) t.meters c.args.m row 0 c.requires.meter))))
