-- Stations: the nodes that switches join, whether they are open or closed. When the link to a station fails, all of its meters are
-- lost at once.
use Rattle.std.specs.Prelude.{ℕ, ◌==◌, Bool, not, nat_lt, List, length, map, filter, slice_index}
use Rattle.std.specs.List.{range_with_len}
use Rattle.obs_case.specs.declared.rows.Branch.{Branch}
use Rattle.obs_case.specs.declared.rows.Kind.{Kind}
use Rattle.obs_case.specs.declared.rows.Kind.TheVariants.{Flow, Injection, Zero, Angle}
use Rattle.obs_case.specs.declared.rows.Meter.{Meter}
use Rattle.obs_case.specs.declared.rows.Switch.{Switch}
use Rattle.obs_case.specs.Tables.{Tables}
use Rattle.obs_switch.specs.declared.link.Link.{Link}
use Rattle.obs_switch.specs.Buses.{bus_count, buses_of, members_of}
use Rattle.obs_network.specs.Observable.{case_live_meters, rank_of_meters}
use Rattle.obs_station.specs.declared.losses.Loss.{Loss}

-- all switches as links, the open ones too
abbrev pub all_links : List Switch → List Link
all_links switches = map (λ (s : Switch). record { from = s.from; to = s.to }) switches

-- the station of each node; stations are numbered by their first nodes
abbrev pub case_stations : Tables → List ℕ
case_stations t = buses_of (length t.nodes) (all_links t.switches)

-- how many stations there are
abbrev pub case_station_count : Tables → ℕ
case_station_count t = bus_count (length t.nodes) (all_links t.switches)

-- the node of a meter of this kind at a place: of a flow the one from which its branch leads
abbrev pub place_node : Tables → Kind → ℕ → ℕ
place_node t Flow at = slice_index (map (λ (row : Branch). row.from) t.branches) at
place_node t Injection at = at
place_node t Zero at = at
place_node t Angle at = at

-- the station to which a meter belongs
abbrev pub station_of : Tables → Meter → ℕ
station_of t row = slice_index (case_stations t) (place_node t row.kind row.at)

-- the station of each meter
unfoldable pub meter_stations : Tables → List ℕ
meter_stations t = map (station_of t) t.meters

-- whether a meter belongs to a station
abbrev pub is_at : Tables → ℕ → ℕ → Bool
is_at t c m = slice_index (meter_stations t) m == c

-- the live meters of a station
abbrev pub station_meters : Tables → ℕ → List ℕ
station_meters t c = filter (is_at t c) (case_live_meters t)

-- the live meters of all other stations
abbrev pub other_meters : Tables → ℕ → List ℕ
other_meters t c = filter (λ m. not (is_at t c m)) (case_live_meters t)

-- the first node of a station, which names it
abbrev pub station_node : Tables → ℕ → ℕ
station_node t c = slice_index (members_of (case_stations t) c) 0

-- whether a station has a live meter
abbrev pub has_live : Tables → ℕ → Bool
has_live t c = nat_lt 0 (length (station_meters t c))

-- a station with the number of its live meters and the rank of the others
abbrev pub loss_of : Tables → ℕ → Loss
loss_of t c = record { node = station_node t c; lost = length (station_meters t c); rank = rank_of_meters t (other_meters t c) }

-- the stations with a live meter, in the order of their first nodes
unfoldable pub loss_stations : Tables → List ℕ
loss_stations t = filter (has_live t) (range_with_len 0 (case_station_count t))

-- the loss list of a case
unfoldable pub losses_of : Tables → List Loss
losses_of t = map (loss_of t) (loss_stations t)
